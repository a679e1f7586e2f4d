-- Containment of queries over a class of databases, and a query read as a database. The class of demand 2 is `LegalForBothAsRead` of `joins`.
use Rattle.std.specs.Prelude.{◌≢◌, ◌↔◌, List, [], map, ℕ, ◌+◌, ◌<◌}
use Rattle.theory.specs.Query.{Entry, constant, Query, map_row, row_entries, ◌∈◌}
use Rattle.theory.specs.Database.{Database}
use Rattle.theory.specs.Answer.{Answer, value_of, itself}

-- p is contained in q over a class of databases: on each of them, each answer of p is an answer of q
abbrev pub Contained : (Database → Type 0) → Query → Query → Type 0
Contained C p q = (D : Database) → C D → (t : List ℕ) → Answer D p t → Answer D q t

-- The database D and the tuple t show that it is not: D is of the class, and t is an answer of p on it and not of q
pub record Counterexample (C : Database → Type 0) (p q : Query) (D : Database) (t : List ℕ) : Type 0 where
  pub within : C D
  pub answer : Answer D p t
  pub no_answer : Answer D q t → ⊥

-- An entry read as a number: a constant as itself, variable v as base + v
abbrev pub freeze : ℕ → Entry → ℕ
freeze base = value_of itself (λ v. base + v)

-- The rows of a query read as a database
abbrev pub frozen_rows : ℕ → Query → Database
frozen_rows base q = map (map_row (freeze base)) q.rows

-- The head of a query read as an answer
abbrev pub frozen_head : ℕ → Query → List ℕ
frozen_head base q = map (freeze base) q.head

-- Each constant of the query is below the base, so that the reading keeps entries apart
pub record ConstantsBelow (base : ℕ) (q : Query) : Type 0 where
  pub of-head : (n : ℕ) → constant n ∈ q.head → n < base
  pub of-rows : (n : ℕ) → constant n ∈ row_entries q.rows → n < base

-- What a chase is for: `chased` has the answers of p on each database of the class, and, unless it is never, is one of them, read as
-- a database that keeps its entries apart
pub record StandsFor (C : Database → Type 0) (base : ℕ) (p chased : Query) : Type 0 where
  pub answers : (D : Database) → C D → (t : List ℕ) → Answer D p t ↔ Answer D chased t
  pub frozen : chased.rows ≢ [] → C (frozen_rows base chased)
  pub below : ConstantsBelow base chased
