-- Constants that were renumbered. Each old code, in a query or in a database, is read as its current one before anything else is done.
use Rattle.std.specs.Prelude.{◌≡◌, ◌≢◌, false, cond, List, [], ◌∷◌, map, ℕ, eqb}
use Rattle.theory.specs.Query.{Entry, constant, variable, Row, Query, map_row, row_entries, member, ◌∈◌}
use Rattle.theory.specs.Database.{Database, Dependency, Legal}

-- A code that was renumbered, and the one that it has now
pub record CodePair : Type 0 where
  pub old : ℕ
  pub current : ℕ

-- A number as it is read: an old code as its current one, any other number as itself
unfoldable pub read_code : List CodePair → ℕ → ℕ
read_code [] n = n
read_code (p ∷ ps) n = cond (eqb n p.old) p.current (read_code ps n)

-- An entry as it is read: variables are no codes
abbrev pub read_entry : List CodePair → Entry → Entry
read_entry ps (constant n) = constant (read_code ps n)
read_entry ps (variable v) = variable v

-- The head of a query as it is read. Of never only its length means anything, so it stays
unfoldable pub read_head : List CodePair → List (Row Entry) → List Entry → List Entry
read_head ps [] head = head
read_head ps (r ∷ rows) head = map (read_entry ps) head

-- A query as it is read: each constant of its head and its rows
abbrev pub read_query : List CodePair → Query → Query
read_query ps q = record { head = read_head ps q.rows q.head; rows = map (map_row (read_entry ps)) q.rows }

-- A database as it is read: each value of its rows. The number of a relation is no code
abbrev pub read_database : List CodePair → Database → Database
read_database ps D = map (map_row (read_code ps)) D

-- The old codes of some pairs
abbrev pub old_codes : List CodePair → List ℕ
old_codes ps = map (λ p. p.old) ps

-- A database without old codes: no value of its rows is one
abbrev pub WithoutOld : List CodePair → Database → Type 0
WithoutOld ps D = (r : Row ℕ) → r ∈ D → (n : ℕ) → n ∈ r.values → member n (old_codes ps) ≡ false

-- A query without old codes: no constant of its head or its rows is one. Of the head of never only its length means anything
pub record QueryWithoutOld (ps : List CodePair) (q : Query) : Type 0 where
  pub of-head : q.rows ≢ [] → (n : ℕ) → constant n ∈ q.head → member n (old_codes ps) ≡ false
  pub of-rows : (n : ℕ) → constant n ∈ row_entries q.rows → member n (old_codes ps) ≡ false

-- No current code is an old one, so that to read twice is to read once
abbrev pub CurrentStay : List CodePair → Type 0
CurrentStay ps = (p : CodePair) → p ∈ ps → member p.current (old_codes ps) ≡ false

-- The databases that statements speak of: legal for the schema and the functional dependencies, and without old codes. For both kinds of dependencies see
-- `LegalForBothAsRead` of `joins`
pub record LegalAsRead (ps : List CodePair) (widths : List ℕ) (ds : List Dependency) (D : Database) : Type 0 where
  pub legal : Legal widths ds D
  pub current : WithoutOld ps D
