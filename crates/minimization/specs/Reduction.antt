-- What a result of reduction is, whichever rows stay in which order, and what demand 3 asks of it. The one that is given is `reduced` (`Kept`).
use Rattle.std.specs.Prelude.{◌≡◌, ◌≢◌, ◌↔◌, List, [], ℕ, ◌≤◌, length}
use Rattle.theory.specs.Query.{Entry, Row, Query, ◌∈◌, without}
use Rattle.theory.specs.Database.{Database, Dependency}
use Rattle.theory.specs.Codes.{CodePair, read_query}
use Rattle.theory.specs.Answer.{Answer, Mapping}
use Rattle.theory.specs.Chase.{chase}

-- A query without one of its rows
abbrev pub drop_row : {r : Row Entry} (q : Query) → r ∈ q.rows → Query
drop_row q at = record { head = q.head; rows = without q.rows at }

-- A core: the query cannot be mapped into itself without one of its rows
abbrev pub Core : Query → Type 0
Core q = (r : Row Entry) (at : r ∈ q.rows) → Mapping q (drop_row q at) → ⊥

-- A result of reduction of S: the chased head with some of the chased rows, into which the chased query can be mapped and from which no row can go.
-- This leaves open which rows stay and in which order. Where S chases to never, the result is that never
pub record Reduction (ds : List Dependency) (S T : Query) : Type 0 where
  pub head : T.head ≡ (chase ds S).query.head
  pub rows : (r : Row Entry) → r ∈ T.rows → r ∈ (chase ds S).query.rows
  pub receives : (chase ds S).query.rows ≢ [] → Mapping (chase ds S).query T
  pub core : Core T

-- `Shrinks q T`: T is what q comes to by losing rows, one at a time, while it can be mapped into itself without one of them.
-- The results of reduction are these, up to the order of rows (`ReductionTheorems`)
pub data Shrinks : Query → Query → Type 0 where
  stays : {q : Query} → Core q → Shrinks q q
  loses : {q T : Query} {r : Row Entry} (at : r ∈ q.rows) → Mapping q (drop_row q at) → Shrinks (drop_row q at) T → Shrinks q T

-- U has the rows of T and as many, so where T has no row twice its rows in another order
pub record Reordered (T U : Query) : Type 0 where
  pub head : U.head ≡ T.head
  pub into : (r : Row Entry) → r ∈ T.rows → r ∈ U.rows
  pub back : (r : Row Entry) → r ∈ U.rows → r ∈ T.rows
  pub size : length U.rows ≡ length T.rows

-- p and q have the same answers on every database of a class: t is an answer of the one exactly when it is one of the other.
-- `∥ ∥₁` asks only that there is an assignment, not which
abbrev pub Equivalent : (Database → Type 0) → Query → Query → Type 0
Equivalent C p q = (D : Database) → C D → (t : List ℕ) → ∥ Answer D p t ∥₁ ↔ ∥ Answer D q t ∥₁

-- R is a rival of S over a class of databases: a query of the same head length with the same answers on each of them, whatever its rows, variables and constants.
-- `width` is what SPECIFICATION, The demands, asks of rivals; no proof needs it
pub record Rival (C : Database → Type 0) (S R : Query) : Type 0 where
  pub width : length R.head ≡ length S.head
  pub same : Equivalent C S R

-- No rival of S has fewer rows than T
abbrev pub Minimal : (Database → Type 0) → Query → Query → Type 0
Minimal C S T = (R : Query) → Rival C S R → length T.rows ≤ length R.rows

-- No query that, as it is read, is a rival of S has fewer rows than T
abbrev pub MinimalAsRead : List CodePair → (Database → Type 0) → Query → Query → Type 0
MinimalAsRead ps C S T = (R : Query) → Rival C S (read_query ps R) → length T.rows ≤ length R.rows
