-- What the answer of a test means: which dependency is broken first, and by which rows first. `proofs/Broken` has the proofs.
use Rattle.std.specs.Prelude.{◌≡◌, ◌⊎◌, ◌↔◌, List, [], ℕ, ◌<◌, length, get_or}
use Rattle.std.specs.Prelude.{Option as Maybe, None, Some}
use Rattle.std.proofs.Math.Option.{Option, none, some}
use Rattle.theory.specs.Query.{Row, column}
use Rattle.theory.specs.Database.{Database, Dependency, Agree, Obeys}
use Rattle.words.specs.declared.Violation.{Violation}
use Rattle.words.specs.declared.Violation.TheVariants.{Functional}
use Rattle.words.specs.Testing.{first_broken_from}

-- The positions of a dependency and of its pair of rows that are found
abbrev pub violation_of : Option ((ℕ × Dependency) × ((ℕ × Row ℕ) × (ℕ × Row ℕ))) → Maybe Violation
violation_of none = None
violation_of (some found) = Some (Functional found.0.0 found.1.0.0 found.1.1.0)

-- The row at a position of a database
abbrev pub nth_row : Database → ℕ → Row ℕ
nth_row D k = get_or D k (record { relation = 0; values = [] })

-- The dependency at a position of a list
abbrev pub nth_dependency : List Dependency → ℕ → Dependency
nth_dependency ds k = get_or ds k (record { relation = 0; left = []; right = 0 })

-- Rows i and j, i before j, break a dependency: both are of its relation, agree on its left columns and differ on its right one
pub record BrokenBy (d : Dependency) (D : Database) (i j : ℕ) : Type 0 where
  pub order : i < j
  pub inside : j < length D
  pub first-relation : (nth_row D i).relation ≡ d.relation
  pub second-relation : (nth_row D j).relation ≡ d.relation
  pub agree : Agree 0 d.left (nth_row D i) (nth_row D j)
  pub differ : column 0 (nth_row D i) d.right ≡ column 0 (nth_row D j) d.right → ⊥

-- Dependency k is the first in held order that some rows break, and rows i and j are the first that break it, by i, then by j
pub record FirstBroken (ds : List Dependency) (D : Database) (k i j : ℕ) : Type 0 where
  pub held : k < length ds
  pub broken : BrokenBy (nth_dependency ds k) D i j
  pub dependencies-before : (l : ℕ) → l < k → (a b : ℕ) → BrokenBy (nth_dependency ds l) D a b → ⊥
  pub rows_before : (a b : ℕ) → (a < i) ⊎ ((a ≡ i) × (b < j)) → BrokenBy (nth_dependency ds k) D a b → ⊥

-- A test answers dependency k and rows i and j exactly when they are the first
abbrev pub BrokenMeans : Type 0
BrokenMeans = (ds : List Dependency) (D : Database) (k i j : ℕ) → (violation_of (first_broken_from 0 ds D) ≡ Some (Functional k i j)) ↔ FirstBroken ds D k i j

-- It finds nothing exactly when the database obeys the dependencies
abbrev pub ObeysMeans : Type 0
ObeysMeans = (ds : List Dependency) (D : Database) → (violation_of (first_broken_from 0 ds D) ≡ None) ↔ Obeys ds D
