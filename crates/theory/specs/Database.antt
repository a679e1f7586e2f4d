-- Databases of whole numbers, functional dependencies, what obeying them means, and the legal databases. What it is to obey a join dependency is in
-- `joins/specs/Join`.
use Rattle.std.specs.Prelude.{◌≡◌, List, ℕ}
use Rattle.theory.specs.Query.{Row, column, FitsSchema, ◌∈◌}

-- A database is a finite set of rows of whole numbers. It is given as a list, and only which rows stand in it counts:
-- no definition reads their order or repeats
abbrev pub Database : Type 0
Database = List (Row ℕ)

-- A functional dependency of a relation: its left columns determine its right column
pub record Dependency : Type 0 where
  pub relation : ℕ
  pub left : List ℕ
  pub right : ℕ

-- A join dependency of a relation: the relation is the join of its projections on the sets of columns
pub record JoinDependency : Type 0 where
  pub relation : ℕ
  pub sets : List (List ℕ)

-- Two rows have the same value in each of the given columns
abbrev pub Agree : {A : Type 0} → A → List ℕ → Row A → Row A → Type 0
Agree z columns r s = (c : ℕ) → c ∈ columns → column z r c ≡ column z s c

-- A database obeys a dependency when two rows of its relation that agree on all left columns agree on the right one
abbrev pub ObeysOne : Dependency → Database → Type 0
ObeysOne d D =
    (r s : Row ℕ) → r ∈ D → s ∈ D → r.relation ≡ d.relation → s.relation ≡ d.relation
    → Agree 0 d.left r s → column 0 r d.right ≡ column 0 s d.right

-- A database obeys a list of dependencies when it obeys each
abbrev pub Obeys : List Dependency → Database → Type 0
Obeys ds D = (d : Dependency) → d ∈ ds → ObeysOne d D

-- A sound database: each row is of a known relation and of its width
abbrev pub Sound : List ℕ → Database → Type 0
Sound widths D = (r : Row ℕ) → r ∈ D → FitsSchema widths r

-- A legal database for a schema and functional dependencies: its rows fit the schema, and it obeys the dependencies. For both kinds see `LegalForBoth` of
-- `joins`
pub record Legal (widths : List ℕ) (ds : List Dependency) (D : Database) : Type 0 where
  pub sound : Sound widths D
  pub obeys : Obeys ds D
