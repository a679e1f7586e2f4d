-- What the answer of a test means where join dependencies are held: which is broken first, and by which rows first. `proofs/Means` has the proofs.
use Rattle.std.specs.Prelude.{◌≡◌, ◌⊎◌, ◌↔◌, List, [], ◌∷◌, ℕ, ◌≤◌, ◌<◌, length, get_or, None, Some}
use Rattle.lists.specs.Over.{pad}
use Rattle.theory.specs.Query.{Row, FitsSchema, ◌∈◌}
use Rattle.theory.specs.Database.{Database, Dependency, JoinDependency, Agree, Obeys, Sound}
use Rattle.joins.specs.Join.{JoinsFit, ObeysBoth}
use Rattle.words.specs.Broken.{nth_row, FirstBroken}
use Rattle.words.specs.declared.Violation.TheVariants.{Functional, Join}
use Rattle.join_testing.specs.Unmet.{violation_in}

-- The rows at some positions, one for each set, are of the relation of a row, and each agrees with it on its set
abbrev pub GoWith : List (List ℕ) → Database → Row ℕ → List ℕ → Type 0
GoWith [] D r [] = Unit {0}
GoWith [] D r (p ∷ ps) = ⊥
GoWith (set ∷ sets) D r [] = ⊥
GoWith (set ∷ sets) D r (p ∷ ps) = (p < length D) × ((nth_row D p).relation ≡ r.relation) × Agree 0 set (nth_row D p) r × GoWith sets D r ps

-- The rows at some positions break a join dependency: they go with a row of its relation that is not there. As its sets have all columns, that is the row
-- that they yield, and they agree where sets overlap
pub record BreaksJoin (schema : List ℕ) (j : JoinDependency) (D : Database) (ps : List ℕ) : Type 0 where
  pub row : Row ℕ
  pub fits : FitsSchema schema row
  pub relation : row.relation ≡ j.relation
  pub chosen : GoWith j.sets D row ps
  pub absent : row ∈ D → ⊥

-- One list of positions comes before another: by the first position in which they differ
abbrev pub Earlier : List ℕ → List ℕ → Type 0
Earlier [] qs = ⊥
Earlier (p ∷ ps) [] = ⊥
Earlier (p ∷ ps) (q ∷ qs) = (p < q) ⊎ ((p ≡ q) × Earlier ps qs)

-- The rows at these positions are the first choice of rows that break a join dependency
pub record FirstChoice (schema : List ℕ) (j : JoinDependency) (D : Database) (ps : List ℕ) : Type 0 where
  pub breaks : BreaksJoin schema j D ps
  pub before : (qs : List ℕ) → Earlier qs ps → BreaksJoin schema j D qs → ⊥

-- The join dependency at a position of a list
abbrev pub nth_join : List JoinDependency → ℕ → JoinDependency
nth_join js k = get_or js k (record { relation = 0; sets = [] })

-- Join dependency k is the first in held order that some rows break, and the rows at these positions are its first choice
pub record FirstUnmet (schema : List ℕ) (js : List JoinDependency) (D : Database) (k : ℕ) (ps : List ℕ) : Type 0 where
  pub held : k < length js
  pub first : FirstChoice schema (nth_join js k) D ps
  pub dependencies-before : (l : ℕ) → l < k → (qs : List ℕ) → BreaksJoin schema (nth_join js l) D qs → ⊥

-- Each join dependency has at most 4 sets
abbrev pub FewSets : List JoinDependency → Type 0
FewSets js = (j : JoinDependency) → j ∈ js → length j.sets ≤ 4

-- A test finds nothing exactly when the database obeys both kinds
abbrev pub ObeysMeans : Type 0
ObeysMeans =
    (schema : List ℕ) (ds : List Dependency) (js : List JoinDependency) (D : Database) → JoinsFit schema js → Sound schema D
    → (violation_in schema ds js D ≡ None) ↔ ObeysBoth schema ds js D

-- It answers functional dependency k and rows i and j exactly when they are the first, whatever join dependencies are held
abbrev pub BrokenFirst : Type 0
BrokenFirst =
    (schema : List ℕ) (ds : List Dependency) (js : List JoinDependency) (D : Database) (k i j : ℕ)
    → (violation_in schema ds js D ≡ Some (Functional k i j)) ↔ FirstBroken ds D k i j

-- It answers join dependency k and some rows exactly when the functional dependencies are obeyed and they are the first, with 0 where there is no set
abbrev pub JoinedMeans : Type 0
JoinedMeans =
    (schema : List ℕ) (ds : List Dependency) (js : List JoinDependency) (D : Database) (k a b c d : ℕ) → JoinsFit schema js → FewSets js → Sound schema D
    → (violation_in schema ds js D ≡ Some (Join k (a ∷ b ∷ c ∷ d ∷ [])))
    ↔ (Obeys ds D × (ps : List ℕ) × (pad 4 0 ps ≡ a ∷ b ∷ c ∷ d ∷ []) × FirstUnmet schema js D k ps)
