-- What is proved of determined columns. Each statement is proved in `proofs/Theorems`.
use Rattle.std.specs.Prelude.{◌≡◌, ◌↔◌, List, [], ℕ, ◌<◌, length, get_or}
use Rattle.theory.specs.Query.{◌∈◌}
use Rattle.theory.specs.Database.{Database, Dependency, Legal}
use Rattle.theory.specs.AnswerTheorems.{NeverVaries}
use Rattle.determination.specs.Determined.{Determines, Determined, FitsColumns, Increasing, determined}

-- `determined` lists just the determined columns
abbrev pub DeterminedExactly : Type 0
DeterminedExactly =
    (widths : List ℕ) (ds : List Dependency) (relation : ℕ) (left : List ℕ)
    → ((d : Dependency) → d ∈ ds → FitsColumns widths d) → relation < length widths
    → (c : ℕ) → (c ∈ determined ds relation (get_or widths relation 0) left) ↔ Determined widths ds relation left c

-- in ascending order, so each once
abbrev pub DeterminedAscending : Type 0
DeterminedAscending = (ds : List Dependency) (relation width : ℕ) (left : List ℕ) → Increasing (determined ds relation width left)

-- and every ascending list of them is the same list, so that their number is its length
abbrev pub DeterminedUnique : Type 0
DeterminedUnique =
    (widths : List ℕ) (ds : List Dependency) (relation : ℕ) (left : List ℕ)
    → ((d : Dependency) → d ∈ ds → FitsColumns widths d) → relation < length widths
    → (cs : List ℕ) → Increasing cs → ((c : ℕ) → (c ∈ cs) ↔ Determined widths ds relation left c)
    → cs ≡ determined ds relation (get_or widths relation 0) left

-- The empty set determines a column exactly when the column never varies in every legal database
abbrev pub DeterminedByNone : Type 0
DeterminedByNone =
    (widths : List ℕ) (ds : List Dependency) (relation c : ℕ)
    → Determines widths ds relation [] c ↔ ((D : Database) → Legal widths ds D → NeverVaries relation c D)
