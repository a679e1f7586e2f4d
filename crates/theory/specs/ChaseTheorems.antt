-- What is proved of the chase. Each statement is proved in `proofs/Theorems`.
use Rattle.std.specs.Prelude.{◌≡◌, ◌≢◌, ◌↔◌, ◌⊎◌, List, [], ℕ, zero, suc, ◌+◌, ◌≤◌, ◌<◌, length}
use Rattle.std.proofs.Math.Option.{none, some}
use Rattle.theory.specs.Query.{Entry, constant, variable, Row, Query, never, map_query, variables_of, variable_count, RowsFit, WellFormed, ◌∈◌}
use Rattle.theory.specs.Database.{Database, Dependency, Obeys, Legal}
use Rattle.theory.specs.Answer.{Answer, Mapping}
use Rattle.theory.specs.Chase.{clash, replace, resolve, in_head, substitute, step, Chases, chase}
use Rattle.theory.specs.Containment.{frozen_rows, ConstantsBelow}
use Rattle.theory.specs.OrderTheorems.{Broken}

-- ---- the chase ends, in one way

-- The chase ends
abbrev pub ChaseEnds : Type 0
ChaseEnds = (ds : List Dependency) (q : Query) → (result : Query) × (count : ℕ) × Chases ds q result count

-- in one result, after one number of replacements
abbrev pub ChaseUnique : Type 0
ChaseUnique = (ds : List Dependency) (q r s : Query) (m n : ℕ) → Chases ds q r m → Chases ds q s n → (r ≡ s) × (m ≡ n)

-- and `chase` computes the two
abbrev pub ChaseComputes : Type 0
ChaseComputes =
    (ds : List Dependency) (q result : Query) (count : ℕ) → Chases ds q result count ↔ (chase ds q ≡ record { query = result; count = count })

-- It rests exactly where no two rows break a dependency
abbrev pub RestsExactly : Type 0
RestsExactly =
    (ds : List Dependency) (q : Query)
    → (step ds q ≡ none) ↔ ((d : Dependency) → d ∈ ds → (r s : Row Entry) → r ∈ q.rows → s ∈ q.rows → Broken d r s → ⊥)

-- ---- the count

-- `Replacements ds q n last`: the first n steps of the chase of q are replacements, and they lead to `last`
pub data Replacements (ds : List Dependency) : Query → ℕ → Query → Type 0 where
  start : {q : Query} → Replacements ds q zero q
  next : {q last : Query} {v n : ℕ} {e : Entry}
      → step ds q ≡ some (replace v e) → Replacements ds (map_query (substitute v e) q) n last → Replacements ds q (suc n) last

-- After so many replacements the chase of q rests in `result`
abbrev pub RestsAfter : List Dependency → Query → Query → ℕ → Type 0
RestsAfter ds q result count = Replacements ds q count result × (step ds result ≡ none)

-- After so many replacements the chase of q comes to a clash
abbrev pub ClashesAfter : List Dependency → Query → ℕ → Type 0
ClashesAfter ds q count = (last : Query) × Replacements ds q count last × (step ds last ≡ some clash)

-- The chase rests after its count of replacements, or that many come before a clash and its result is never
abbrev pub CountCases : Type 0
CountCases =
    (ds : List Dependency) (q result : Query) (count : ℕ)
    → Chases ds q result count ↔ (RestsAfter ds q result count ⊎ (ClashesAfter ds q count × (result ≡ never (length q.head))))

-- Without a clash the count is the number of different variables before less the number after
abbrev pub CountWithoutClash : Type 0
CountWithoutClash =
    (ds : List Dependency) (q result : Query) (count : ℕ) → RestsAfter ds q result count → count + variable_count result ≡ variable_count q

-- With a clash or without, the count is at most the number of different variables
abbrev pub CountAtMost : Type 0
CountAtMost = (ds : List Dependency) (q result : Query) (count : ℕ) → Chases ds q result count → count ≤ variable_count q

-- Never stays never, with count 0
abbrev pub NeverStays : Type 0
NeverStays = (ds : List Dependency) (q : Query) → q.rows ≡ [] → Chases ds q q 0

-- The result is never exactly when the query is, or its chase comes to a clash
abbrev pub NeverExactly : Type 0
NeverExactly =
    (ds : List Dependency) (q result : Query) (count : ℕ) → Chases ds q result count
    → (result.rows ≡ []) ↔ ((q.rows ≡ []) ⊎ ClashesAfter ds q count)

-- ---- answers

-- On every database that obeys the dependencies, the chased query has the answers of the query
abbrev pub ChaseKeepsAnswers : Type 0
ChaseKeepsAnswers =
    (ds : List Dependency) (q result : Query) (count : ℕ) → Chases ds q result count
    → (D : Database) → Obeys ds D → (t : List ℕ) → Answer D q t ↔ Answer D result t

-- A query whose chase comes to a clash has no answer there
abbrev pub ClashMeansNoAnswers : Type 0
ClashMeansNoAnswers =
    (ds : List Dependency) (q : Query) (count : ℕ) → ClashesAfter ds q count → (D : Database) → Obeys ds D → (t : List ℕ) → Answer D q t → ⊥

-- Unless it is never, the chased query receives a mapping from the query
abbrev pub ChaseMaps : Type 0
ChaseMaps = (ds : List Dependency) (q result : Query) (count : ℕ) → Chases ds q result count → result.rows ≢ [] → Mapping q result

-- ---- the chased query

-- The chased query is well-formed, with a head of the same length
abbrev pub ChasedWellFormed : Type 0
ChasedWellFormed =
    (widths : List ℕ) (ds : List Dependency) (q result : Query) (count : ℕ) → Chases ds q result count
    → WellFormed widths q → WellFormed widths result × (length result.head ≡ length q.head)

-- Read as a database it is legal
abbrev pub ChasedLegal : Type 0
ChasedLegal =
    (widths : List ℕ) (ds : List Dependency) (q result : Query) (count base : ℕ) → Chases ds q result count
    → RowsFit widths q → 0 < base → ConstantsBelow base q → Legal widths ds (frozen_rows base result)

-- ---- the survivor

-- Where entry e and variable v of a query must be equal, e replaces v, whichever of the two is found first
abbrev pub Survives : Query → Entry → ℕ → Type 0
Survives q e v = (resolve (in_head q) e (variable v) ≡ replace v e) × (resolve (in_head q) (variable v) e ≡ replace v e)

-- A constant survives a variable
abbrev pub ConstantSurvives : Type 0
ConstantSurvives = (q : Query) (n v : ℕ) → Survives q (constant n) v

-- A variable in the head survives one that is not
abbrev pub HeadSurvives : Type 0
HeadSurvives = (q : Query) (v w : ℕ) → v ∈ variables_of q.head → (w ∈ variables_of q.head → ⊥) → Survives q (variable v) w

-- Of two variables that are both in the head, or both not, the lower number survives
abbrev pub LowerSurvives : Type 0
LowerSurvives =
    (q : Query) (v w : ℕ) → (v ∈ variables_of q.head) ↔ (w ∈ variables_of q.head) → v < w → Survives q (variable v) w

-- Two constants clash
abbrev pub ConstantsClash : Type 0
ConstantsClash = (q : Query) (m n : ℕ) → resolve (in_head q) (constant m) (constant n) ≡ clash
