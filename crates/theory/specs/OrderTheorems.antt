-- What is proved of the order of search: the pair found is the first, by the position of its first element and then by that of its second,
-- and the dependency found is the first with such a pair. Testing a database searches with the same functions.
-- Each statement is proved in `proofs/Theorems`.
use Rattle.std.specs.Prelude.{◌≡◌, ◌≢◌, ◌↔◌, Bool, true, false, List, [], ◌∷◌, ◌++◌}
use Rattle.std.proofs.Math.Option.{Option, none, some}
use Rattle.theory.specs.Query.{Entry, constant, Row, Query, column, ◌∈◌}
use Rattle.theory.specs.Database.{Dependency, Agree}
use Rattle.theory.specs.Chase.{Resolution, first_pair, first_found, breaks, resolve, in_head, step}

-- ---- pairs

-- No pair of an element of the first list and one that stands after it, there or in the second list, passes a test
abbrev pub NoPair : {A : Type 0} → (A → A → Bool) → List A → List A → Type 0
NoPair test [] later = Unit {0}
NoPair {A} test (x ∷ xs) later = ((y : A) → y ∈ xs ++ later → test x y ≡ false) × NoPair test xs later

-- x and y stand in the list in this order and pass a test; no pair that begins before x does, and none that begins with x and ends before y
pub record FirstPair {A : Type 0} (test : A → A → Bool) (xs : List A) (x y : A) : Type 0 where
  pub before : List A
  pub between : List A
  pub after : List A
  pub places : xs ≡ before ++ x ∷ (between ++ y ∷ after)
  pub passes : test x y ≡ true
  pub none_before : NoPair test before (x ∷ (between ++ y ∷ after))
  pub none_between : (z : A) → z ∈ between → test x z ≡ false

-- The pair found is the first
abbrev pub FirstPairIsFirst : Type 1
FirstPairIsFirst = (A : Type 0) (test : A → A → Bool) (xs : List A) (x y : A) → first_pair test xs ≡ some (x, y) → FirstPair test xs x y

-- Where none is found there is none
abbrev pub NoPairFound : Type 1
NoPairFound = (A : Type 0) (test : A → A → Bool) (xs : List A) → first_pair test xs ≡ none → NoPair test xs []

-- ---- the first for which something is found

-- d stands in the list, x is found for it, and nothing for those before it
pub record FirstFound {D A : Type 0} (find : D → Option A) (ds : List D) (d : D) (x : A) : Type 0 where
  pub before : List D
  pub after : List D
  pub places : ds ≡ before ++ d ∷ after
  pub found : find d ≡ some x
  pub none_before : (c : D) → c ∈ before → find c ≡ none

-- What is found is found for the first
abbrev pub FirstFoundIsFirst : Type 1
FirstFoundIsFirst = (D A : Type 0) (find : D → Option A) (ds : List D) (d : D) (x : A) → first_found find ds ≡ some (d, x) → FirstFound find ds d x

-- ---- the chase's step

-- Two rows break a dependency: both are of its relation, agree on every left column and differ on the right
pub record Broken (d : Dependency) (r s : Row Entry) : Type 0 where
  pub first-relation : r.relation ≡ d.relation
  pub second-relation : s.relation ≡ d.relation
  pub agree_left : Agree (constant 0) d.left r s
  pub differ-right : column (constant 0) r d.right ≢ column (constant 0) s d.right

-- `breaks` tests just that
abbrev pub BreaksExactly : Type 0
BreaksExactly = (d : Dependency) (r s : Row Entry) → (breaks d r s ≡ true) ↔ Broken d r s

-- A step is what the right entries lead to, of the first pair of rows that breaks the first dependency that is broken
pub record FirstStep (ds : List Dependency) (q : Query) (o : Resolution) : Type 0 where
  pub dependency : Dependency
  pub first : Row Entry
  pub second : Row Entry
  pub held : FirstFound (λ d. first_pair (breaks d) q.rows) ds dependency (first, second)
  pub pair : FirstPair (breaks dependency) q.rows first second
  pub leads : o ≡ resolve (in_head q) (column (constant 0) first dependency.right) (column (constant 0) second dependency.right)

-- A step of the chase is one on the first broken pair
abbrev pub StepIsFirst : Type 0
StepIsFirst = (ds : List Dependency) (q : Query) (o : Resolution) → step ds q ≡ some o → FirstStep ds q o
