-- What is proved of answers, databases and mappings. Each statement is proved in `proofs/Theorems`.
use Rattle.std.specs.Prelude.{◌≡◌, ◌≢◌, ◌↔◌, List, [], ◌∷◌, ℕ, length}
use Rattle.theory.specs.Query.{Row, Query, column, FitsSchema, ◌∈◌}
use Rattle.theory.specs.Database.{Database, Dependency, ObeysOne, Obeys, Sound}
use Rattle.theory.specs.Answer.{Answer, Mapping}

-- The never query has no answer anywhere, whatever its head's length
abbrev pub NeverHasNoAnswer : Type 0
NeverHasNoAnswer = (D : Database) (q : Query) (t : List ℕ) → q.rows ≡ [] → Answer D q t → ⊥

-- An answer is as long as the head
abbrev pub AnswerLength : Type 0
AnswerLength = (D : Database) (q : Query) (t : List ℕ) → Answer D q t → length t ≡ length q.head

-- So with a head of length 0 the only possible answer is the empty one
abbrev pub EmptyHead : Type 0
EmptyHead = (D : Database) (q : Query) (t : List ℕ) → q.head ≡ [] → Answer D q t → t ≡ []

-- Of a database only which rows stand in it counts: not their order, not repeats
abbrev pub OnlyRowsCount : Type 0
OnlyRowsCount =
    (D E : Database) → ((r : Row ℕ) → (r ∈ D) ↔ (r ∈ E))
    → ((q : Query) (t : List ℕ) → Answer D q t ↔ Answer E q t)
    × ((ds : List Dependency) → Obeys ds D ↔ Obeys ds E)
    × ((widths : List ℕ) → Sound widths D ↔ Sound widths E)

-- A row has as many values as its own relation has columns: under the widths 2 and 3 a row of relation 1 with three values fits
abbrev pub OwnWidth : Type 0
OwnWidth = FitsSchema {A = ℕ} (2 ∷ 3 ∷ []) (record { relation = 1; values = 5 ∷ 6 ∷ 7 ∷ [] })

-- A column never varies: in a database all rows of the relation have one value there
abbrev pub NeverVaries : ℕ → ℕ → Database → Type 0
NeverVaries relation c D =
    (r s : Row ℕ) → r ∈ D → s ∈ D → r.relation ≡ relation → s.relation ≡ relation → column 0 r c ≡ column 0 s c

-- A dependency without left columns says of its right column that it never varies
abbrev pub NoLeftColumn : Type 0
NoLeftColumn = (d : Dependency) (D : Database) → d.left ≡ [] → ObeysOne d D ↔ NeverVaries d.relation d.right D

-- There is no mapping from never, and none to it
abbrev pub NeverHasNoMapping : Type 0
NeverHasNoMapping = (S T : Query) → Mapping S T → (S.rows ≢ []) × (T.rows ≢ [])

-- Answers go back along a mapping: where S maps to T, each answer of T is one of S, on every database
abbrev pub MappingGivesAnswers : Type 0
MappingGivesAnswers = (S T : Query) → Mapping S T → (D : Database) (t : List ℕ) → Answer D T t → Answer D S t
