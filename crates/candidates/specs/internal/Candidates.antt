-- Rows as codes of entries, 8 to a row: a code from 2,147,483,648 on is a variable's, a smaller one a constant's.
-- First when images of rows are consistent, then the rows, candidates, masks and table that the search is given.
use Rattle.std.specs.Prelude.{◌≡◌, Bool, true, cond, List, ◌↔◌, ℕ, ◌+◌, ◌*◌, ◌^◌, ◌≤◌, ◌<◌, eqb, get_or, length}
use Rattle.consistency.specs.internal.Solution.{Bit as Has, together as goes}

-- The row at q, with its image at e, takes the code `value` to `image` wherever it has it
abbrev pub Takes : List ℕ → List ℕ → ℕ → ℕ → ℕ → ℕ → Type 0
Takes source target value image q e = (j : ℕ) → j < 8 → get_or source (q + j) 0 ≡ value → get_or target (e + j) 0 ≡ image

-- The rows at r and q, with their images at d and e, take each variable that they share to one code
abbrev pub Agrees : List ℕ → List ℕ → ℕ → ℕ → ℕ → ℕ → Type 0
Agrees source target r d q e =
    (i : ℕ) → i < 8 → 2147483648 ≤ get_or source (r + i) 0 → Takes source target (get_or source (r + i) 0) (get_or target (d + i) 0) q e

-- The image at d has each constant of the row at r in its place
abbrev pub Fixes : List ℕ → List ℕ → ℕ → ℕ → Type 0
Fixes source target r d = (i : ℕ) → i < 8 → get_or source (r + i) 0 < 2147483648 → get_or target (d + i) 0 ≡ get_or source (r + i) 0

-- The rows at a and b have the same codes
abbrev pub SameRow : List ℕ → ℕ → ℕ → Type 0
SameRow target a b = (i : ℕ) → i < 8 → get_or target (a + i) 0 ≡ get_or target (b + i) 0

-- Row d of a target is the same as an earlier one of the same relation
abbrev pub Repeats : List ℕ → List ℕ → ℕ → Type 0
Repeats target offered d = (e : ℕ) × (e < d) × (get_or offered e 0 ≡ get_or offered d 0) × SameRow target (8 * e) (8 * d)

-- e is row d or, where that is the same as an earlier one, such a row
abbrev pub IsFirstLike : List ℕ → List ℕ → ℕ → ℕ → Type 0
IsFirstLike target offered d e = (e ≤ d) × (e < d → Repeats target offered d) × (e ≡ d → Repeats target offered d → ⊥)

-- A mask of n bits that says of which numbers P holds
abbrev pub Marks : ℕ → ℕ → (ℕ → Type 0) → Type 0
Marks n mask P = (mask < 2 ^ n) × ((e : ℕ) → e < n → (Has mask e ↔ P e))

-- A mask of n bits that say what a test answers of each number
abbrev pub Tested : (ℕ → Bool → Type 0) → ℕ → ℕ → Type 0
Tested answers n mask = (mask < 2 ^ n) × ((e : ℕ) → e < n → (b : Bool) × answers e b × ((b ≡ true) ↔ Has mask e))

-- ---- the rows of a source and their candidates in a target: rows 0 to size - 1 are the source's rows, row `size` is its head

-- Where the codes of row r start: the head's after those of 12 rows
abbrev pub row_start : ℕ → ℕ → ℕ
row_start size r = cond (eqb r size) 96 (8 * r)

-- Where the codes of candidate d of row r start: the head's one candidate is the target's head, after 24 rows
abbrev pub image_start : ℕ → ℕ → ℕ → ℕ
image_start size r d = cond (eqb r size) 192 (8 * d)

-- How many candidates row r has, of a target with `count` rows
abbrev pub candidates_of : ℕ → ℕ → ℕ → ℕ
candidates_of size count r = cond (eqb r size) 1 count

-- A source as 104 codes, with at most 12 rows, and a target as 200, with at most 24
pub record Laid (source target : List ℕ) (size count : ℕ) : Type 0 where
  pub source-length : length source ≡ 104
  pub target-length : length target ≡ 200
  pub few-rows : size ≤ 12
  pub few-images : count ≤ 24

-- Candidate d of row r goes together with candidate e of row q
abbrev pub Together : List ℕ → List ℕ → ℕ → ℕ → ℕ → ℕ → ℕ → Type 0
Together source target size r d q e = Agrees source target (row_start size r) (image_start size r d) (row_start size q) (image_start size q e)

-- Row r can go to candidate d: a row of the same relation, the first of its like, with the row's constants in their places and one code for each
-- of its variables
pub record Possible (source target named offered : List ℕ) (size r d : ℕ) : Type 0 where
  pub relation : r < size → get_or named r 0 ≡ get_or offered d 0
  pub first : r < size → Repeats target offered d → ⊥
  pub fixes : Fixes source target (row_start size r) (image_start size r d)
  pub agrees : Together source target size r d r d

-- Masks of the possible candidates of each row
abbrev pub IsDomain : List ℕ → List ℕ → List ℕ → List ℕ → ℕ → ℕ → List ℕ → Type 0
IsDomain source target named offered size count domain =
    (r : ℕ) → r ≤ size → Marks (candidates_of size count r) (get_or domain r 0) (Possible source target named offered size r)

-- A mask of the candidates of row q that go together with candidate d of row r. Its bits past the candidates say nothing, and it has each candidate of r itself
abbrev pub IsMask : List ℕ → List ℕ → ℕ → ℕ → List ℕ → ℕ → ℕ → ℕ → Type 0
IsMask source target size count table r d q =
    (e : ℕ) → e < candidates_of size count q → (Has (goes table r d q) e ↔ ((r ≡ q → ⊥) → Together source target size r d q e))

-- All these masks
abbrev pub IsTable : List ℕ → List ℕ → ℕ → ℕ → List ℕ → Type 0
IsTable source target size count table =
    (r d q : ℕ) → r ≤ size → q ≤ size → d < candidates_of size count r → IsMask source target size count table r d q
