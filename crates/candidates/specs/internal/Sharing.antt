-- Rows that share a variable, and a table in the making: only functions of this crate cite these.
use Rattle.std.specs.Prelude.{◌≡◌, ◌↔◌, List, ℕ, ◌+◌, ◌*◌, ◌%◌, ◌≤◌, ◌<◌, get_or}
use Rattle.consistency.specs.internal.Solution.{Bit as Has, together as goes}
use Rattle.candidates.specs.internal.Candidates.{Marks, row_start, image_start, candidates_of}

-- No variable stands twice in the row at r
abbrev pub Once : List ℕ → ℕ → Type 0
Once source r =
    (i j : ℕ) → i < 8 → j < i → 2147483648 ≤ get_or source (r + i) 0 → get_or source (r + j) 0 ≡ get_or source (r + i) 0 → ⊥

-- Where a variable stands twice among 13 rows of 8, the later one's column is marked with the earlier one's, bit j for column j
abbrev pub Met : List ℕ → List ℕ → Type 0
Met source columns =
    (k l : ℕ) → k < l → l < 104 → 2147483648 ≤ get_or source l 0 → get_or source k 0 ≡ get_or source l 0 → Has (get_or columns (l % 8) 0) (k % 8)

-- The codes of column j, row by row
abbrev pub Column : List ℕ → ℕ → ℕ → List ℕ → Type 0
Column source size j codes = (q : ℕ) → q ≤ size → get_or codes q 0 ≡ get_or source (row_start size q + j) 0

-- Row r has a variable in column i that row q has in column j
abbrev pub Shares : List ℕ → ℕ → ℕ → ℕ → ℕ → ℕ → Type 0
Shares source size i j r q =
    (r ≡ q → ⊥) × (2147483648 ≤ get_or source (row_start size r + i) 0)
    × (get_or source (row_start size q + j) 0 ≡ get_or source (row_start size r + i) 0)

-- Candidate e of row q has in column j the code that candidate d of row r has in column i
abbrev pub Meets : List ℕ → ℕ → ℕ → ℕ → ℕ → ℕ → ℕ → ℕ → Type 0
Meets target size i j r d q e = get_or target (image_start size q e + j) 0 ≡ get_or target (image_start size r d + i) 0

-- For each row d of a target, the rows that have in column j its code of column i
abbrev pub Alike : List ℕ → ℕ → ℕ → ℕ → List ℕ → Type 0
Alike target count i j masks = (d : ℕ) → d < count → Marks count (get_or masks d 0) (λ e. get_or target (8 * e + j) 0 ≡ get_or target (8 * d + i) 0)

-- The masks of a table after have those candidates of the masks before of which P holds
abbrev pub Cut : ℕ → ℕ → (ℕ → ℕ → ℕ → ℕ → Type 0) → List ℕ → List ℕ → Type 0
Cut size count P before after =
    (r d q e : ℕ) → r ≤ size → d < candidates_of size count r → q ≤ size → e < candidates_of size count q
    → (Has (goes after r d q) e ↔ (Has (goes before r d q) e × P r d q e))

-- Candidates that meet in column i of row r and column j of row q, where these rows share a variable there
abbrev pub Joins : List ℕ → List ℕ → ℕ → ℕ → ℕ → ℕ → ℕ → ℕ → ℕ → Type 0
Joins source target size i j r d q e = Shares source size i j r q → Meets target size i j r d q e
