-- Where rows and their candidates are, and how many candidates a row has.
-- Assumes nothing.
use mathlib.Core.Path.{◌≡◌, refl, sym, ◌∙◌, ap}
use mathlib.Core.Bool.{Bool, true, false, cond}
use mathlib.Core.Logic.{◌⊎◌, inl, inr, ⊎_elim}
use Prim.Native.Nat.{ℕ, ◌+◌, ◌*◌, ◌/◌, ◌%◌, ◌≤◌, ◌<◌}
use native.Mathlib.Decide.{dec_lt}
use native.Mathlib.Omega.{arith}
use borrow.Author.Tests.{eq-eqb, ne_eqb}
use lib.Dec.{eqb}
use Rattle.candidates.specs.internal.Candidates.{row_start, image_start, candidates_of}

-- A row has at most 24 candidates
pub few-candidates : (size count r : ℕ) → count ≤ 24 → candidates_of size count r ≤ 24
few-candidates size count r h = go (eqb r size)
  where
    go : (t : Bool) → cond t 1 count ≤ 24
    go true = omega arith
    go false = h

-- and a row that is not the head has `count`
pub row-candidates : (size count r : ℕ) → r < size → candidates_of size count r ≡ count
row-candidates size count r h = ap (λ (t : Bool). cond t 1 count) (ne_eqb r size (λ e. let z : r ≡ size = e in omega arith))

-- Where the codes of a row and of a candidate start
pub head-start : (size : ℕ) → row_start size size ≡ 96
head-start size = ap (λ (t : Bool). cond t 96 (8 * size)) (eq-eqb size size refl)

pub row-start : (size r : ℕ) → r < size → row_start size r ≡ 8 * r
row-start size r h = ap (λ (t : Bool). cond t 96 (8 * r)) (ne_eqb r size (λ e. let z : r ≡ size = e in omega arith))

pub head-image : (size d : ℕ) → image_start size size d ≡ 192
head-image size d = ap (λ (t : Bool). cond t 192 (8 * d)) (eq-eqb size size refl)

pub row-image : (size r d : ℕ) → r < size → image_start size r d ≡ 8 * d
row-image size r d h = ap (λ (t : Bool). cond t 192 (8 * d)) (ne_eqb r size (λ e. let z : r ≡ size = e in omega arith))

-- A row is the head or not
pub row-cases : (size r : ℕ) → r ≤ size → (r < size) ⊎ (r ≡ size)
row-cases size r h = go (dec_lt r size)
  where
    go : Dec (r < size) → (r < size) ⊎ (r ≡ size)
    go (yes l) = inl l
    go (no l) = inr (omega arith)

-- Column j of row r among 13 rows of 8
pub record Place (size r j : ℕ) : Type 0 where
  pub inside : row_start size r + j < 104
  pub row : (row_start size r + j) / 8 ≡ row_start size r / 8
  pub column : (row_start size r + j) % 8 ≡ j

pub place_of : (size r j : ℕ) → size ≤ 12 → r ≤ size → j < 8 → Place size r j
place_of size r j few h k =
    ⊎_elim
    (λ l. let e : row_start size r ≡ 8 * r = row-start size r l in record { inside = omega arith; row = omega arith; column = omega arith })
    (λ same.
    let e : row_start size r ≡ 96 = ap (row_start size) same ∙ head-start size in
    record { inside = omega arith; row = omega arith; column = omega arith })
    (row-cases size r h)

-- Two rows are apart
pub rows_apart : (size r q : ℕ) → size ≤ 12 → r ≤ size → q ≤ size → (r ≡ q → ⊥) → row_start size q / 8 ≡ row_start size r / 8 → ⊥
rows_apart size r q few h k other same = go (row-cases size r h) (row-cases size q k)
  where
    go : (r < size) ⊎ (r ≡ size) → (q < size) ⊎ (q ≡ size) → ⊥
    go (inl l) (inl m) =
        let e : row_start size r ≡ 8 * r = row-start size r l in
        let f : row_start size q ≡ 8 * q = row-start size q m in
        other (omega arith)
    go (inl l) (inr m) =
        let e : row_start size r ≡ 8 * r = row-start size r l in
        let f : row_start size q ≡ 96 = ap (row_start size) m ∙ head-start size in
        omega arith
    go (inr l) (inl m) =
        let e : row_start size r ≡ 96 = ap (row_start size) l ∙ head-start size in
        let f : row_start size q ≡ 8 * q = row-start size q m in
        omega arith
    go (inr l) (inr m) = other (l ∙ sym m)
