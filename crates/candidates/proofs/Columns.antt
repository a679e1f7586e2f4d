-- Columns that share a variable: masks made code by code, and that all of them are marked.
-- Assumes nothing.
use mathlib.Core.Path.{◌≡◌, sym, ap, ◌∙◌, subst, subst⁻¹, subst₂}
use mathlib.Core.Logic.{◌⊎◌, inl, inr}
use mathlib.Core.List.{List}
use Prim.Native.Nat.{ℕ, ◌+◌, ◌-◌, ◌*◌, ◌/◌, ◌%◌, ◌^◌, ◌≤◌, ◌<◌}
use native.Mathlib.Nat.{not-suc-le-zero, one-mul, mod-eq_of_lt}
use native.Mathlib.Decide.{ℕ_discrete, dec_lt}
use native.Mathlib.Omega.{arith}
use lib.Pow.{pow-lt}
use lib.Bits.{bit_or}
use lib.ListN.{get_or, set, length, length-set}
use lib.Seq.{get_or-set_same, get_or-set_other}
use Rattle.consistency.specs.internal.Solution.{Bit as Has}
use Rattle.consistency.proofs.Masks.{bit_or_left, bit_or_right, bit-one}
use Rattle.candidates.specs.internal.Candidates.{row_start}
use Rattle.candidates.specs.internal.Sharing.{Met, Shares}
use Rattle.candidates.proofs.Candidates.{Place, place_of, rows_apart}

-- The place of a variable's code among 96 masks
abbrev pub slot : ℕ → ℕ
slot code = (code - 2147483648) % 256 % 96

-- The first k codes are passed
pub record Marked (source columns seen : List ℕ) (k : ℕ) : Type 0 where
  pub columns-length : length columns ≡ 8
  pub seen-length : length seen ≡ 96
  pub each : (j : ℕ) → j < k → 2147483648 ≤ get_or source j 0 → Has (get_or seen (slot (get_or source j 0)) 0) (j % 8)
  pub both : (j l : ℕ) → j < l → l < k → 2147483648 ≤ get_or source l 0 → get_or source j 0 ≡ get_or source l 0 → Has (get_or columns (l % 8) 0) (j % 8)

pub marked-none : (source columns seen : List ℕ) → length columns ≡ 8 → length seen ≡ 96 → Marked source columns seen 0
marked-none source columns seen long long' =
    record {
      columns-length = long;
      seen-length = long';
      each = λ j h. absurd (not-suc-le-zero h);
      both = λ j l h m. absurd (not-suc-le-zero m);
    }

-- The code's mask of one column
pub bit_column : (i : ℕ) → i < 8 → Has (1 * 2 ^ i % 256) i
bit_column i h = subst⁻¹ (λ (m : ℕ). Has m i) (ap (λ (n : ℕ). n % 256) (one-mul (2 ^ i)) ∙ mod-eq_of_lt (pow-lt h)) (bit-one i)

-- A mask that gains bits keeps its own, and the others stay as they are
put_keeps : (masks : List ℕ) (at more p i : ℕ) → at < length masks → Has (get_or masks p 0) i → Has (get_or (set masks at (bit_or (get_or masks at 0) more)) p 0) i
put_keeps masks at more p i inside before = go (ℕ_discrete p at)
  where
    next : ℕ
    next = bit_or (get_or masks at 0) more

    go : Dec (p ≡ at) → Has (get_or (set masks at next) p 0) i
    go (yes e) =
        subst (λ (m : ℕ). Has m i) (sym (ap (λ (x : ℕ). get_or (set masks at next) x 0) e ∙ get_or-set_same masks at next 0 inside))
        (bit_or_left (get_or masks at 0) more i (subst (λ (x : ℕ). Has (get_or masks x 0) i) e before))
    go (no n) = subst (λ (m : ℕ). Has m i) (sym (get_or-set_other masks at p next 0 n)) before

-- and has those that it gains
put-has : (masks : List ℕ) (at more i : ℕ) → at < length masks → Has more i → Has (get_or (set masks at (bit_or (get_or masks at 0) more)) at 0) i
put-has masks at more i inside has =
    subst (λ (m : ℕ). Has m i) (sym (get_or-set_same masks at (bit_or (get_or masks at 0) more) 0 inside)) (bit_or_right (get_or masks at 0) more i has)

module _ (source columns seen : List ℕ) (k : ℕ) (state : Marked source columns seen k) where
  -- A variable is passed, whose column is marked with those in which it is seen
  pub marked-variable : (bit : ℕ) → Has bit (k % 8)
      → Marked source (set columns (k % 8) (bit_or (get_or columns (k % 8) 0) (get_or seen (slot (get_or source k 0)) 0)))
      (set seen (slot (get_or source k 0)) (bit_or (get_or seen (slot (get_or source k 0)) 0) bit)) (k + 1)
  marked-variable bit own =
      record {
        columns-length = length-set columns (k % 8) _ ∙ state.columns-length;
        seen-length = length-set seen x _ ∙ state.seen-length;
        each = λ j h large. each j h large (ℕ_discrete j k);
        both = λ j l h m large same. both j l h m large same (ℕ_discrete l k);
      }
    where
      x : ℕ
      x = slot (get_or source k 0)

      in_columns : k % 8 < length columns
      in_columns = let z = state.columns-length in omega arith

      in_seen : x < length seen
      in_seen = let z = state.seen-length in omega arith

      each : (j : ℕ) → j < k + 1 → 2147483648 ≤ get_or source j 0 → Dec (j ≡ k)
          → Has (get_or (set seen x (bit_or (get_or seen x 0) bit)) (slot (get_or source j 0)) 0) (j % 8)
      each j h large (yes e) =
          subst (λ (y : ℕ). Has (get_or (set seen x (bit_or (get_or seen x 0) bit)) (slot (get_or source y 0)) 0) (y % 8)) (sym e)
          (put-has seen x bit (k % 8) in_seen own)
      each j h large (no n) = put_keeps seen x bit (slot (get_or source j 0)) (j % 8) in_seen (state.each j (omega arith) large)

      both : (j l : ℕ) → j < l → l < k + 1 → 2147483648 ≤ get_or source l 0 → get_or source j 0 ≡ get_or source l 0 → Dec (l ≡ k)
          → Has (get_or (set columns (k % 8) (bit_or (get_or columns (k % 8) 0) (get_or seen x 0))) (l % 8) 0) (j % 8)
      both j l h m large same (yes e) =
          let was : get_or source j 0 ≡ get_or source k 0 = same ∙ ap (λ (y : ℕ). get_or source y 0) e in
          subst (λ (y : ℕ). Has (get_or (set columns (k % 8) (bit_or (get_or columns (k % 8) 0) (get_or seen x 0))) (y % 8) 0) (j % 8)) (sym e)
          (put-has columns (k % 8) (get_or seen x 0) (j % 8) in_columns
          (subst (λ (y : ℕ). Has (get_or seen (slot y) 0) (j % 8)) was (state.each j (omega arith) (omega arith))))
      both j l h m large same (no n) =
          put_keeps columns (k % 8) (get_or seen x 0) (l % 8) (j % 8) in_columns (state.both j l h (omega arith) large same)

-- The columns in which rows share a variable are marked
pub shares-met : (source columns : List ℕ) (size i j r q : ℕ) → size ≤ 12 → i < 8 → j < 8 → r ≤ size → q ≤ size → Met source columns
    → Shares source size i j r q → Has (get_or columns i 0) j ⊎ Has (get_or columns j 0) i
shares-met source columns size i j r q few hi hj hr hq met shared = go (dec_lt (row_start size q + j) (row_start size r + i))
  where
    mine : Place size r i
    mine = place_of size r i few hr hi

    other : Place size q j
    other = place_of size q j few hq hj

    apart : row_start size q + j ≡ row_start size r + i → ⊥
    apart e = rows_apart size r q few hr hq shared.0 (sym other.row ∙ ap (λ (x : ℕ). x / 8) e ∙ mine.row)

    go : Dec (row_start size q + j < row_start size r + i) → Has (get_or columns i 0) j ⊎ Has (get_or columns j 0) i
    go (yes h) =
        inl
        (subst₂ (λ (x y : ℕ). Has (get_or columns x 0) y) mine.column other.column
        (met (row_start size q + j) (row_start size r + i) h mine.inside shared.1 shared.2))
    go (no n) =
        let inside = other.inside in
        let later : row_start size r + i < row_start size q + j = omega (arith, apart) in
        inr
        (subst₂ (λ (x y : ℕ). Has (get_or columns x 0) y) other.column mine.column
        (met (row_start size r + i) (row_start size q + j) later inside (let same = shared.2 in let large = shared.1 in omega arith) (sym shared.2)))
