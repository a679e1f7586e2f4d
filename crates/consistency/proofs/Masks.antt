-- Members of masks: of two masks together, of what both have, of a mask of one.
-- Assumes nothing.
use mathlib.Core.Path.{◌≡◌, sym, ap, ◌∙◌, subst, subst⁻¹}
use Prim.Native.Nat.{ℕ, suc, ◌+◌, ◌-◌, ◌*◌, ◌/◌, ◌%◌, ◌^◌, ◌<◌, ◌≤◌}
use native.Mathlib.Nat.{div-eq_of_lt, div_self, mul-div_cancel_left, zero-div, pow-suc, mul-mod_left, one-mul, mod-eq_of_lt}
use native.Mathlib.Omega.{arith}
use native.Mathlib.Decide.{dec_lt}
use lib.Bits.{bit_and, bit_or, bit_xor}
use Rattle.std.specs.Int.{w32, bit_not, trailing_zeros}
use Rattle.std.proofs.lemmas.Nat.{and_le_l}
use Rattle.std.proofs.lemmas.Nat.Bits.{bit_at_xor, bit_at_not, bit_at_clear_same, bit_at_clear_other, bit_at_set_other, bit_at-trailing_zeros, bit_at_ones}
use lib.Pow.{pow_pos, pow-lt, pow-add, shr-shr}
use Rattle.lists.proofs.Bits.{and-digit, or-digit}
use Rattle.consistency.specs.internal.Solution.{Bit}
use Rattle.consistency.specs.internal.Consistent.{NoBit}

pub bit-and : (a b i : ℕ) → Bit a i → Bit b i → Bit (bit_and a b) i
bit-and a b i p q = omega (arith, and-digit a b i)

pub bit-and-left : (a b i : ℕ) → Bit (bit_and a b) i → Bit a i
bit-and-left a b i p = omega (arith, and-digit a b i)

pub bit-and-right : (a b i : ℕ) → Bit (bit_and a b) i → Bit b i
bit-and-right a b i p = omega (arith, and-digit a b i)

pub bit_or_left : (a b i : ℕ) → Bit a i → Bit (bit_or a b) i
bit_or_left a b i p = omega (arith, or-digit a b i)

pub bit_or_right : (a b i : ℕ) → Bit b i → Bit (bit_or a b) i
bit_or_right a b i p = omega (arith, or-digit a b i)

-- a digit that is not 0 is 1
pub digit-one : (n : ℕ) → (n % 2 ≡ 0 → ⊥) → n % 2 ≡ 1
digit-one n h = omega arith

pub bit-zero : (i : ℕ) → Bit 0 i → ⊥
bit-zero i p = let z : ◌≡◌ {A = ℕ} (0 / 2 ^ i) 0 = zero-div (2 ^ i) in omega arith

-- a mask that ends before d has no member from d on
pub bit_past : (m d i : ℕ) → m / 2 ^ d ≡ 0 → d ≤ i → Bit m i → ⊥
bit_past m d i ends h b =
    let e : d + (i - d) ≡ i = omega arith in
    let z : m / 2 ^ i ≡ 0 =
    ap (λ (n : ℕ). m / 2 ^ n) (sym e) ∙ sym (shr-shr m d (i - d)) ∙ ap (λ (n : ℕ). n / 2 ^ (i - d)) ends ∙ zero-div (2 ^ (i - d))
    in
    omega arith

pub bit-one : (r : ℕ) → Bit (2 ^ r) r
bit-one r = ap (λ (n : ℕ). n % 2) (div_self (pow_pos r))

-- the code's mask of one row
pub shifted : (r : ℕ) → r < 16 → 1 * 2 ^ r % 65536 ≡ 2 ^ r
shifted r h = ap (λ (n : ℕ). n % 65536) (one-mul (2 ^ r)) ∙ mod-eq_of_lt (pow-lt h)

pub bit_shifted : (r : ℕ) → r < 16 → Bit (1 * 2 ^ r % 65536) r
bit_shifted r h = subst⁻¹ (λ (m : ℕ). Bit m r) (shifted r h) (bit-one r)

-- a power of two has no other digit
lower : (q k : ℕ) → NoBit (2 ^ (q + suc k)) q
lower q k =
    ap (λ (n : ℕ). n / 2 ^ q % 2) (pow-add 2 q (suc k))
    ∙ ap (λ (n : ℕ). n % 2) (mul-div_cancel_left (2 ^ suc k) (pow_pos q))
    ∙ ap (λ (n : ℕ). n % 2) (pow-suc 2 k)
    ∙ mul-mod_left (2 ^ k) 2

higher : (r q : ℕ) → r < q → NoBit (2 ^ r) q
higher r q h = ap (λ (n : ℕ). n % 2) (div-eq_of_lt (pow-lt h))

pub no-bit-one : (r q : ℕ) → (q ≡ r → ⊥) → NoBit (2 ^ r) q
no-bit-one r q n = go (dec_lt r q)
  where
    go : Dec (r < q) → NoBit (2 ^ r) q
    go (yes h) = higher r q h
    go (no h) =
        let e : q + suc (r - suc q) ≡ r = omega arith in
        subst (λ (x : ℕ). NoBit (2 ^ x) q) e (lower q (r - suc q))

pub bit-or-other : (a r q : ℕ) → (q ≡ r → ⊥) → Bit (bit_or a (2 ^ r)) q → Bit a q
bit-or-other a r q n p = omega (arith, or-digit a (2 ^ r) q, no-bit-one r q n)

-- a member of a mask and not of another is one of their difference
pub bit-xor : (a b i : ℕ) → Bit a i → (Bit b i → ⊥) → Bit (bit_xor a b) i
bit-xor a b i p n = omega (arith, bit_at_xor a b i)

-- a member of a mask is none of the others
pub bit-not : (n i : ℕ) → n < 2 ^ 32 → i < 32 → Bit n i → Bit (bit_not w32 n) i → ⊥
bit-not n i h k p q = let e : bit_not w32 n / 2 ^ i % 2 ≡ 1 - n / 2 ^ i % 2 = bit_at_not w32 n i h k in omega arith

-- ---- the members of a mask one by one
-- a mask of numbers below 24 has its first member below 24
pub first-bit : (n : ℕ) → 0 < n → n < 2 ^ 24 → Bit n (trailing_zeros w32 n)
first-bit n some less = (bit_at-trailing_zeros w32 n some (omega arith)).1

pub first-below : (n : ℕ) → 0 < n → n < 2 ^ 24 → trailing_zeros w32 n < 24
first-below n some less = go (dec_lt (trailing_zeros w32 n) 24)
  where
    go : Dec (trailing_zeros w32 n < 24) → trailing_zeros w32 n < 24
    go (yes h) = h
    go (no h) = absurd (bit_past n 24 (trailing_zeros w32 n) (div-eq_of_lt less) (omega arith) (first-bit n some less))

-- the mask without d
abbrev pub without : ℕ → ℕ → ℕ
without n d = bit_and n (bit_not w32 (1 * 2 ^ d % 2 ^ 32))

pub without_less : (n d : ℕ) → d < 24 → Bit n d → without n d < n
without_less n d h b = go (dec_lt (without n d) n)
  where
    gone : NoBit (without n d) d
    gone = bit_at_clear_same w32 n d (omega arith)

    go : Dec (without n d < n) → without n d < n
    go (yes less) = less
    go (no more) =
        let most : without n d ≤ n = and_le_l n (bit_not w32 (1 * 2 ^ d % 2 ^ 32)) in
        let same : without n d ≡ n = omega arith in
        let b' : Bit (without n d) d = subst⁻¹ (λ (m : ℕ). Bit m d) same b in
        omega (arith, b', gone)

pub without_other : (n d i : ℕ) → d < 24 → i < 24 → (i ≡ d → ⊥) → NoBit (without n d) i → NoBit n i
without_other n d i h k other none = sym (bit_at_clear_other w32 n d (omega arith) i (omega arith) other) ∙ none

-- each number below 24 of a mask is one of its first 24 numbers
pub first_24 : (n i : ℕ) → i < 24 → Bit n i → NoBit (bit_and n 16777215) i → ⊥
first_24 n i h b none = let ones : Bit 16777215 i = bit_at_ones 24 i h in omega (arith, bit-and n 16777215 i b ones, none)

pub set-other : (n k i : ℕ) → k < 24 → (i ≡ k → ⊥) → Bit (bit_or n (1 * 2 ^ k % 2 ^ 32)) i → Bit n i
set-other n k i h other b = sym (bit_at_set_other w32 n k (omega arith) i other) ∙ b
