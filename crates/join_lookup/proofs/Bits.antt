-- Sets of columns as masks: a column of a mask is a bit of it, and bits of a union and of an intersection. Assumes nothing.
use mathlib.Core.Path.{◌≡◌, refl, sym, ◌∙◌, ap}
use mathlib.Core.Logic.{◌⊎◌, inl, inr, ⊎_elim}
use Prim.Native.Nat.{ℕ, zero, suc, ◌/◌, ◌%◌, ◌^◌, ◌<◌, min, max}
use native.Mathlib.Nat.{mod-lt}
use native.Mathlib.Omega.{arith}
use lib.Bits.{bit_and, bit_or}
use lib.Dec.{lit<}
use borrow.Author.Tests.{eqb-true, eq-eqb}
use Rattle.lists.proofs.Bits.{and-digit, or-digit}
use Rattle.theory.specs.Query.{◌∈◌}
use Rattle.theory.proofs.Lists.{member-mem, mem-member}
use Rattle.query.specs.View.{columns_of}
use Rattle.closure.proofs.Masks.{same-columns, bit-shift}

-- Column c is in a mask
abbrev pub BitOf : ℕ → ℕ → Type 0
BitOf mask c = mask / 2 ^ c % 2 ≡ 1

pub column-bit : (mask c : ℕ) → mask < 256 → c ∈ columns_of mask → BitOf mask c
column-bit mask c h at = eqb-true (mask / 2 ^ c % 2) 1 (sym (bit-shift mask c) ∙ sym ((same-columns mask h).at c) ∙ mem-member c (columns_of mask) at)

pub bit-column : (mask c : ℕ) → mask < 256 → BitOf mask c → c ∈ columns_of mask
bit-column mask c h is = member-mem c (columns_of mask) ((same-columns mask h).at c ∙ bit-shift mask c ∙ eq-eqb (mask / 2 ^ c % 2) 1 is)

-- A digit of a union and of an intersection
max_of : (x y : ℕ) → x < 2 → y < 2 → max x y ≡ 1 → (x ≡ 1) ⊎ (y ≡ 1)
max_of zero zero h g e = absurd (omega arith)
max_of zero (suc zero) h g e = inr refl
max_of zero (suc (suc y)) h g e = absurd (omega arith)
max_of (suc zero) y h g e = inl refl
max_of (suc (suc x)) y h g e = absurd (omega arith)

of-max : (x y : ℕ) → x < 2 → y < 2 → (x ≡ 1) ⊎ (y ≡ 1) → max x y ≡ 1
of-max zero zero h g w = absurd (⊎_elim (λ e. omega arith) (λ e. omega arith) w)
of-max zero (suc zero) h g w = refl
of-max zero (suc (suc y)) h g w = absurd (omega arith)
of-max (suc zero) zero h g w = refl
of-max (suc zero) (suc zero) h g w = refl
of-max (suc zero) (suc (suc y)) h g w = absurd (omega arith)
of-max (suc (suc x)) y h g w = absurd (omega arith)

min-of : (x y : ℕ) → x < 2 → y < 2 → min x y ≡ 1 → (x ≡ 1) × (y ≡ 1)
min-of zero zero h g e = absurd (omega arith)
min-of zero (suc zero) h g e = absurd (omega arith)
min-of zero (suc (suc y)) h g e = absurd (omega arith)
min-of (suc zero) zero h g e = absurd (omega arith)
min-of (suc zero) (suc zero) h g e = (refl, refl)
min-of (suc zero) (suc (suc y)) h g e = absurd (omega arith)
min-of (suc (suc x)) y h g e = absurd (omega arith)

module _ (a b c : ℕ) where
  digit : (n : ℕ) → n % 2 < 2
  digit n = mod-lt n (lit< tt)

  pub or-bit : BitOf (bit_or a b) c → BitOf a c ⊎ BitOf b c
  or-bit is = max_of (a / 2 ^ c % 2) (b / 2 ^ c % 2) (digit (a / 2 ^ c)) (digit (b / 2 ^ c)) (sym (or-digit a b c) ∙ is)

  pub bit-or : BitOf a c ⊎ BitOf b c → BitOf (bit_or a b) c
  bit-or w = or-digit a b c ∙ of-max (a / 2 ^ c % 2) (b / 2 ^ c % 2) (digit (a / 2 ^ c)) (digit (b / 2 ^ c)) w

  pub and-bit : BitOf (bit_and a b) c → BitOf a c × BitOf b c
  and-bit is = min-of (a / 2 ^ c % 2) (b / 2 ^ c % 2) (digit (a / 2 ^ c)) (digit (b / 2 ^ c)) (sym (and-digit a b c) ∙ is)

  pub bit-and : BitOf a c → BitOf b c → BitOf (bit_and a b) c
  bit-and p q = and-digit a b c ∙ ap (λ (n : ℕ). min n (b / 2 ^ c % 2)) p ∙ ap (λ (n : ℕ). min 1 n) q
