-- The binary digits of what two masks share and of what either has. Assumes nothing.
use mathlib.Core.Path.{◌≡◌, ap, ◌∙◌}
use Prim.Native.Nat.{ℕ, ◌/◌, ◌%◌, ◌^◌, min, max}
use native.Mathlib.Omega.{arith}
use lib.Bits.{bit_and, bit_or, and_step, or_step, and_shr, or_shr}

and_low : (x y : ℕ) → bit_and x y % 2 ≡ min (x % 2) (y % 2)
and_low x y = ap (λ (n : ℕ). n % 2) (and_step x y) ∙ (omega arith)

or-low : (x y : ℕ) → bit_or x y % 2 ≡ max (x % 2) (y % 2)
or-low x y = ap (λ (n : ℕ). n % 2) (or_step x y) ∙ (omega arith)

pub and-digit : (a b i : ℕ) → bit_and a b / 2 ^ i % 2 ≡ min (a / 2 ^ i % 2) (b / 2 ^ i % 2)
and-digit a b i = ap (λ (n : ℕ). n % 2) (and_shr a b i) ∙ and_low (a / 2 ^ i) (b / 2 ^ i)

pub or-digit : (a b i : ℕ) → bit_or a b / 2 ^ i % 2 ≡ max (a / 2 ^ i % 2) (b / 2 ^ i % 2)
or-digit a b i = ap (λ (n : ℕ). n % 2) (or_shr a b i) ∙ or-low (a / 2 ^ i) (b / 2 ^ i)
