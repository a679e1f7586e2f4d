-- `search::next_candidate` meets its contract: the zeros below the lowest one of what is left of the mask are no members. Assumes nothing.
use mathlib.Core.Path.{◌≡◌, sym, ap, ◌∙◌}
use Prim.Native.Nat.{ℕ, ◌+◌, ◌-◌, ◌/◌, ◌%◌, ◌^◌, ◌<◌, ◌≤◌}
use native.Mathlib.Omega.{arith}
use native.Mathlib.Nat.{div-le_self}
use native.Mathlib.Decide.{ℕ_discrete}
use lib.Count.{count_trailing_zeros, trailing_of_zero}
use lib.Pow.{shr-shr}
use mir.Syntax.{w32}
use Rattle.std.proofs.lemmas.Nat.Bits.{bit_at-trailing_zeros}
use Rattle.consistency.specs.internal.Solution.{Bit}
use Rattle.consistency.proofs.Masks.{bit_past}
use Rattle.search.proofs.next_candidate.Goals as goal

abbrev zeros : ℕ → ℕ → ℕ
zeros mask c = count_trailing_zeros 32 (mask / 2 ^ c)

-- a mask from c on
from : (mask c i : ℕ) → mask / 2 ^ (c + i) % 2 ≡ mask / 2 ^ c / 2 ^ i % 2
from mask c i = ap (λ (n : ℕ). n % 2) (sym (shr-shr mask c i))

low : (mask c : ℕ) → mask < 2 ^ 32 → mask / 2 ^ c < 2 ^ 32
low mask c h = omega (arith, div-le_self mask (2 ^ c))

none-before : (mask c k : ℕ) → mask < 2 ^ 32 → c ≤ k → k < c + zeros mask c → Bit mask k → ⊥
none-before mask c k h at before b = elim (ℕ_discrete (mask / 2 ^ c) 0) [
  | yes ended ↦ bit_past mask c k ended at b
  | no some ↦
      let first = bit_at-trailing_zeros w32 (mask / 2 ^ c) (omega arith) (low mask c h) in
      let same : c + (k - c) ≡ k = omega arith in
      let clear : mask / 2 ^ c / 2 ^ (k - c) % 2 ≡ 0 = first.2 (k - c) (omega arith) in
      let bit : mask / 2 ^ (c + (k - c)) % 2 ≡ 1 = rw same b in
      omega (arith, from mask c (k - c))
]

here : (mask c : ℕ) → mask < 2 ^ 32 → c + zeros mask c < 24 → Bit mask (c + zeros mask c)
here mask c h within = elim (ℕ_discrete (mask / 2 ^ c) 0) [
  | yes ended ↦ let all : zeros mask c ≡ 32 = ap (count_trailing_zeros 32) ended ∙ trailing_of_zero 32 in absurd (omega arith)
  | no some ↦ let first = bit_at-trailing_zeros w32 (mask / 2 ^ c) (omega arith) (low mask c h) in from mask c (zeros mask c) ∙ first.1
]

pub returns-then-d-lt24 : goal.returns-then-d-lt24
returns-then-d-lt24 c =
    let mask = c.args.mask in
    record {
      from = omega arith;
      within = c.if-d-lt24.true;
      member = here mask c.args.c c.ranges.mask.fits c.if-d-lt24.true;
      first = λ k at before. none-before mask c.args.c k c.ranges.mask.fits at before;
    }

pub returns-else-d-lt24 : goal.returns-else-d-lt24
returns-else-d-lt24 c k at few = none-before c.args.mask c.args.c k c.ranges.mask.fits at (omega arith)
