-- `consistency::support` meets its contract. The loop's invariant: what the candidates that are not left support is in the mask. Assumes nothing.
use mathlib.Core.Path.{◌≡◌, subst}
use mathlib.Core.List.{List}
use native.Mathlib.Decide.{ℕ_discrete}
use native.Mathlib.Omega.{arith}
use Prim.Native.Nat.{ℕ, ◌<◌, ◌≤◌}
use lib.Bits.{bit_and, bit_or}
use Rattle.std.specs.Int.{w32, trailing_zeros}
use Rattle.std.proofs.lemmas.Nat.{and_le_r}
use Rattle.consistency.specs.internal.Solution.{Bit, together}
use Rattle.consistency.specs.internal.Consistent.{NoBit}
use Rattle.consistency.proofs.Masks.{bit_or_left, bit_or_right, first-bit, first-below, without, without_less, without_other, first_24}
use Rattle.consistency.proofs.support.Goals as goal

-- the mask has what the candidates that are not left support
abbrev Passed : List ℕ → ℕ → ℕ → ℕ → ℕ → ℕ → Type 0
Passed table own p q rest m = (d e : ℕ) → d < 24 → NoBit rest d → Bit own d → Bit (together table p d q) e → Bit m e

more : (table : List ℕ) (own p q rest m k : ℕ) → k < 24 → Passed table own p q rest m
    → Passed table own p q (without rest k) (bit_or m (together table p k q))
more table own p q rest m k less before d e h none b goes = go (ℕ_discrete d k)
  where
    go : Dec (d ≡ k) → Bit (bit_or m (together table p k q)) e
    go (yes same) = bit_or_right m (together table p k q) e (subst (λ (x : ℕ). Bit (together table p x q) e) same goes)
    go (no other) = bit_or_left m (together table p k q) e (before d e h (without_other rest k d less h other none) b goes)

pub loop-rest-init : goal.loop-rest-init
loop-rest-init c =
    let small : bit_and c.args.own 16777215 ≤ 16777215 = and_le_r c.args.own 16777215 in
    (omega arith, λ d e h none b goes. absurd (first_24 c.args.own d h b none))

pub bounds-table-p : goal.bounds-table-p
bounds-table-p c =
    let below : trailing_zeros w32 c.loop-rest.rest < 24 = first-below c.loop-rest.rest (omega arith) c.loop-rest.invariant.0 in
    omega arith

pub loop-rest-smaller : goal.loop-rest-smaller
loop-rest-smaller c =
    let n = c.loop-rest.rest in
    without_less n (trailing_zeros w32 n) (first-below n (omega arith) c.loop-rest.invariant.0) (first-bit n (omega arith) c.loop-rest.invariant.0)

pub loop-rest-preserved : goal.loop-rest-preserved
loop-rest-preserved c =
    let args = c.args in
    let n = c.loop-rest.rest in
    let k = trailing_zeros w32 n in
    let below : k < 24 = first-below n (omega arith) c.loop-rest.invariant.0 in
    let less : without n k < n = without_less n k below (first-bit n (omega arith) c.loop-rest.invariant.0) in
    (omega arith, more args.table.now args.own args.p args.q n c.loop-rest.mask k below c.loop-rest.invariant.1)
