-- `consistency::support` meets its contract. The loop's invariant: what the candidates that are not left support is in the mask. Assumes nothing.
use Prim.Native.Nat.{ℕ, ◌^◌, ◌<◌}
use Rattle.consistency.specs.internal.Solution.{Bit, together}
use Rattle.consistency.specs.internal.Consistent.{NoBit}
use Rattle.consistency.proofs.support.Given as goal

abbrev pub invariant-loop-rest : goal.invariant-loop-rest
invariant-loop-rest l =
    (l.rest < 2 ^ 24)
    × ((d e : ℕ) → d < 24 → NoBit l.rest d → Bit l.own d → Bit (together l.table l.p d l.q) e → Bit l.mask e)

abbrev pub decreases-loop-rest : goal.decreases-loop-rest
decreases-loop-rest l = l.rest
