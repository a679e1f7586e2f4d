-- `consistency::alone` meets its contract. The loop's invariant: each candidate in the mask is alone. Assumes nothing.
use Prim.Native.Nat.{◌^◌, ◌<◌}
use Rattle.consistency.specs.internal.Steps.{Apart}
use Rattle.consistency.proofs.alone.Given as goal

abbrev pub invariant-loop-rest : goal.invariant-loop-rest
invariant-loop-rest l = (l.rest < 2 ^ 24) × Apart l.table l.own l.p l.q l.mask

abbrev pub decreases-loop-rest : goal.decreases-loop-rest
decreases-loop-rest l = l.rest
