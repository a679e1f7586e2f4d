-- `consistency::common` reads no entry past the table's end. The loop's invariant: the candidates that are left are below 24. Assumes nothing.
use Prim.Native.Nat.{◌^◌, ◌<◌}
use Rattle.consistency.proofs.common.Given as goal

abbrev pub invariant-loop-rest : goal.invariant-loop-rest
invariant-loop-rest l = l.rest < 2 ^ 24

abbrev pub decreases-loop-rest : goal.decreases-loop-rest
decreases-loop-rest l = l.rest
