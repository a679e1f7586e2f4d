-- `consistency::common` reads no entry past the table's end. The loop's invariant: the candidates that are left are below 24. Assumes nothing.
use native.Mathlib.Omega.{arith}
use Prim.Native.Nat.{◌<◌}
use Rattle.std.specs.Int.{w32, trailing_zeros}
use Rattle.consistency.proofs.Masks.{first-bit, first-below, without_less}
use Rattle.consistency.proofs.common.Goals as goal

pub bounds-table-start : goal.bounds-table-start
bounds-table-start c =
    let below : trailing_zeros w32 c.loop-rest.rest < 24 = first-below c.loop-rest.rest (omega arith) c.loop-rest.invariant in
    omega arith

pub loop-rest-smaller : goal.loop-rest-smaller
loop-rest-smaller c =
    let n = c.loop-rest.rest in
    without_less n (trailing_zeros w32 n) (first-below n (omega arith) c.loop-rest.invariant) (first-bit n (omega arith) c.loop-rest.invariant)
