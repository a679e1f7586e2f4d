-- `consistency::refused` meets its contract: what has no support goes together with no candidate of row p. Assumes nothing.
use native.Mathlib.Omega.{arith}
use Prim.Native.Nat.{◌-◌}
use Rattle.consistency.proofs.Masks.{bit-and-right, bit-not}
use Rattle.consistency.proofs.refused.Goals as goal

pub returns-then-gone-eq4294967295 : goal.returns-then-gone-eq4294967295
returns-then-gone-eq4294967295 c d e h j b has forth back =
    bit-not c.support.result e (omega arith) (omega arith) (c.support.ensures d e h has forth)
    (bit-and-right c.args.old (4294967295 - c.support.result) e b)
