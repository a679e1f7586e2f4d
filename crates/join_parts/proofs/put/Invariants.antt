-- `put` puts words one by one. Invariant: the first i of them are put. Assumes nothing.
use mathlib.Core.Path.{◌≡◌}
use Prim.Native.Nat.{◌-◌}
use lib.ListN.{drop}
use lib.Seq.{paste}
use Rattle.join_parts.proofs.put.Given as goal

abbrev pub invariant-loop-i : goal.invariant-loop-i
invariant-loop-i l = l.buffer ≡ paste l.fn.buffer (l.fn.end - l.fn.n) (drop l.fn.at l.words) l.i
