-- `arrange` swaps the set that is closest to those before it into each place. Invariant: the sets are arranged so far. Assumes nothing.
use Rattle.join_order.specs.internal.Arranged.{Arranged}
use Rattle.join_order.proofs.arrange.Given as goal

abbrev pub invariant-loop-i : goal.invariant-loop-i
invariant-loop-i l = Arranged l.fn.j l.arranged l.first
