-- The choice from a set on, set by set: with the sets after it arranged the first row for it is found, and the call for the next set finds the others. The
-- measure is the sets left. Assumes nothing.
use Prim.Native.Nat.{◌-◌}
use Rattle.join_testing.proofs.+choose.Given as goal

abbrev pub decreases-choose : goal.decreases-choose
decreases-choose l = l.j.count - l.k
