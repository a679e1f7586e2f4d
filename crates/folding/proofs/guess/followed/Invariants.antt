-- `guess::followed` gives a choice of rows. The loop's invariant: so it is already. Assumes nothing.
use Prim.Native.Nat.{ℕ, ◌<◌}
use lib.ListN.{get_or}
use Rattle.folding.proofs.guess.followed.Given as goal

abbrev pub invariant-loop-q : goal.invariant-loop-q
invariant-loop-q l = (k : ℕ) → get_or l.e-items k 0 < 24
