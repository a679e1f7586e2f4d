-- `all_land` tells whether each row is carried to one of the target's. The invariant: those passed are.
-- Assumes nothing.
use Prim.Native.Nat.{ℕ, ◌<◌}
use lib.ListN.{get_or}
use Rattle.mapping.specs.internal.Lines.{Lands}
use Rattle.mapping.proofs.carry.all_land.Given as goal

abbrev pub invariant-loop-r : goal.invariant-loop-r
invariant-loop-r l = (k : ℕ) → k < l.r → Lands l.source l.target l.images (get_or l.named k 0) l.offered k
