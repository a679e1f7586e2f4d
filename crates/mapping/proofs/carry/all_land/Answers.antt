-- `all_land` tells whether each row is carried to one of the target's. The invariant: those passed are.
-- Assumes nothing.
use borrow.Author.Count.{below_more}
use Rattle.mapping.proofs.carry.all_land.Goals as goal

pub loop-r-preserved : goal.loop-r-preserved
loop-r-preserved c = below_more _ _ c.loop-r.invariant (c.lands.ensures.0 c.if-not-lands.false)
