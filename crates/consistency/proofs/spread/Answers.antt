-- `consistency::spread` meets its contract. The loop's invariant: the rows passed are compared. Assumes nothing.
use Rattle.consistency.proofs.Steps.{settles-more}
use Rattle.consistency.proofs.spread.Goals as goal

pub loop-preserved : goal.loop-preserved
loop-preserved c = settles-more _ _ _ _ _ c.loop.invariant c.revise.ensures
