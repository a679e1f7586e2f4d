-- `consistency::settle` meets its contract. The loop's invariant: so far it is settled. Assumes nothing.
use Rattle.consistency.proofs.Steps.{settles-more}
use Rattle.consistency.proofs.settle.Goals as goal

pub turns-preserved : goal.turns-preserved
turns-preserved c = settles-more _ _ _ _ _ c.turns.invariant c.spread.ensures
