-- `demands::demand1::open` meets its contract. Assumes nothing.
use Rattle.demands.proofs.Conditions.{open-meets}
use Rattle.demands.proofs.demand1.open.Goals as goal

pub returns : goal.returns
returns c = open-meets c.args.widths.now c.open.result c.open.ensures
