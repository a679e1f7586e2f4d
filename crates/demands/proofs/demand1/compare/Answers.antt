-- `demands::demand1::compare` meets its contract. Assumes nothing.
use Rattle.demands.proofs.Conditions.{compare-meets}
use Rattle.demands.proofs.demand1.compare.Goals as goal

pub returns : goal.returns
returns c = compare-meets c.args.given c.args.p c.args.q c.compare.result c.compare.ensures.compared
