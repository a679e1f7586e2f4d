-- `demands::demand1::reduce` meets its contract. Assumes nothing.
use Rattle.demands.proofs.Conditions.{reduce-meets}
use Rattle.demands.proofs.demand1.reduce.Goals as goal

pub returns : goal.returns
returns c = reduce-meets c.args.given c.args.source c.args.target c.reduce.result c.reduce.ensures
