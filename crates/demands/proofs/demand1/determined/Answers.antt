-- `demands::demand1::determined` meets its contract. Assumes nothing.
use Rattle.demands.proofs.Conditions.{determined-meets}
use Rattle.demands.proofs.demand1.determined.Goals as goal

pub returns : goal.returns
returns c = determined-meets c.args.given c.args.relation c.args.left c.determined.result c.determined.ensures
