-- `demands::demand1::add` meets its contract. Assumes nothing.
use Rattle.demands.proofs.Conditions.{add_meets}
use Rattle.demands.proofs.demand1.add.Goals as goal

pub returns : goal.returns
returns c = add_meets c.args.given c.args.d c.add_dependency.result c.add_dependency.ensures
