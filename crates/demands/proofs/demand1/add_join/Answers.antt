-- `demands::demand1::add_join` meets its contract. Assumes nothing.
use Rattle.demands.proofs.Conditions.{add-join-meets}
use Rattle.demands.proofs.demand1.add_join.Goals as goal

pub returns : goal.returns
returns c = add-join-meets c.args.given c.args.j c.add_join.result c.add_join.ensures
