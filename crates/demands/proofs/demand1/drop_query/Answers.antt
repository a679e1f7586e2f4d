-- `demands::demand1::drop_query` meets its contract. Assumes nothing.
use Rattle.demands.proofs.Conditions.{drop-meets}
use Rattle.demands.proofs.demand1.drop_query.Goals as goal

pub returns : goal.returns
returns c = drop-meets c.args.given c.args.place c.drop_query.result c.drop_query.ensures
