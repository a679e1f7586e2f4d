-- `demands::demand1::put` meets its contract. Assumes nothing.
use Rattle.demands.proofs.Conditions.{put_meets}
use Rattle.demands.proofs.demand1.put.Goals as goal

pub returns : goal.returns
returns c = put_meets c.args.given c.args.place c.args.q c.put.result c.put.ensures
