-- `demands::demand2::compare` meets its contract. Assumes nothing.
use Rattle.demands.proofs.Answering.{decides}
use Rattle.demands.proofs.demand2.compare.Goals as goal

pub returns : goal.returns
returns c = decides c.args.given c.args.p c.args.q c.compare.result c.compare.ensures.compared
