-- `demands::demand1::add_code` meets its contract. Assumes nothing.
use Rattle.demands.proofs.Conditions.{add-code-meets}
use Rattle.demands.proofs.demand1.add_code.Goals as goal

pub returns : goal.returns
returns c = add-code-meets c.args.given c.args.p c.add_code.result c.add_code.ensures
