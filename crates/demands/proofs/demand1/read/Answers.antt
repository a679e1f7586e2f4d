-- `demands::demand1::read` meets its contract. Assumes nothing.
use Rattle.demands.proofs.Conditions.{read_meets}
use Rattle.demands.proofs.demand1.read.Goals as goal

pub returns : goal.returns
returns c = read_meets c.args.file.now c.read.result c.read.ensures
