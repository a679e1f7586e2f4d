-- `demands::demand1::read_record` meets its contract. Assumes nothing.
use Rattle.demands.proofs.Conditions.{read-record-meets}
use Rattle.demands.proofs.demand1.read_record.Goals as goal

pub returns : goal.returns
returns c = read-record-meets c.args.file.now c.read_record.result c.read_record.ensures
