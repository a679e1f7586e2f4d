-- `record::Record::schema` meets its contract: the relations of a good record are good. Assumes nothing.
use Rattle.record.proofs.Good.{good-record}
use Rattle.record.proofs.Record.schema.Goals as goal

pub invariant_of-result : goal.invariant_of-result
invariant_of-result c = record { good = (good-record c.args.self c.requires).relations }
