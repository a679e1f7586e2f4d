-- `report::report` meets its contract: what reading answers decides what is written. Assumes nothing.
use Rattle.report.proofs.Reading.{read-good}
use Rattle.report.proofs.report.Goals as goal

pub write_places-requires : goal.write_places-requires
write_places-requires c = (
  c.requires,
  read-good c.args.file.now c.read_record.result c.read_record.ensures (λ i. (c.type_inv.file i).fits) _ c.in-Ok.is,
)
