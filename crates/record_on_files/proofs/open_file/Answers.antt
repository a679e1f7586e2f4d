-- `open_file` gives the file of the record that is opened. Assumes nothing.
use Rattle.record_on_files.proofs.Kept.{open-sound}
use Rattle.record_on_files.proofs.open_file.Goals as goal

pub store_outcome-requires : goal.store_outcome-requires
store_outcome-requires c =
    open-sound c.args.widths.now c.«open».result c.«open».ensures
