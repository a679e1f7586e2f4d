-- How long the arrays of a reduction are. Assumes nothing.
use mathlib.Core.List.{List}
use mir.Val.{Val}
use denote.Laws.{Is}
use Rattle.query.specs.contracts.Cell as cell
use Rattle.file.proofs.Shapes.{long, record-shaped}
use Rattle.reduction.specs.declared.Reduced.{Reduced}
use Rattle.reduction.specs.contracts.Reduced as reduced
use Rattle.reduction_on_files.specs.Shortening.{ReducedShape}

pub reduced-shaped : (o : Reduced) (vs : List Val) → Is reduced.the_row o vs → ReducedShape o
reduced-shaped o vs p = (record-shaped o.«record» _ p.1.1.1.0, long cell.the_row 96 o.images _ p.1.1.1.1.1.0)
