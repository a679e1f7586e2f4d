-- `Codes::read_rows`. Invariant: the first rows are read. Assumes nothing.
use Rattle.std.proofs.Common.{◌≡◌, take}
use Rattle.limits.specs.internal.Schema.{widths_in}
use Rattle.codes.specs.internal.Codes.{codes_in, read_rows}
use Rattle.codes.proofs.pairs.Codes.read_rows.Given as goal

abbrev pub invariant-loop-row : goal.invariant-loop-row
invariant-loop-row l = l.cells ≡ read_rows (codes_in l.self) (widths_in l.schema) (take l.row l.relations) l.initial.cells
