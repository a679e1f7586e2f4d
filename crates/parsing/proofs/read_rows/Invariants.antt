use Rattle.limits.specs.internal.Schema.{widths_in}
use Rattle.parsing.proofs.ReadingRows.{At}
use Rattle.parsing.proofs.read_rows.Given as goal

abbrev pub invariant-loop-r : goal.invariant-loop-r
invariant-loop-r l = At (widths_in l.schema) l.s l.size l.relations l.cells l.r l.rest
