-- Invariant: the answer is that of the rows from the present one on.
use Rattle.query.specs.Rule.{good_rows}
use Rattle.lists.proofs.Loops.{Remains}
use Rattle.limits.specs.internal.Schema.{widths_in}
use Rattle.limits.proofs.Rows.{row_test}
use Rattle.limits.proofs.schema.Schema.rows_good.Given as goal

abbrev pub invariant-loop-row : goal.invariant-loop-row
invariant-loop-row l =
    Remains (row_test (widths_in l.self) l.cells) l.named (good_rows (widths_in l.self) l.named l.cells) l.row
