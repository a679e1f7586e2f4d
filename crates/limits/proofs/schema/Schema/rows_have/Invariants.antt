-- Invariant: whether the variable stands in a row is decided by the rows from the present one on.
use Rattle.theory.specs.Query.{member, variables_of, row_entries}
use Rattle.query.specs.View.{rows_of}
use Rattle.lists.proofs.Loops.{Sought}
use Rattle.limits.specs.internal.Schema.{widths_in}
use Rattle.limits.proofs.Variables.{row_has}
use Rattle.limits.proofs.schema.Schema.rows_have.Given as goal

abbrev pub invariant-loop-row : goal.invariant-loop-row
invariant-loop-row l =
    Sought (row_has (widths_in l.self) l.cells l.v) l.named
    (member l.v (variables_of (row_entries (rows_of (widths_in l.self) l.named l.cells)))) l.row
