-- `text::put_rows` meets its contract. Invariant: the rows from r on are left to be written. Assumes nothing.
use Prim.Native.Nat.{◌*◌}
use lib.ListN.{drop}
use Rattle.limits.specs.internal.Schema.{widths_in}
use Rattle.query.specs.View.{rows_of}
use Rattle.printing.proofs.Writing.{Progress}
use Rattle.text.specs.Text.{rows_text}
use Rattle.text.proofs.put_rows.Given as goal

abbrev pub invariant-loop-r : goal.invariant-loop-r
invariant-loop-r l =
    Progress l.initial.buffer l.at (rows_text (rows_of (widths_in l.schema) l.relation-items l.fn.query.cells))
    (rows_text (rows_of (widths_in l.schema) (drop l.r l.relation-items) (drop (8 * l.r) l.fn.query.cells)))
    l.buffer l.next
