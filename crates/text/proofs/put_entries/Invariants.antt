-- `text::put_entries` meets its contract. Invariant: the entries from i on are left to be written. Assumes nothing.
use lib.ListN.{drop}
use Rattle.query.specs.View.{entries_of}
use Rattle.text.specs.Text.{entries_text}
use Rattle.printing.proofs.Writing.{Progress}
use Rattle.text.proofs.put_entries.Given as goal

abbrev pub invariant-loop-cell : goal.invariant-loop-cell
invariant-loop-cell l =
    Progress l.initial.buffer l.at (entries_text (entries_of l.cells)) (entries_text (entries_of (drop l.cell-index l.cells))) l.buffer l.next
