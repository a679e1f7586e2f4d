-- `text::put_entries` meets its contract. Invariant: the entries from the present one on are left to be written. Assumes nothing.
use Rattle.text.proofs.Turns.{entries-turn, entries-end}
use Rattle.printing.proofs.Writing.{part-fits, wrote, finished, left_as}
use Rattle.text.proofs.put_entries.Goals as goal

pub put_entry_after-next-requires : goal.put_entry_after-next-requires
put_entry_after-next-requires c =
    part-fits c.loop-cell.invariant _ _ (entries-turn c.args.cells.now c.loop-cell.cell-index c.loop-cell-test.true)

pub loop-cell-preserved : goal.loop-cell-preserved
loop-cell-preserved c =
    wrote c.loop-cell.invariant _ (entries-turn c.args.cells.now c.loop-cell.cell-index c.loop-cell-test.true) c.put_entry_after-next.ensures

pub returns : goal.returns
returns c = finished (left_as c.loop-cell.invariant (entries-end c.args.cells.now c.loop-cell.cell-index c.loop-cell-test.false))
