use mathlib.Core.Path.{◌≡◌}
use lib.ListN.{length}
use Rattle.format.specs.Format.{get_times}
use Rattle.format.specs.Parts.{entry}
use Rattle.format.proofs.Filling.{Filling}
use Rattle.parsing.proofs.read_entries.Given as goal

abbrev pub invariant-loop-cell : goal.invariant-loop-cell
invariant-loop-cell l =
    (length l.cells ≡ length l.initial.cells)
    × Filling entry.get (get_times entry.get (length l.initial.cells) l.s) (length l.initial.cells) l.cells l.cell-index l.rest
