-- `tableaux::codes_of` has the code of each cell. The invariant: those passed are read. Assumes nothing.
use mathlib.Core.Path.{◌≡◌}
use lib.ListN.{length}
use Rattle.lists.proofs.Loops.{filled_to}
use Rattle.tableaux.specs.internal.Codes.{codes_of}
use Rattle.tableaux.proofs.codes_of.Given as goal

abbrev pub invariant-loop-k : goal.invariant-loop-k
invariant-loop-k g l = (length l.codes ≡ length l.cells) × (l.codes ≡ filled_to (length l.cells) 0 (codes_of l.cells) l.k)
