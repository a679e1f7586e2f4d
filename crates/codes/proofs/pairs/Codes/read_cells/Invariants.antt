-- `Codes::read_cells`. Invariant: the first cells are read. Assumes nothing.
use Rattle.std.proofs.Common.{◌≡◌}
use Rattle.codes.specs.internal.Codes.{codes_in, read_cell}
use Rattle.lists.proofs.Maps.{map_first}
use Rattle.codes.proofs.pairs.Codes.read_cells.Given as goal

abbrev pub invariant-loop-cell : goal.invariant-loop-cell
invariant-loop-cell l = l.cells ≡ map_first (read_cell (codes_in l.self)) l.cell-index l.initial.cells
