use Rattle.std.proofs.Common.{◌≡◌}
use Rattle.replacement.specs.internal.Replacement.{substitute_cell}
use Rattle.lists.proofs.Maps.{map_first}
use Rattle.replacement.proofs.substitute_all.Given as goal

abbrev pub invariant-loop-cell : goal.invariant-loop-cell
invariant-loop-cell l = l.cells ≡ map_first (substitute_cell l.replacement.variable l.replacement.entry) l.cell-index l.initial.cells
