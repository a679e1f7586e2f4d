-- `Codes::read_cells` meets its contract: the first cells are done. Assumes nothing.
use borrow.Author.Rules.{rules}
use mathlib.Core.Path.{refl, ap, ◌∙◌}
use mathlib.Core.List.{List}
use lib.ListN.{get_or}
use Rattle.query.specs.declared.Cell.{Cell}
use Rattle.query.specs.Rule.{no_cell}
use Rattle.codes.specs.internal.Codes.{codes_in, read_cell}
use Rattle.lists.proofs.Maps.{map_first-none, map_first-here, map_first-more, map_first-done}
use Rattle.codes.proofs.pairs.Codes.read_cells.Goals as goal

pub loop-cell-init : goal.loop-cell-init
loop-cell-init c = map_first-none _ _

pub loop-cell-preserved : goal.loop-cell-preserved
loop-cell-preserved c =
    let f = read_cell (codes_in c.args.self.now) in
    let same = ap (λ (xs : List Cell). get_or xs c.loop-cell.cell-index no_cell) c.loop-cell.invariant ∙ map_first-here f c.loop-cell.cell-index c.args.cells.now no_cell in
    map_first-more _ _ _ _ _ no_cell c.loop-cell.invariant (c.read_cell.ensures ∙ ap f same) (search rules)

pub returns : goal.returns
returns c = map_first-done _ _ _ _ _ c.loop-cell.invariant refl (search rules)
