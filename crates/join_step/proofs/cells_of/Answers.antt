-- `join_step::cells_of` meets its contract: code by code. Assumes nothing.
use Rattle.std.proofs.Common.{rules, ◌≡◌, sym, ◌∙◌, length, arith}
use Rattle.query.specs.Rule.{no_cell}
use Rattle.join_step.specs.internal.Step.{cell_of}
use Rattle.join_step.proofs.Cells.{mapped}
use Rattle.join_step.proofs.cells_of.Goals as goal

pub returns : goal.returns
returns c =
    let long : length c.args.row ≡ 8 = search rules in
    mapped cell_of c.args.row c.map.result 0 no_cell (c.map.ensures.items.long ∙ sym long)
    (λ k h. let called = (c.map.ensures.items.at k 0 no_cell (omega arith)) in grind arith)
