-- `rows_good` meets its contract. Assumes nothing.
use Rattle.std.proofs.Common.{◌≡◌, ◌+◌, ◌*◌, ◌-◌, ℕ, take, drop, get_or, ap, ◌∙◌, arith, not}
use Rattle.query.specs.Rule.{good_row}
use Rattle.lists.proofs.Loops.{turn-passes, turn-fails, turns-end}
use Rattle.limits.specs.internal.Schema.{widths_in}
use Rattle.limits.proofs.Rows.{row_test, rows_start}
use Rattle.limits.proofs.schema.Schema.rows_good.Goals as goal

pub loop-row-init : goal.loop-row-init
loop-row-init c = rows_start (widths_in c.args.self) c.args.cells.now c.args.named.now

pub returns-then-not-row_good : goal.returns-then-not-row_good
returns-then-not-row_good c =
    let row = c.loop-row.row in
    let eight : 8 * row + 8 - 8 * row ≡ 8 = omega arith in
    let seen : c.row_good.result ≡ row_test (widths_in c.args.self) c.args.cells.now row (get_or c.args.named.now row 0) =
    c.row_good.ensures
    ∙ ap (λ (n : ℕ). good_row (widths_in c.args.self) (get_or c.args.named.now row 0) (take n (drop (8 * row) c.args.cells.now))) eight
    in
    turn-fails c.loop-row.invariant 0 (omega arith) seen (ap not c.if-not-row_good.true)

pub loop-row-preserved : goal.loop-row-preserved
loop-row-preserved c =
    let row = c.loop-row.row in
    let eight : 8 * row + 8 - 8 * row ≡ 8 = omega arith in
    let seen : c.row_good.result ≡ row_test (widths_in c.args.self) c.args.cells.now row (get_or c.args.named.now row 0) =
    c.row_good.ensures
    ∙ ap (λ (n : ℕ). good_row (widths_in c.args.self) (get_or c.args.named.now row 0) (take n (drop (8 * row) c.args.cells.now))) eight
    in
    turn-passes c.loop-row.invariant 0 (omega arith) seen (ap not c.if-not-row_good.false)

pub returns : goal.returns
returns c = turns-end c.loop-row.invariant (omega arith)
