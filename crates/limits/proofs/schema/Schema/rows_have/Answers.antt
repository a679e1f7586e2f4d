-- `rows_have` meets its contract. Assumes nothing.
use Rattle.std.proofs.Common.{◌≡◌, ◌+◌, ◌*◌, ◌-◌, ℕ, take, drop, get_or, ap, ◌∙◌, arith}
use Rattle.theory.specs.Query.{member, variables_of}
use Rattle.query.specs.View.{entries_of}
use Rattle.query.proofs.Relations.{width-le}
use Rattle.lists.proofs.Loops.{search-finds, search-passes, search-ends}
use Rattle.limits.specs.internal.Schema.{widths_in}
use Rattle.limits.proofs.Variables.{row_has, rows_start}
use Rattle.limits.proofs.schema.Schema.rows_have.Goals as goal

pub loop-row-init : goal.loop-row-init
loop-row-init c = rows_start (widths_in c.args.self) c.args.cells.now c.args.v c.args.named.now

pub slice_bounds-cells_have-end : goal.slice_bounds-cells_have-end
slice_bounds-cells_have-end c =
    let named = c.args.named.now in
    omega (arith, c.width_of-width.ensures, width-le _ _ c.args.self.good (get_or named c.loop-row.row 0))

pub returns-then-cells_have : goal.returns-then-cells_have
returns-then-cells_have c =
    let row = c.loop-row.row in
    let schema = widths_in c.args.self in
    let named = c.args.named.now in
    let width : 8 * row + c.width_of-width.result - 8 * row ≡ get_or schema (get_or named row 0) 0 = omega (arith, c.width_of-width.ensures) in
    let seen : c.cells_have.result ≡ row_has schema c.args.cells.now c.args.v row (get_or named row 0) =
    c.cells_have.ensures ∙ ap (λ (w : ℕ). member c.args.v (variables_of (entries_of (take w (drop (8 * row) c.args.cells.now))))) width
    in
    search-finds c.loop-row.invariant 0 (omega arith) seen c.if-cells_have.true

pub loop-row-preserved : goal.loop-row-preserved
loop-row-preserved c =
    let row = c.loop-row.row in
    let schema = widths_in c.args.self in
    let named = c.args.named.now in
    let width : 8 * row + c.width_of-width.result - 8 * row ≡ get_or schema (get_or named row 0) 0 = omega (arith, c.width_of-width.ensures) in
    let seen : c.cells_have.result ≡ row_has schema c.args.cells.now c.args.v row (get_or named row 0) =
    c.cells_have.ensures ∙ ap (λ (w : ℕ). member c.args.v (variables_of (entries_of (take w (drop (8 * row) c.args.cells.now))))) width
    in
    search-passes c.loop-row.invariant 0 (omega arith) seen c.if-cells_have.false

pub returns : goal.returns
returns c = search-ends c.loop-row.invariant (omega arith)
