-- `Codes::read_rows` meets its contract: the first rows are done. Assumes nothing.
use mathlib.Core.Path.{◌≡◌, refl, ap, ◌∙◌}
use mathlib.Core.List.{List}
use Prim.Native.Nat.{ℕ, ◌≤◌, ◌<◌}
use native.Mathlib.Omega.{arith}
use lib.ListN.{length, take, get_or}
use lib.Seq.{length-take-le}
use Rattle.query.proofs.Relations.{width-le}
use Rattle.limits.specs.internal.Schema.{widths_in}
use Rattle.codes.specs.internal.Codes.{codes_in, read_rows}
use Rattle.codes.proofs.Reading.{rows-step, rows-length, all-rows}
use Rattle.codes.proofs.pairs.Codes.read_rows.Goals as goal

pub loop-row-init : goal.loop-row-init
unfolding read_rows
loop-row-init c = refl

pub slice_bounds-read_cells-end : goal.slice_bounds-read_cells-end
slice_bounds-read_cells-end c =
    let s = c.args.schema in
    let rs = c.args.relations.now in
    let narrow = width-le s.relations s.widths s.good in
    let inside : c.loop-row.row < length rs = omega arith in
    let few : length (take c.loop-row.row rs) ≤ length rs = rw (length-take-le c.loop-row.row rs (omega arith)) (omega arith) in
    let long : length c.loop-row.cells ≡ length c.args.cells.now =
    ap length c.loop-row.invariant ∙ rows-length (codes_in c.args.self.now) (widths_in s) narrow (take c.loop-row.row rs) c.args.cells.now (omega (arith, c.requires)) in
    omega (arith, c.requires, c.width_of-width.ensures, narrow (get_or rs c.loop-row.row 0))

pub loop-row-preserved : goal.loop-row-preserved
loop-row-preserved c =
    let s = c.args.schema in
    rows-step (codes_in c.args.self.now) (widths_in s) (width-le s.relations s.widths s.good) c.args.relations.now c.args.cells.now c.loop-row.cells
    c.read_cells.new.cells c.loop-row.row c.width_of-width.result (omega arith) c.requires c.width_of-width.ensures c.loop-row.invariant c.read_cells.ensures

pub returns : goal.returns
returns c =
    c.loop-row.invariant
    ∙ ap (λ (rs : List ℕ). read_rows (codes_in c.args.self.now) (widths_in c.args.schema) rs c.args.cells.now)
    (all-rows c.args.relations.now c.loop-row.row (omega arith))
