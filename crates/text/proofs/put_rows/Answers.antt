-- `text::put_rows` meets its contract. Invariant: the rows from r on are left to be written. Assumes nothing.
use borrow.Author.Rules.{rules}
use mathlib.Core.Path.{◌≡◌}
use Prim.Native.Nat.{◌*◌, ◌<◌}
use native.Mathlib.Omega.{arith}
use lib.ListN.{length, take, drop, get_or, length-take}
use Rattle.lists.proofs.Loops.{mapped-length}
use Rattle.limits.specs.internal.Schema.{widths_in}
use Rattle.query.proofs.Good.{good-query}
use Rattle.query.proofs.Relations.{width-le}
use Rattle.printing.proofs.Writing.{part-fits, wrote, finished, left_as}
use Rattle.text.proofs.Turns.{rows-turn, rows_end}
use Rattle.text.proofs.put_rows.Goals as goal

pub slice_bounds-row-end : goal.slice_bounds-row-end
slice_bounds-row-end c =
    let q = c.args.query in
    let cells : length q.cells ≡ 96 = search (mapped-length, rules) in
    let low : c.loop-r.r < q.size = omega (arith, length-take q.size q.relations) in
    omega (arith, (good-query 12 _ _ c.requires.1).size, c.width_of-width.ensures, width-le _ _ c.args.schema.good (get_or (take q.size q.relations) c.loop-r.r 0))

pub put_row_line-next-requires : goal.put_row_line-next-requires
put_row_line-next-requires c =
    let q = c.args.query in
    let named = take q.size q.relations in
    part-fits c.loop-r.invariant _ _
    (rows-turn (widths_in c.args.schema) named q.cells c.loop-r.r c.loop-r-test.true c.width_of-width.result c.width_of-width.ensures)

pub loop-r-preserved : goal.loop-r-preserved
loop-r-preserved c =
    let q = c.args.query in
    let named = take q.size q.relations in
    wrote c.loop-r.invariant _
    (rows-turn (widths_in c.args.schema) named q.cells c.loop-r.r c.loop-r-test.true c.width_of-width.result c.width_of-width.ensures)
    c.put_row_line-next.ensures

pub returns : goal.returns
returns c =
    let q = c.args.query in
    let named = take q.size q.relations in
    finished (left_as c.loop-r.invariant (rows_end (widths_in c.args.schema) named (drop (8 * c.loop-r.r) q.cells) c.loop-r.r c.loop-r-test.false))

pub shared_ref_as_front-relation-items : goal.shared_ref_as_front-relation-items
shared_ref_as_front-relation-items c = (good-query 12 _ _ c.requires.1).size
