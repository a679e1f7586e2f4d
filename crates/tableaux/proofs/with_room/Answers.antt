-- `with_room` meets its contract. Assumes nothing.
use Rattle.std.proofs.Common.{◌≡◌, ◌-◌, ◌++◌, ◌∙◌, ap, rules, take, replicate}
use Rattle.query.specs.Rule.{no_cell}
use Rattle.tableaux.proofs.Room.{fitted}
use Rattle.tableaux.proofs.with_room.Goals as goal

pub returns : goal.returns
returns g c =
    let q = c.args.q in
    let out = c.never-out.result in
    let arity : out.arity ≡ q.arity = ap (λ x. x.arity) c.never-out.ensures in
    let relations : c.put_fitting.new.out ≡ take g.row.TO_ROWS q.relations ++ replicate (g.row.TO_ROWS - g.row.ROWS) 0
    = c.put_fitting.ensures ∙ fitted q.relations out.relations 0 g.row.ROWS g.row.TO_ROWS (search rules) (ap (λ x. x.relations) c.never-out.ensures) in
    let cells : c.put_fitting-2.new.out ≡ take g.row.TO_CELLS q.cells ++ replicate (g.row.TO_CELLS - g.row.CELLS) no_cell
    = c.put_fitting-2.ensures ∙ fitted q.cells out.cells no_cell g.row.CELLS g.row.TO_CELLS (search rules) (ap (λ x. x.cells) c.never-out.ensures) in
    rw (arity, relations, cells)
