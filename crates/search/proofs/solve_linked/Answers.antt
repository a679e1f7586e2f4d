-- `search::solve_linked` meets its contract: no row is placed at the start, so a failure of the first call blames none. Assumes nothing.
use Rattle.search.proofs.Calls.{placeable-start, placeable-settled}
use Rattle.search.proofs.solve_linked.Goals as goal

pub place_row-requires : goal.place_row-requires
place_row-requires c =
    let s = c in
    let first = c.start in
    placeable-settled s.args.rows s.args.domain.now s.args.table.now first.result c.settled-state.result _ c.settled-state.ensures
    (placeable-start s.args.rows s.args.domain.now s.args.table.now first.result s.requires first.ensures.0 first.ensures.1
    first.ensures.2)
