-- The cycle of calls {place_row, try_candidate}: what each asks of the other and what it answers is in `Calls`; here are only
-- the places of the code. Assumes nothing.
use Rattle.std.proofs.Common.{rules, arith, ◌≡◌, length}
use Rattle.search.proofs.Calls.{some-work, placeable-next, failed-jump, tryable-next}
use Rattle.search.proofs.+place_row_try_candidate.Goals as goal

pub try_candidate-overflow_sub-work : goal.try_candidate-overflow_sub-work
try_candidate-overflow_sub-work t c =
    omega (arith, some-work c.args.rows c.args.domain.now c.args.table.now c.args.state c.args.work c.args.row c.args.c c.args.blame _ c.requires c.in-Some.ensures)

pub try_candidate-place_row-requires : goal.try_candidate-place_row-requires
try_candidate-place_row-requires t c =
    let long : length c.args.state.chosen ≡ 13 = search rules in (
      omega (arith, some-work c.args.rows c.args.domain.now c.args.table.now c.args.state c.args.work c.args.row c.args.c c.args.blame _ c.requires c.in-Some.ensures),
      placeable-next c.args.rows c.args.domain.now c.args.table.now c.args.state c.args.work c.args.row c.args.c c.args.blame _ c.requires c.in-Some.ensures _ c.choose-next.ensures long,
    )

pub try_candidate-overflow_sub-work-in-Err : goal.try_candidate-overflow_sub-work-in-Err
try_candidate-overflow_sub-work-in-Err t c =
    omega (arith, some-work c.args.rows c.args.domain.now c.args.table.now c.args.state c.args.work c.args.row c.args.c c.args.blame _ c.requires c.in-Some.ensures)

pub try_candidate-try_candidate-requires : goal.try_candidate-try_candidate-requires
try_candidate-try_candidate-requires t c =
    let long : length c.args.state.chosen ≡ 13 = search rules in (
      omega (arith, some-work c.args.rows c.args.domain.now c.args.table.now c.args.state c.args.work c.args.row c.args.c c.args.blame _ c.requires c.in-Some.ensures),
      tryable-next c.args.rows c.args.domain.now c.args.table.now c.args.state c.args.work c.args.row c.args.c c.args.blame _ c.requires c.in-Some.ensures _ c.choose-next.ensures long c.in-Err.more c.in-Err.ensures,
    )

pub try_candidate-returns-in_default-place_row : goal.try_candidate-returns-in_default-place_row
try_candidate-returns-in_default-place_row t c =
    let long : length c.args.state.chosen ≡ 13 = search rules in
    failed-jump c.args.rows c.args.domain.now c.args.table.now c.args.state c.args.work c.args.row c.args.c c.args.blame _ c.requires c.in-Some.ensures _ c.choose-next.ensures long c.in-Err.more c.in-Err.ensures
    (omega (arith, c.if-more-row-eq1.false))
