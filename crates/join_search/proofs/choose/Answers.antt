-- `join_search::choose` meets its contract: column by column (`Choosing`). Assumes nothing.
use mathlib.Core.Path.{◌≡◌}
use lib.ListN.{length}
use Prim.Native.Nat.{◌/◌, ◌^◌}
use Rattle.tableaux.proofs.Columns.{left-first, left_next}
use borrow.Author.Rules.{rules}
use Rattle.join_search.proofs.Rows.{choosing-start, choosing-takes, choosing-skips, choosing-end}
use Rattle.join_search.proofs.choose.Goals as goal
use Rattle.join_search.proofs.choose.Goals.{then-set-c-eq1, else-set-c-eq1}

pub loop-c-init : goal.loop-c-init
loop-c-init c =
    let long : length c.args.chosen ≡ 8 = search rules in
    rw left-first (choosing-start _ _ _ _ long)

pub loop-c-preserved : goal.loop-c-preserved
loop-c-preserved c =
    let a = c.args in
    let l = c.loop-c in
    let low = c.loop-c-test.true in
    elim c.if-set-c-eq1.branch [
      | then-set-c-eq1 w ↦ rw (w.next-is, ← left_next a.set l.c) (choosing-takes a.codes.now a.set a.chosen a.i l.next (a.set / 2 ^ l.c) l.c low l.invariant w.if-set-c-eq1.true)
      | else-set-c-eq1 w ↦ rw (w.next-is, ← left_next a.set l.c) (choosing-skips a.codes.now a.set a.chosen a.i l.next (a.set / 2 ^ l.c) l.c low l.invariant w.if-set-c-eq1.false)
    ]

pub returns : goal.returns
returns c =
    let a = c.args in
    let l = c.loop-c in
    choosing-end a.codes.now a.set a.chosen a.i l.next (a.set / 2 ^ l.c) l.c c.loop-c-test.false l.invariant
