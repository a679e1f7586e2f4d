-- `join_search::choose` meets its contract: column by column (`Choosing`). Assumes nothing.
use Prim.Native.Nat.{◌/◌, ◌^◌}
use Rattle.join_search.proofs.Rows.{Choosing}
use Rattle.join_search.proofs.choose.Given as goal

abbrev pub invariant-loop-c : goal.invariant-loop-c
invariant-loop-c l = Choosing l.codes l.set l.initial.next l.i l.next (l.set / 2 ^ l.c) l.c
