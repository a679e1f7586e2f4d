-- `folding::kept` keeps the rows that are to be kept: the candidates and the table are made, repeats go, and each row is tried. The loop's invariant is that of
-- `Theory`, whichever query the candidates are of. Assumes nothing.
use Prim.Native.Nat.{◌^◌, ◌≤◌, ◌<◌}
use Rattle.folding.proofs.Theory.{Trying}
use Rattle.folding.proofs.kept.Given as goal

abbrev pub invariant-loop-i : goal.invariant-loop-i
invariant-loop-i l =
    (l.i ≤ l.size) × (l.state.left < 2 ^ l.size) × Trying l.«open» l.pairs l.size l.initial.state.left l.state.left l.i
