-- `first_step::find_step` meets its contract. The invariant of each loop: what the whole search finds is what is found from this position on (`Search`). The
-- labelled loop goes round once, so it has nothing to keep. Assumes nothing.
use mathlib.Core.Path.{◌≡◌}
use Prim.Native.Nat.{◌≤◌, ◌<◌}
use lib.ListN.{length}
use Rattle.first_step.proofs.Search.{broken_from, broken_from_row, broken_from_pair}
use Rattle.first_step.proofs.Search.{rows_only}
use Rattle.first_step.proofs.find_step.Given as goal

abbrev pub invariant-loop-j : goal.invariant-loop-j
invariant-loop-j l = (l.i < l.j) × (l.j ≤ l.size)
    × (broken_from (rows_only l.t.size l.t.relations l.t.cells) l.dependencies 0 ≡ broken_from_pair (rows_only l.t.size l.t.relations l.t.cells) l.dependencies l.d-index l.i l.j)

abbrev pub invariant-loop-i : goal.invariant-loop-i
invariant-loop-i l = (l.i ≤ l.size)
    × (broken_from (rows_only l.t.size l.t.relations l.t.cells) l.dependencies 0 ≡ broken_from_row (rows_only l.t.size l.t.relations l.t.cells) l.dependencies l.d-index l.i)

abbrev pub invariant-loop-d : goal.invariant-loop-d
invariant-loop-d l = (l.d-index ≤ length l.dependencies)
    × (broken_from (rows_only l.t.size l.t.relations l.t.cells) l.dependencies 0 ≡ broken_from (rows_only l.t.size l.t.relations l.t.cells) l.dependencies l.d-index)

abbrev pub decreases-search : goal.decreases-search
decreases-search l = 0
