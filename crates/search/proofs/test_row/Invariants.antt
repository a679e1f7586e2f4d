-- `search::test_row` meets its contract. The loop's invariant: the row goes together with each row passed. Assumes nothing.
use Prim.Native.Nat.{ℕ, ◌<◌, ◌≤◌}
use lib.ListN.{get_or}
use Rattle.consistency.specs.internal.Solution.{Bit, together}
use Rattle.search.proofs.test_row.Given as goal

abbrev pub invariant-loop-q : goal.invariant-loop-q
invariant-loop-q l =
    (l.q ≤ l.rows) × ((k : ℕ) → k < l.q → Bit (together l.table l.r l.d k) (get_or l.chosen k 0))
