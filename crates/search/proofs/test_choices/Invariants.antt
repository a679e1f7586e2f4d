-- `search::test_choices` meets its contract. The loop's invariant: each row passed fits. Assumes nothing.
use Prim.Native.Nat.{ℕ, ◌<◌}
use Rattle.search.specs.internal.Invariant.{RowFits}
use Rattle.search.proofs.test_choices.Given as goal

abbrev pub invariant-loop-r : goal.invariant-loop-r
invariant-loop-r l = (k : ℕ) → k < l.r → RowFits l.rows l.domain l.table l.chosen k
