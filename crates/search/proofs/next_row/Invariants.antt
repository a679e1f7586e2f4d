-- `search::next_row` meets its contract. The loop's invariant: the best row is not placed, and without one each row passed is. Assumes nothing.
use Prim.Native.Nat.{ℕ, ◌<◌}
use Rattle.std.specs.Prelude.{MatchOption}
use Rattle.consistency.specs.internal.Solution.{Bit}
use Rattle.consistency.specs.internal.Consistent.{NoBit}
use Rattle.search.proofs.next_row.Given as goal

abbrev pub invariant-loop-q : goal.invariant-loop-q
invariant-loop-q l = MatchOption l.best ((k : ℕ) → k < l.q → Bit l.state.placed k) (λ best. (best.row < l.rows) × NoBit l.state.placed best.row)
