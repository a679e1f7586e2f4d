-- `column` has a column's codes. The invariant: those of the rows passed.
-- Assumes nothing.
use mathlib.Core.Path.{◌≡◌}
use Prim.Native.Nat.{ℕ, ◌+◌, ◌<◌}
use lib.ListN.{get_or, length}
use Rattle.candidates.specs.internal.Candidates.{row_start}
use Rattle.candidates.proofs.shared.column.Given as goal

abbrev pub invariant-loop-q : goal.invariant-loop-q
invariant-loop-q l =
    (length l.code-items ≡ l.size + 1) × ((q : ℕ) → q < l.q → get_or l.code-items q 0 ≡ get_or l.source (row_start l.size q + l.fn.j) 0)
