-- `locate` walks to a position. Invariant: the walk stands at a row that is not beyond the position.
-- Assumes nothing.
use mathlib.Core.Path.{◌≡◌}
use Prim.Native.Nat.{◌≤◌}
use Rattle.grouping.specs.internal.Walked.{RowBegins}
use Rattle.grouping.proofs.locate.Given as goal

abbrev pub invariant-loop-row : goal.invariant-loop-row
invariant-loop-row l = (l.row-iterator.schema.now ≡ l.schema) × (l.row-iterator.words.now ≡ l.words)
    × RowBegins l.schema l.words l.row-iterator.place.at l.row-iterator.place.number × (l.row-iterator.place.number ≤ l.number)
