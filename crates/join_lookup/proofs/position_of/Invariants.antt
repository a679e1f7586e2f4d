-- `position_of` walks to where the row begins. Invariant: the walk stands at the row of its number, not beyond it. Assumes nothing.
use mathlib.Core.Path.{◌≡◌}
use Prim.Native.Nat.{◌≤◌}
use Rattle.join_lookup.specs.internal.Starts.{start_of}
use Rattle.join_lookup.proofs.position_of.Given as goal

abbrev pub invariant-loop-row : goal.invariant-loop-row
invariant-loop-row l = (l.row-iterator.schema.now ≡ l.schema) × (l.row-iterator.words.now ≡ l.words)
    × (l.row-iterator.place.at ≡ start_of l.schema l.words l.row-iterator.place.number) × (l.row-iterator.place.at ≤ l.at) × (l.number ≡ l.row-iterator.place.number)
