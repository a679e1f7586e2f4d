-- `thread` walks over the rows. Invariant: the rows passed have their links. Assumes nothing.
use mathlib.Core.Path.{◌≡◌}
use Prim.Native.Nat.{◌-◌}
use lib.ListN.{length}
use Rattle.words.specs.internal.Found.{From}
use Rattle.join_tables.proofs.Threading.{Linked}
use Rattle.join_tables.proofs.thread.Given as goal

abbrev pub invariant-loop-row : goal.invariant-loop-row
invariant-loop-row l = (l.rows.schema.now ≡ l.schema) × (l.rows.words.now ≡ l.words) × From l.schema l.words l.rows.place.at l.rows.place.number
    × Linked l.schema l.words l.initial.nodes l.nodes l.rows.place.at

abbrev pub decreases-loop-row : goal.decreases-loop-row
decreases-loop-row l = length l.words - l.rows.place.at
