-- `consistency::narrowed` meets its contract. The loop's invariant: the choice is made, and each row passed is narrowed by it.
-- Assumes nothing.
use mathlib.Core.Path.{◌≡◌}
use Prim.Native.Nat.{◌^◌, ◌≤◌}
use lib.ListN.{set, length}
use lib.Bits.{bit_or}
use Rattle.consistency.proofs.Steps.{Passed}
use Rattle.consistency.proofs.narrowed.Given as goal

abbrev pub invariant-loop-q : goal.invariant-loop-q
invariant-loop-q l =
    (l.q ≤ l.rows) × (length l.state.current ≡ 13) × (length l.state.culprits ≡ 13)
    × (l.state.chosen ≡ set l.fn.state.chosen l.r l.d) × (l.state.placed ≡ bit_or l.fn.state.placed (2 ^ l.r))
    × Passed l.table l.fn.state l.state l.r l.d l.q
