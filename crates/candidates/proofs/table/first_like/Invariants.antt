-- `first_like` finds the first row that is the same. The invariant: as none of those passed.
-- Assumes nothing.
use mathlib.Core.Path.{◌≡◌}
use Prim.Native.Nat.{ℕ, ◌*◌, ◌<◌}
use lib.ListN.{get_or}
use Rattle.candidates.specs.internal.Candidates.{SameRow}
use Rattle.candidates.proofs.table.first_like.Given as goal

abbrev pub invariant-loop-e : goal.invariant-loop-e
invariant-loop-e l =
    (k : ℕ) → k < l.e → get_or l.relation-items k 0 ≡ get_or l.fn.offered l.d 0 → SameRow l.target (8 * k) (8 * l.d) → ⊥
