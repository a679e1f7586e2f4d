-- `alike` has a mask for each row. The invariant: it has those of the rows passed.
-- Assumes nothing.
use mathlib.Core.Path.{◌≡◌}
use Prim.Native.Nat.{ℕ, ◌+◌, ◌*◌, ◌<◌}
use lib.ListN.{get_or, length}
use Rattle.candidates.specs.internal.Candidates.{Marks}
use Rattle.candidates.proofs.cuts.alike.Given as goal

abbrev pub invariant-loop-d : goal.invariant-loop-d
invariant-loop-d l =
    (length l.mask-items ≡ l.count)
    × ((d : ℕ) → d < l.d → Marks l.count (get_or l.mask-items d 0) (λ e. get_or l.target (8 * e + l.fn.j) 0 ≡ get_or l.target (8 * d + l.i) 0))
