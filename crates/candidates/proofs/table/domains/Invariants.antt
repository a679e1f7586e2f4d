-- `domains` has the mask of each row. The invariant: it has those of the rows passed.
-- Assumes nothing.
use mathlib.Core.Path.{◌≡◌}
use Prim.Native.Nat.{ℕ, ◌+◌, ◌<◌}
use lib.ListN.{get_or, length}
use Rattle.candidates.specs.internal.Candidates.{Marks, candidates_of, Possible}
use Rattle.candidates.proofs.table.domains.Given as goal

abbrev pub invariant-loop-r : goal.invariant-loop-r
invariant-loop-r l =
    (length l.mask-items ≡ l.size + 1)
    × ((j : ℕ) → j < l.r → Marks (candidates_of l.size l.count j) (get_or l.mask-items j 0) (Possible l.source l.target l.fn.named l.fn.offered l.size j))
