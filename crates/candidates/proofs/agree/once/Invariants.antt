-- `once` tells whether no variable stands twice in a row. The invariant: so it is of the columns passed.
-- Assumes nothing.
use mathlib.Core.Path.{◌≡◌}
use Prim.Native.Nat.{ℕ, ◌+◌, ◌≤◌, ◌<◌}
use lib.ListN.{get_or}
use Rattle.candidates.proofs.agree.once.Given as goal

abbrev pub invariant-loop-i : goal.invariant-loop-i
invariant-loop-i l =
    (i j : ℕ) → i < l.i → j < i → 2147483648 ≤ get_or l.source (l.r + i) 0 → get_or l.source (l.r + j) 0 ≡ get_or l.source (l.r + i) 0 → ⊥
