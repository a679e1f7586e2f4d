-- `fixes` tells whether an image has each constant of a row. The invariant: those of the columns passed.
-- Assumes nothing.
use mathlib.Core.Path.{◌≡◌}
use Prim.Native.Nat.{ℕ, ◌+◌, ◌<◌}
use lib.ListN.{get_or}
use Rattle.lists.specs.internal.Tells.{Tells}
use Rattle.candidates.proofs.agree.fixes.Given as goal

abbrev pub invariant-loop-i : goal.invariant-loop-i
invariant-loop-i l =
    Tells l.all ((i : ℕ) → i < l.i → get_or l.source (l.r + i) 0 < 2147483648 → get_or l.target (l.d + i) 0 ≡ get_or l.source (l.r + i) 0)
