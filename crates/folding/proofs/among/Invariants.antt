-- `folding::among` leaves of each row's candidates those that are left. The loop's invariant: so it is of the rows passed, and the others are as they were.
-- Assumes nothing.
use mathlib.Core.Path.{◌≡◌}
use Prim.Native.Nat.{ℕ, ◌≤◌, ◌<◌}
use lib.Bits.{bit_and}
use lib.ListN.{get_or, length}
use Rattle.folding.proofs.among.Given as goal

abbrev pub invariant-loop-mask : goal.invariant-loop-mask
invariant-loop-mask l =
    (length l.mask-items ≡ l.size)
    × ((j : ℕ) → j < l.mask-index → get_or l.mask-items j 0 ≡ bit_and (get_or l.domain j 0) l.left)
    × ((j : ℕ) → l.mask-index ≤ j → j < l.size → get_or l.mask-items j 0 ≡ get_or l.domain j 0)
