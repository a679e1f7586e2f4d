-- `search::consistent` leaves the candidates that a settled state has. The loop's invariant: so it is of the rows passed. Assumes nothing.
use mathlib.Core.Path.{◌≡◌}
use Prim.Native.Nat.{ℕ, ◌≤◌, ◌<◌}
use lib.Bits.{bit_and}
use lib.ListN.{get_or, length}
use Rattle.search.proofs.consistent.Given as goal

abbrev pub invariant-loop-r : goal.invariant-loop-r
invariant-loop-r l =
    (length l.mask-items ≡ 13)
    × ((j : ℕ) → j < l.r → get_or l.mask-items j 0 ≡ bit_and (get_or l.domain j 0) (get_or l.state.current j 0))
    × ((j : ℕ) → l.r ≤ j → get_or l.mask-items j 0 ≡ get_or l.domain j 0)
