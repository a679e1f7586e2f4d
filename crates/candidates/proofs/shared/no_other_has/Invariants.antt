-- `no_other_has` tells whether no other row has a code. The invariant: none of the rows passed.
-- Assumes nothing.
use mathlib.Core.Path.{◌≡◌}
use Prim.Native.Nat.{ℕ, ◌<◌}
use lib.ListN.{get_or}
use Rattle.lists.specs.internal.Tells.{Tells}
use Rattle.candidates.proofs.shared.no_other_has.Given as goal

abbrev pub invariant-loop-q : goal.invariant-loop-q
invariant-loop-q l = Tells l.none ((q : ℕ) → q < l.q → get_or l.others q 0 ≡ l.code → ⊥)
