-- `lands` tells whether a row is carried to one of the target's. The invariant: to none of those passed.
-- Assumes nothing.
use mathlib.Core.Path.{◌≡◌}
use Prim.Native.Nat.{ℕ, ◌*◌, ◌<◌}
use lib.ListN.{get_or}
use Rattle.mapping.specs.internal.Lines.{Carried}
use Rattle.mapping.proofs.carry.lands.Given as goal

abbrev pub invariant-loop-d : goal.invariant-loop-d
invariant-loop-d l =
    (k : ℕ) → k < l.d → l.named ≡ get_or l.offered k 0 → Carried l.source l.target l.images (8 * l.r) (8 * k) → ⊥
