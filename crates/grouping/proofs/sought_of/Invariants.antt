-- `sought_of` takes two hashes of a row's left values, and its right value. Invariant: the hashes of what is left of the left set, begun with h and tag,
-- are the whole hashes.
-- Assumes nothing.
use mathlib.Core.Path.{◌≡◌}
use Prim.Native.Nat.{◌≤◌, ◌-◌, ◌^◌, ◌<◌}
use Rattle.codes.specs.internal.Codes.{codes_in}
use Rattle.grouping.proofs.Hashes.{hash_at}
use Rattle.grouping.proofs.sought_of.Given as goal

abbrev pub invariant-loop-left : goal.invariant-loop-left
invariant-loop-left l = (l.c ≤ l.width) × (l.left < 2 ^ (l.width - l.c)) × (l.h < 4294967296) × (l.tag < 4294967296)
    × (hash_at (codes_in l.codes) 1000003 l.width l.words l.a 0 l.initial.left 0 ≡ hash_at (codes_in l.codes) 1000003 l.width l.words l.a l.c l.left l.h)
    × (hash_at (codes_in l.codes) 2654435761 l.width l.words l.a 0 l.initial.left 0
    ≡ hash_at (codes_in l.codes) 2654435761 l.width l.words l.a l.c l.left l.tag)

abbrev pub decreases-loop-left : goal.decreases-loop-left
decreases-loop-left l = l.left
