-- The length of the parts so far, and of those that are left
use mathlib.Core.Path.{◌≡◌}
use mathlib.Core.List.{map, flatten}
use Prim.Native.Nat.{◌+◌, ◌*◌, ◌≤◌}
use lib.ListN.{length, drop}
use Rattle.format.specs.File.{put_place}
use Rattle.limits.specs.internal.Schema.{widths_in}
use Rattle.assembly.proofs.places_length.Given as goal

abbrev pub invariant-loop-place : goal.invariant-loop-place
invariant-loop-place l =
    (l.sum ≤ 534 * l.place-index)
    × (length (flatten (map (put_place (widths_in l.schema)) l.places)) ≡ l.sum + length (flatten (map (put_place (widths_in l.schema)) (drop l.place-index l.places))))
