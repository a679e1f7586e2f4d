-- Invariant: the whole length is the sum with the length of the join dependencies that are left. Assumes nothing.
use mathlib.Core.Path.{◌≡◌}
use mathlib.Core.List.{flat_map}
use Prim.Native.Nat.{◌+◌, ◌*◌, ◌≤◌}
use lib.ListN.{length, drop}
use Rattle.assembly.specs.internal.Pieces.{put_join}
use Rattle.assembly.proofs.joins_length.Given as goal

abbrev pub invariant-loop-j : goal.invariant-loop-j
invariant-loop-j l =
    (l.sum ≤ 1 + 6 * l.j-index) × (1 + length (flat_map put_join l.j-items) ≡ l.sum + length (flat_map put_join (drop l.j-index l.j-items)))
