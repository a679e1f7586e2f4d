-- `assembly::put_joins` meets its contract. Invariant: the join dependencies from the present one on are still to be written. Assumes nothing.
use Prim.Native.Nat.{◌+◌}
use Rattle.encoder.proofs.Stores.{Writing}
use Rattle.assembly.specs.internal.Pieces.{put_join}
use Rattle.assembly.proofs.put_joins.Given as goal

abbrev pub invariant-loop-j : goal.invariant-loop-j
invariant-loop-j l = Writing put_join l.initial.buffer (l.at + 1) l.j-items l.buffer l.next l.j-index
