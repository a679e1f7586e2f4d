-- `put_codes` meets its contract. Invariant: the pairs of codes from the present one on are still to be written. Assumes nothing.
use Prim.Native.Nat.{◌+◌, ◌*◌}
use Rattle.encoder.proofs.Stores.{Writing}
use Rattle.assembly.specs.internal.Pieces.{put_pair}
use Rattle.assembly.proofs.put_codes.Given as goal

abbrev pub invariant-loop-i : goal.invariant-loop-i
invariant-loop-i l = Writing put_pair l.initial.buffer (l.at + 1) l.p-items l.buffer (l.at + 1 + 8 * l.i) l.i
