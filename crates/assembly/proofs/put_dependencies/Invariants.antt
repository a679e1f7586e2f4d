use Prim.Native.Nat.{◌+◌, ◌*◌}
use Rattle.assembly.specs.internal.Pieces.{put_dependency}
use Rattle.encoder.proofs.Stores.{Writing}
use Rattle.assembly.proofs.put_dependencies.Given as goal

abbrev pub invariant-loop-i : goal.invariant-loop-i
invariant-loop-i l = Writing put_dependency l.initial.buffer (l.at + 1) l.d-items l.buffer (l.at + 1 + 3 * l.i) l.i
