-- `report::write_places` meets its contract. Invariant: the lines of the filled places below `place` are written. Assumes nothing.
use Prim.Native.Nat.{◌≤◌}
use Rattle.report.specs.internal.Places.{PartWritten}
use Rattle.report.proofs.write_places.Given as goal

abbrev pub invariant-loop-place : goal.invariant-loop-place
invariant-loop-place l = (l.place ≤ 8) × PartWritten l.given 0 l.place l.initial.buffer 0 l.buffer l.next
