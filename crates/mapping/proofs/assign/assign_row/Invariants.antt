-- `assign_row` gives the variables of a row their images. The invariant: those of the columns passed have them.
-- Assumes nothing.
use mathlib.Core.Path.{◌≡◌}
use Prim.Native.Nat.{◌≤◌}
use lib.ListN.{length}
use Rattle.mapping.specs.internal.Lines.{RowAssigned}
use Rattle.mapping.proofs.assign.assign_row.Given as goal

abbrev pub invariant-loop-i : goal.invariant-loop-i
invariant-loop-i l = (l.i ≤ 8) × (length l.out ≡ 96) × RowAssigned l.initial.out l.source l.target l.row l.image l.i l.out
