-- The bytes of the rows so far, and of those that are left
use Prim.Native.Nat.{◌+◌, ◌*◌, ◌≤◌}
use mathlib.Core.Path.{◌≡◌}
use lib.ListN.{drop}
use Rattle.limits.specs.internal.Schema.{widths_in}
use Rattle.encoder.specs.internal.Lengths.{rows_length}
use Rattle.encoder.proofs.rows_length.Given as goal

abbrev pub invariant-loop-relation : goal.invariant-loop-relation
invariant-loop-relation l =
    (l.sum ≤ 41 * l.relation-index) × (rows_length (widths_in l.schema) l.named ≡ l.sum + rows_length (widths_in l.schema) (drop l.relation-index l.named))
