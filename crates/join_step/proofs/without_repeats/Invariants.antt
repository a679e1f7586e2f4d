-- `join_step::without_repeats` meets its contract. The loop's invariant: what is kept is the tableau with its first i rows only, and of those no repeated ones.
-- Assumes nothing.
use mathlib.Core.Path.{◌≡◌}
use Prim.Native.Nat.{◌≤◌}
use Rattle.join_step.specs.internal.Step.{distinct_to}
use Rattle.tableaux.specs.internal.Codes.{codes_of}
use Rattle.join_step.proofs.without_repeats.Given as goal

abbrev pub invariant-loop-i : goal.invariant-loop-i
invariant-loop-i l =
    (l.i ≤ l.fn.t.size) × (l.codes ≡ codes_of l.fn.t.cells) × (l.kept ≡ distinct_to l.fn.t l.i)
