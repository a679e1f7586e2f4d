-- `skip` finds a row before which none is the first of a broken pair, and may see a key. Invariant: the rows before the walk's place are passed.
-- Assumes nothing.
use mathlib.Core.Path.{◌≡◌}
use lib.ListN.{length}
use Rattle.grouping.specs.internal.Walked.{Walked}
use Rattle.codes.specs.internal.Codes.{codes_in}
use Rattle.grouping.proofs.skip.Given as goal

abbrev pub invariant-loop-row : goal.invariant-loop-row
invariant-loop-row l = (l.row-iterator.schema.now ≡ l.schema) × (l.row-iterator.words.now ≡ l.words)
    × Walked (codes_in l.codes) l.schema l.words l.d l.row-iterator.place l.walk l.used l.nodes × (length l.used ≡ length l.initial.used)
    × (length l.nodes ≡ length l.initial.nodes)
