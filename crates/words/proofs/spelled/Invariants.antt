-- `spelled` answers whether the words spell rows. Invariant: the rest of the words is judged as all of them are.
-- Assumes nothing.
use mathlib.Core.Path.{◌≡◌}
use lib.ListN.{length}
use Rattle.words.specs.Words.{spells_rows}
use Rattle.words.proofs.spelled.Given as goal

abbrev pub invariant-loop-relation : goal.invariant-loop-relation
invariant-loop-relation l = spells_rows l.schema l.words ≡ spells_rows l.schema l.rest

abbrev pub decreases-loop-relation : goal.decreases-loop-relation
decreases-loop-relation l = length l.rest
