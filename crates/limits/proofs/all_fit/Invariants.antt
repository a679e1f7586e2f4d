-- `all_fit`. Invariant: the rest of the pairs is judged as all of them are.
-- Assumes nothing.
use mathlib.Core.Path.{◌≡◌}
use lib.ListN.{length}
use Rattle.query.specs.Rule.{all_fit}
use Rattle.limits.proofs.all_fit.Given as goal

abbrev pub invariant-loop-p : goal.invariant-loop-p
invariant-loop-p l = all_fit l.pairs ≡ all_fit l.rest

abbrev pub decreases-loop-p : goal.decreases-loop-p
decreases-loop-p l = length l.rest
