-- `chase::chase` meets its contract. The loop's invariant is `Under`: the chase of the query so far gives the whole chase, `count` replacements later. The
-- measure is the number of replacements that are left. Assumes nothing.
use mathlib.Core.Path.{◌≡◌}
use lib.ListN.{length}
use mathlib.Core.List.{map}
use Rattle.first_step.specs.internal.Wide.{wide_query}
use Rattle.query.specs.View.{as_query, dependency_of}
use Rattle.chase.proofs.Rounds.{Under}
use Rattle.theory.specs.Chase as chasing
use Rattle.chase.proofs.chase.Given as goal

abbrev pub invariant-loop-a : goal.invariant-loop-a
invariant-loop-a l =
    (length l.t.relations ≡ 24) × (length l.t.head ≡ 8) × Under (as_query l.t) (map dependency_of l.dependencies) (as_query l.query) l.count

abbrev pub decreases-loop-a : goal.decreases-loop-a
decreases-loop-a l = (chasing.chase (map dependency_of l.dependencies) (wide_query (as_query l.query))).count
