-- `join_chase::chase` meets its contract. The loop's invariant: the chase of the tableau so far gives the outcome of the whole. The measure is the number of
-- rounds that are left. Assumes nothing.
use mathlib.Core.Path.{◌≡◌}
use mathlib.Core.Bool.{true}
use mathlib.Core.List.{map}
use Rattle.query.specs.View.{query_of, as_query, dependency_of, join_of}
use Rattle.query.specs.Rule.{good_tableau}
use Rattle.joins.specs.JoinChase.{join_chase}
use Rattle.join_chase.specs.internal.JoinChased.{rounds_left}
use Rattle.join_chase.proofs.chase.Given as goal

abbrev pub invariant-loop-outcome : goal.invariant-loop-outcome
invariant-loop-outcome l =
    (good_tableau l.schema l.tableau ≡ true) × (l.tableau.arity ≡ l.initial.tableau.arity)
    × (join_chase l.schema (map dependency_of l.dependencies) (map join_of l.joins) 24 (query_of l.schema (as_query l.tableau))
    ≡ join_chase l.schema (map dependency_of l.dependencies) (map join_of l.joins) 24 (query_of l.schema (as_query l.initial.tableau)))

abbrev pub decreases-loop-outcome : goal.decreases-loop-outcome
decreases-loop-outcome l = rounds_left l.schema l.joins l.tableau
