-- Invariant: the first dependency that adds is the first from the present one on.
use Rattle.std.proofs.Common.{map}
use Rattle.theory.specs.Chase.{first_passing}
use Rattle.determination.specs.Determined.{adds}
use Rattle.query.specs.View.{columns_of, dependency_of}
use Rattle.closure.proofs.Closure.{Passing}
use Rattle.closure.proofs.next_columns.Given as goal

abbrev pub invariant-loop-d : goal.invariant-loop-d
invariant-loop-d l =
    Passing (adds l.relation (columns_of l.mask)) (map dependency_of l.dependencies)
    (first_passing (adds l.relation (columns_of l.mask)) (map dependency_of l.dependencies)) l.d-index
