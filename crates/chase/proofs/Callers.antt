-- What a caller of the chase has to show, from the rule for the record: good relations, dependencies and tableau. Assumes nothing.
use mathlib.Core.Path.{◌≡◌, refl}
use mathlib.Core.Bool.{true}
use mathlib.Core.List.{List}
use Prim.Native.Nat.{ℕ, ◌≤◌}
use native.Mathlib.Omega.{arith}
use borrow.Author.Tests.{leb-true, ltb-true, lt-ltb}
use lib.Dec.{leb, ltb}
use lib.ListN.{length, take, drop, get_or}
use Rattle.query.specs.Types.{Tableau}
use Rattle.query.specs.declared.Dependency.{Dependency}
use Rattle.query.specs.View.{as_query}
use Rattle.lists.specs.Tests.{every, between, is_zero, in_use}
use Rattle.query.specs.Rule.{blank_dependency, good_relations, good_dependency, good_dependencies, good_tableau, no_dependency}
use Rattle.first_step.specs.internal.Wide.{Chasable}
use Rattle.lists.proofs.Tests.{every-get_or, every-weaken, used-good}
use Rattle.lists.proofs.Positions.{every-get_or-else}
use Rattle.query.proofs.Good.{good-query, good-dependency}
use Rattle.query.proofs.Stored.{all-cells}
use Rattle.lists.proofs.Tests.{and_left, and_right}

-- The widths that good relations give are 1 to 8
pub good-widths : (relations : ℕ) (widths : List ℕ) → good_relations relations widths ≡ true → every (between 1 8) (take relations widths) ≡ true
unfolding good_relations
good-widths relations widths good =
    and_left
    (every (between 1 8) (take relations widths))
    (every is_zero (drop relations widths))
    (and_right (between 1 8 relations) (in_use relations (between 1 8) is_zero widths) good)

-- No relation is wider than 8, also one that is not there
pub width-le : (schema : List ℕ) → every (between 1 8) schema ≡ true → (r : ℕ) → get_or schema r 0 ≤ 8
width-le schema widths r =
    leb-true
    (get_or schema r 0)
    8
    (every-get_or-else (λ n. leb n 8) schema r 0 (every-weaken (between 1 8) (λ n. leb n 8) (λ n p. and_right (leb 1 n) (leb n 8) p) schema widths) refl)

-- The right column of a good dependency is below 8
good_right : (schema : List ℕ) → every (between 1 8) schema ≡ true → (d : Dependency) → good_dependency schema d ≡ true → ltb d.right 8 ≡ true
good_right schema widths d good = lt-ltb d.right 8 (omega (arith, width-le schema widths d.relation, (good-dependency schema d good).right))

-- The dependencies that are held are good
pub held-good : (schema : List ℕ) (held : ℕ) (dependencies : List Dependency) → good_dependencies schema held dependencies ≡ true
    → every (good_dependency schema) (take held dependencies) ≡ true
unfolding good_dependencies
held-good schema held dependencies good =
    used-good held (good_dependency schema) blank_dependency dependencies
    (and_right (leb held 32) (in_use held (good_dependency schema) blank_dependency dependencies) good)

-- A good tableau can be chased with good dependencies
pub chasable : (schema : List ℕ) (dependencies : List Dependency) (t : Tableau) → every (between 1 8) schema ≡ true
    → every (good_dependency schema) dependencies ≡ true → good_tableau schema t ≡ true → length t.relations ≡ 24 → Chasable t dependencies
chasable schema dependencies t widths good good-t long =
    let p = good-query 24 schema (as_query t) good-t in
    let rights = every-weaken (good_dependency schema) (λ d. ltb d.right 8) (good_right schema widths) dependencies good in
    record {
      arity-fits = p.arity;
      size_fits = p.size;
      right-fits = λ d h. ltb-true (get_or dependencies d no_dependency).right 8 (every-get_or (λ x. ltb x.right 8) dependencies d no_dependency rights h);
      cells-good = all-cells 24 schema (as_query t) good-t (omega (arith, long, p.size));
      rest-blank = p.cells;
    }
