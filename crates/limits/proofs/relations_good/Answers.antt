-- `relations_good` meets its contract. Assumes nothing.
use Rattle.std.proofs.Common.{rules, tests, arith, ◌≤◌}
use Rattle.std.proofs.lemmas.Bool.Decides.{nat_tests}
use borrow.Author.Tests.{le-leb}
use Rattle.lists.specs.Tests.{between, is_zero}
use Rattle.query.specs.Rule.{good_relations}
use Rattle.limits.proofs.relations_good.Goals as goal

pub returns-then-relations-le8 : goal.returns-then-relations-le8
unfolding good_relations
returns-then-relations-le8 c =
    let low : 1 ≤ c.args.relations = omega arith in
    let high : c.args.relations ≤ 8 = omega arith in
    rw (le-leb 1 c.args.relations low, le-leb c.args.relations 8 high)
    (c.in_use.ensures (between 1 8) is_zero (λ x b k. search (rules, tests)) (λ x b k. search (rules, tests)))

pub returns-else-relations-le8 : goal.returns-else-relations-le8
unfolding good_relations
returns-else-relations-le8 c = grind (arith, nat_tests)
