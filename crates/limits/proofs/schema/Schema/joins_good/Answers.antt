-- `joins_good` meets its contract. Assumes nothing.
use Rattle.std.proofs.Common.{rules, tests}
use borrow.Author.Tests.{le-leb, lt-leb}
use Rattle.query.specs.Rule.{good_join, blank_join, good_joins}
use Rattle.limits.specs.internal.Schema.{widths_in}
use Rattle.limits.proofs.schema.Schema.joins_good.Goals as goal

pub returns-then-joined-le4 : goal.returns-then-joined-le4
unfolding good_joins
returns-then-joined-le4 c =
    rw (le-leb c.args.joined 4 c.if-joined-le4.true)
    (c.in_use.ensures (good_join (widths_in c.args.self)) blank_join
    (λ x b k. search (rules, tests)) (λ x b k. search (rules, tests)))

pub returns-else-joined-le4 : goal.returns-else-joined-le4
unfolding good_joins
returns-else-joined-le4 c = rw (lt-leb c.args.joined 4 c.if-joined-le4.false)
