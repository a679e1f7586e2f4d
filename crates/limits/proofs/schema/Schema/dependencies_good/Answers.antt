-- `dependencies_good` meets its contract. Assumes nothing.
use Rattle.std.proofs.Common.{rules, tests}
use borrow.Author.Tests.{le-leb, lt-leb}
use Rattle.query.specs.Rule.{good_dependency, blank_dependency, good_dependencies}
use Rattle.limits.specs.internal.Schema.{widths_in}
use Rattle.limits.proofs.schema.Schema.dependencies_good.Goals as goal

pub returns-then-held-le32 : goal.returns-then-held-le32
unfolding good_dependencies
returns-then-held-le32 c =
    rw (le-leb c.args.held 32 c.if-held-le32.true)
    (c.in_use.ensures (good_dependency (widths_in c.args.self)) blank_dependency
    (λ x b k. search (rules, tests)) (λ x b k. search (rules, tests)))

pub returns-else-held-le32 : goal.returns-else-held-le32
unfolding good_dependencies
returns-else-held-le32 c = rw (lt-leb c.args.held 32 c.if-held-le32.false)
