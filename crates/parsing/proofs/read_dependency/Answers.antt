-- `read_dependency` meets its contract. Assumes nothing.
use Rattle.limits.specs.internal.Schema.{widths_in}
use Rattle.parsing.proofs.Values.{to_end}
use Rattle.parsing.proofs.Dependencies.{dependency-short, found-dependency, bad-dependency}
use Rattle.parsing.proofs.read_dependency.Goals as goal

pub returns-then-s-lt3 : goal.returns-then-s-lt3
returns-then-s-lt3 c = dependency-short (widths_in c.args.schema) c.args.s.now c.if-s-lt3.true

pub returns-then-dependency_good : goal.returns-then-dependency_good
returns-then-dependency_good c =
    found-dependency (widths_in c.args.schema) c.args.s.now c.if-s-lt3.false c.dependency_good.result c.dependency_good.ensures
    c.if-dependency_good.true _ (to_end 3 c.args.s.now)

pub returns-else-dependency_good : goal.returns-else-dependency_good
returns-else-dependency_good c =
    bad-dependency (widths_in c.args.schema) c.args.s.now c.if-s-lt3.false c.dependency_good.result c.dependency_good.ensures
    c.if-dependency_good.false
