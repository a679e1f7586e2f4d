-- `place_good` meets its contract: a good query keeps the limits. Assumes nothing.
use Rattle.std.proofs.Common.{sym, ◌∙◌}
use Rattle.query.proofs.Good.{good-query}
use Rattle.limits.specs.internal.Schema.{widths_in}
use Rattle.limits.proofs.schema.Schema.place_good.Goals as goal

pub head_safe-requires : goal.head_safe-requires
head_safe-requires c =
    let good =
    good-query 12 (widths_in c.args.self) c.args.p.query (sym c.query_good.ensures ∙ c.if-query_good.true)
    in
    (good.arity, good.size)
