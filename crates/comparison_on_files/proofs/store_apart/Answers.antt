-- `store_apart` stores a verdict with its query. Assumes nothing.
use Rattle.std.proofs.Common.{◌≤◌, length, arith}
use Rattle.limits.specs.internal.Schema.{widths_in}
use Rattle.query.specs.View.{as_query}
use Rattle.query.proofs.Good.{good-query}
use Rattle.comparison_on_files.proofs.store_apart.Goals as goal
use Rattle.comparison_on_files.proofs.store_apart.Goals.{Start}

-- A good tableau's head and rows are few
fits : (c : Start) → (c.args.chased.arity ≤ 8) × (c.args.chased.size ≤ 24)
fits c =
    let parts = good-query 24 (widths_in c.args.schema) (as_query c.args.chased) c.requires in
    (parts.arity, parts.size)

pub query_length-n-requires : goal.query_length-n-requires
query_length-n-requires c = record { arity_bound = fits (goal.at.query_length-n-requires c).Start }

pub put_query-requires : goal.put_query-requires
put_query-requires c =
    let n = c.query_length-n.ensures.0 in
    let l : c.query_length-n.result ≤ length c.args.part.now = c.if-part-n.false in
    record { arity_bound = fits (goal.at.put_query-requires c).Start; t_in_bounds = omega arith }
