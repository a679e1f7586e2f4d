use borrow.Author.Rules.{rules}
use Prim.Native.Nat.{◌≤◌}
use native.Mathlib.Omega.{arith}
use Rattle.query.specs.View.{as_query}
use Rattle.query.proofs.Shape.{SizedFor}
use Rattle.format.proofs.Parts.{head_fits}
use Rattle.format.proofs.Rules.{good-narrow}
use Rattle.lists.proofs.Loops.{mapped-length}
use Rattle.limits.specs.internal.Schema.{widths_in}
use Rattle.encoder.proofs.PlaceParts.{query-exact}
use lib.ListN.{length-take}
use Rattle.encoder.proofs.query_length.Goals as goal
use Rattle.encoder.proofs.query_length.Goals.{After-head_in_use-used, Start}

sized : (c : goal.Start) → SizedFor 24 (as_query c.args.t)
sized c = record { head = search (mapped-length, rules); relations = search (mapped-length, rules); cells = search (mapped-length, rules) }

used : (c : goal.After-head_in_use-used) → c.head_in_use-used.result ≤ 8
used c =
    rw c.head_in_use-used.ensures (head_fits c.args.t.size c.args.t.arity c.requires.arity_bound.0)

pub returns : goal.returns
returns c =
    let schema = widths_in c.args.schema in
    let head = c.head_in_use-used in (
      query-exact schema (good-narrow c.args.schema.relations c.args.schema.widths c.args.schema.good) 24 (as_query c.args.t) head.result
          c.rows_length-rows.result (sized (goal.at.returns c).Start) head.ensures (used (goal.at.returns c).After-head_in_use-used) c.rows_length-rows.ensures.0,
      omega (arith, used (goal.at.returns c).After-head_in_use-used, c.rows_length-rows.ensures.1, length-take c.args.t.size c.args.t.relations),
    )
