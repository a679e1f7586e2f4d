use borrow.Author.Rules.{rules}
use mathlib.Core.Path.{sym, ap, ◌∙◌}
use native.Mathlib.Omega.{arith}
use lib.ListN.{length}
use Rattle.query.proofs.Shape.{SizedFor}
use Rattle.lists.proofs.Loops.{mapped-length}
use Rattle.limits.specs.internal.Schema.{widths_in}
use Rattle.encoder.proofs.PlaceParts.{filled-part, vacant-part, filled-sizes}
use Rattle.encoder.proofs.place_length.Goals as goal
use Rattle.encoder.proofs.place_length.Goals.{Start}

pub query_length-requires : goal.query_length-requires
query_length-requires c =
    let fits =
    filled-sizes (widths_in c.args.schema) c.args.place c.if-place.true c.requires.place_value c.from_query.result
    c.from_query.ensures
    in
    record { arity_bound = (fits.0, omega (arith, fits.1)) }

pub returns-then-place : goal.returns-then-place
returns-then-place c =
    let sized : SizedFor 12 c.args.place.query = record { head = search (mapped-length, rules); relations = search (mapped-length, rules); cells = search (mapped-length, rules) } in
    let schema = widths_in c.args.schema in
    let fits = filled-sizes schema c.args.place c.if-place.true c.requires.place_value c.from_query.result c.from_query.ensures in (
      c.query_length.ensures.0
          ∙ sym (ap length (filled-part schema c.args.place c.if-place.true c.requires.place_value c.from_query.result
          c.from_query.ensures sized)),
      omega (arith, fits.1, c.query_length.ensures.1),
    )

pub returns-else-place : goal.returns-else-place
returns-else-place c =
    (sym (ap length (vacant-part (widths_in c.args.schema) c.args.place c.if-place.false)), omega arith)
