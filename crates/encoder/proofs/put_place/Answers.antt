-- The start, where the tableau is made
use borrow.Author.Rules.{rules}
use mathlib.Core.Path.{◌≡◌, refl}
use mathlib.Core.List.{[], ◌∷◌}
use native.Mathlib.Omega.{arith}
use lib.Seq.{sets-eq}
use Rattle.query.specs.View.{as_query}
use Rattle.query.proofs.Shape.{SizedFor}
use Rattle.lists.proofs.Loops.{mapped-length}
use Rattle.format.specs.Parts.{query_for}
use Rattle.format.specs.File.{put_place}
use Rattle.limits.specs.internal.Schema.{widths_in}
use Rattle.encoder.proofs.PlaceParts.{filled-part, vacant-part, filled-sizes}
use Rattle.encoder.proofs.put_place.Goals as goal
use Rattle.encoder.proofs.put_place.Goals.{After-from_query, Start}

-- The part is that of the tableau that is made
part : (c : goal.After-from_query)
    → put_place (widths_in c.args.schema) c.args.place
    ≡ (query_for 24 (widths_in c.args.schema)).put (as_query c.from_query.result)
part c =
    let sized : SizedFor 12 c.args.place.query = record { head = search (mapped-length, rules); relations = search (mapped-length, rules); cells = search (mapped-length, rules) }
    in
    filled-part (widths_in c.args.schema) c.args.place c.if-place.true c.requires.place_value
    c.from_query.result c.from_query.ensures sized

pub put_query-requires : goal.put_query-requires
put_query-requires c =
    let fits =
    filled-sizes (widths_in c.args.schema) c.args.place c.if-place.true c.requires.place_value
    c.from_query.result c.from_query.ensures
    in
    record {
      arity_bound = (fits.0, omega (arith, fits.1));
      t_in_bounds = rw (part (goal.at.put_query-requires c).After-from_query) at c.requires.place_in_bounds;
    }

pub returns-then-place : goal.returns-then-place
returns-then-place c = rw (part (goal.at.returns-then-place c).After-from_query) c.put_query.ensures

pub bounds-buffer-at : goal.bounds-buffer-at
bounds-buffer-at c =
    let e = vacant-part (widths_in c.args.schema) c.args.place c.if-place.false in
    let room = rw e at c.requires.place_in_bounds in
    omega arith

pub returns-else-place : goal.returns-else-place
returns-else-place c =
    let e = vacant-part (widths_in c.args.schema) c.args.place c.if-place.false in
    let room = rw e at c.requires.place_in_bounds in
    rw e (sets-eq (255 ∷ []) c.args.buffer.now c.args.at room, refl)
