use mathlib.Core.Path.{◌≡◌, sym, ap, refl, ◌∙◌}
use mathlib.Core.List.{List, [], ◌∷◌, ◌++◌, map, flat_map, flatten}
use Prim.Native.Nat.{ℕ}
use Rattle.query.specs.declared.Place.{Place}
use Rattle.query.specs.Rule.{good_place}
use Rattle.lists.specs.Over.{over}
use Rattle.format.specs.File.{put_place}
use Rattle.lists.proofs.Tests.{every-get_or}
use Rattle.query.proofs.Shape.{past_place}
use Rattle.encoder.proofs.Stores.{writing-starts, writing-room, writing-turns, writing-ends}
use Rattle.limits.specs.internal.Schema.{widths_in}
use Rattle.assembly.proofs.put_places.Goals as goal

joined : (f : Place → List ℕ) (ps : List Place) → flatten (map f ps) ≡ flat_map f ps
unfolding flatten flat_map
joined f [] = refl
joined f (p ∷ ps) = ap (λ (t : List ℕ). f p ++ t) (joined f ps)

pub loop-place-init : goal.loop-place-init
loop-place-init c =
    let schema = widths_in c.args.schema in
    let places = c.args.places.now in
    writing-starts (put_place schema) c.args.buffer.now c.args.start places (rw (← joined (put_place schema) places) c.requires.in_bounds)

pub put_place-at-requires : goal.put_place-at-requires
put_place-at-requires c =
    record {
      place_value =
          every-get_or (good_place (widths_in c.args.schema)) c.args.places.now c.loop-place.place-index past_place c.requires.places_value
          c.loop-place-test.true;
      place_in_bounds = writing-room c.loop-place.invariant past_place c.loop-place-test.true;
    }

pub loop-place-preserved : goal.loop-place-preserved
loop-place-preserved c =
    writing-turns c.loop-place.invariant past_place c.put_place-at.new.buffer c.put_place-at.result c.loop-place-test.true c.put_place-at.ensures.0
    c.put_place-at.ensures.1

pub returns : goal.returns
returns c =
    (writing-ends c.loop-place.invariant c.loop-place-test.false).0
    ∙ ap (over c.args.buffer.now c.args.start)
    (sym (joined (put_place (widths_in c.args.schema)) c.args.places.now))
