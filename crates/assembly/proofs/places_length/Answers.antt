use mathlib.Core.Path.{◌≡◌, ap, ◌∙◌}
use mathlib.Core.List.{List, map, flatten}
use Prim.Native.Nat.{ℕ, ◌+◌, ◌≤◌, ◌<◌}
use native.Mathlib.Omega.{arith}
use lib.ListN.{length, drop, get_or, length-append}
use Rattle.query.specs.declared.Place.{Place}
use Rattle.query.specs.Rule.{good_place}
use Rattle.format.specs.File.{put_place}
use Rattle.lists.proofs.Tests.{every-get_or}
use Rattle.query.proofs.Shape.{past_place}
use Rattle.limits.specs.internal.Schema.{widths_in}
use Rattle.assembly.proofs.FirstPlaces.{parts_next, parts-end}
use Rattle.assembly.proofs.places_length.Goals as goal

module _ (schema : List ℕ) (places : List Place) (k : ℕ) where
  next : k < length places
      → length (flatten (map (put_place schema) (drop k places)))
      ≡ length (put_place schema (get_or places k past_place)) + length (flatten (map (put_place schema) (drop (k + 1) places)))
  unfolding flatten
  next h =
      ap (λ (ps : List (List ℕ)). length (flatten ps)) (parts_next schema places k h)
      ∙ length-append (put_place schema (get_or places k past_place)) (flatten (map (put_place schema) (drop (k + 1) places)))

  none_left : length places ≤ k → length (flatten (map (put_place schema) (drop k places))) ≡ 0
  unfolding flatten
  none_left h = ap (λ (ps : List (List ℕ)). length (flatten ps)) (parts-end schema places k h)

pub place_length-sum-requires : goal.place_length-sum-requires
place_length-sum-requires c =
    record {
      place_value = every-get_or (good_place (widths_in c.args.schema)) c.args.places.now c.loop-place.place-index past_place c.requires.places_value
          c.loop-place-test.true;
    }

pub loop-place-preserved : goal.loop-place-preserved
loop-place-preserved c =
    let e = next (widths_in c.args.schema) c.args.places.now c.loop-place.place-index c.loop-place-test.true in
    (omega (arith, c.place_length-sum.ensures.1, c.loop-place.invariant.0), omega (arith, e, c.place_length-sum.ensures.0, c.loop-place.invariant.1))

pub returns : goal.returns
returns c =
    let e = none_left (widths_in c.args.schema) c.args.places.now c.loop-place.place-index c.loop-place-test.false in
    (omega (arith, e, c.loop-place.invariant.1), omega (arith, c.requires.few, c.loop-place.invariant.0))
