-- The parts of some places, one more at a time.
use mathlib.Core.Path.{◌≡◌, ap, ◌∙◌}
use mathlib.Core.List.{List, [], ◌∷◌, map}
use Prim.Native.Nat.{ℕ, ◌+◌, ◌≤◌, ◌<◌}
use lib.ListN.{length, drop, get_or, drop_of_length-le}
use lib.Seq.{drop-cons}
use native.Mathlib.Numerals.{add-one}
use Rattle.query.specs.declared.Place.{Place}
use Rattle.format.specs.File.{put_place}
use Rattle.query.proofs.Shape.{past_place}

module _ (schema : List ℕ) (places : List Place) (k : ℕ) where
  pub parts_next : k < length places
      → map (put_place schema) (drop k places) ≡ put_place schema (get_or places k past_place) ∷ map (put_place schema) (drop (k + 1) places)
  parts_next h = ap (map (put_place schema)) (drop-cons places k past_place h) ∙ rw add-one

  pub parts-end : length places ≤ k → map (put_place schema) (drop k places) ≡ []
  parts-end h = ap (map (put_place schema)) (drop_of_length-le places {i = k} h)
