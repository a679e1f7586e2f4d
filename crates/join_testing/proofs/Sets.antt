-- The sets of a stored join dependency, by their positions. Assumes nothing.
use mathlib.Core.Path.{◌≡◌, refl, sym, ◌∙◌, ap}
use mathlib.Core.List.Memᴰ
use mathlib.Core.List.{List, [], ◌∷◌}
use Prim.Native.Nat.{ℕ, zero, suc, ◌+◌, ◌-◌, ◌≤◌, ◌<◌}
use native.Mathlib.Omega.{arith}
use lib.ListN.{length, take, get_or, length-map, length-drop, get_or-map, drop_of_length-le}
use lib.Seq.{length-take-le, drop-cons, get_or-take, get_or-drop}
use Rattle.lists.proofs.Positions.{get_or-in, in-get_or}
use Rattle.theory.specs.Query.{◌∈◌}
use Rattle.query.specs.View.{columns_of, join_of}
use Rattle.query.specs.declared.JoinDependency.{JoinDependency}
use Rattle.join_testing.specs.internal.Search.{sets_from}

module _ (j : JoinDependency) (shaped : length j.sets ≡ 4) (few : j.count ≤ 4) where
  pub sets-size : length (join_of j).sets ≡ j.count
  sets-size = length-map (take j.count j.sets) columns_of ∙ length-take-le j.count j.sets (omega arith)

  pub set_is : (k : ℕ) → k < j.count → get_or (join_of j).sets k [] ≡ columns_of (get_or j.sets k 0)
  set_is k h =
      sym (get_or-any-default (join_of j).sets k (columns_of 0) (omega (arith, sets-size)))
      ∙ get_or-map columns_of (take j.count j.sets) k 0 ∙ ap columns_of (get_or-take j.count j.sets k 0 h)
    where
      get_or-any-default : (l : List (List ℕ)) (n : ℕ) (z : List ℕ) → n < length l → get_or l n z ≡ get_or l n []
      get_or-any-default [] n z low = absurd (omega arith)
      get_or-any-default (y ∷ l) zero z low = refl
      get_or-any-default (y ∷ l) (suc n) z low = get_or-any-default l n z (omega arith)

  pub sets-cons : (k : ℕ) → k < j.count → sets_from j k ≡ columns_of (get_or j.sets k 0) ∷ sets_from j (suc k)
  sets-cons k h = drop-cons (join_of j).sets k [] (omega (arith, sets-size)) ∙ ap (λ (s : List ℕ). s ∷ sets_from j (suc k)) (set_is k h)

  pub sets_end : sets_from j j.count ≡ []
  sets_end = drop_of_length-le (join_of j).sets {i = j.count} (omega (arith, sets-size))

  -- A set from position k on is one of the sets from there
  pub sets-in : (k l : ℕ) → k ≤ l → l < j.count → columns_of (get_or j.sets l 0) ∈ sets_from j k
  sets-in k l low high =
      let e : k + (l - k) ≡ l = omega arith in
      Memᴰ.cast (sym (get_or-drop k (join_of j).sets (l - k) [] ∙ ap (λ (n : ℕ). get_or (join_of j).sets n []) e ∙ set_is l high))
      (get_or-in (sets_from j k) (l - k) [] (omega (arith, length-drop k (join_of j).sets, sets-size)))

  -- and each of these is one
  pub in-sets : (k : ℕ) (set : List ℕ) → set ∈ sets_from j k → (l : ℕ) × (k ≤ l) × (l < j.count) × (columns_of (get_or j.sets l 0) ≡ set)
  in-sets k set at =
      let place = in-get_or (sets_from j k) [] at in
      let low : k + place.0 < j.count = omega (arith, place.1, length-drop k (join_of j).sets, sets-size) in
      (k + place.0, omega arith, low, sym (set_is (k + place.0) low) ∙ sym (get_or-drop k (join_of j).sets place.0 []) ∙ place.2)
