-- The bytes of join dependencies: their lengths, one more at a time.
use mathlib.Core.Path.{◌≡◌, ap, ◌∙◌}
use mathlib.Core.Bool.{Bool, true, ◌&&◌}
use mathlib.Core.List.{List, [], ◌∷◌, flat_map}
use Prim.Native.Nat.{ℕ, ◌+◌, ◌≤◌, ◌<◌}
use native.Mathlib.Numerals.{add-one}
use native.Mathlib.Omega.{arith}
use lib.ListN.{length, take, drop, get_or, length-append, drop_of_length-le}
use lib.Seq.{drop-cons}
use borrow.Author.Tests.{eq-eqb, ne_eqb, le-leb}
use Rattle.lists.specs.Tests.{every, in_use, is_zero}
use Rattle.lists.proofs.Tests.{and_left, and_right, every-weaken, every-join, used-good, used-blank}
use Rattle.query.specs.declared.JoinDependency.{JoinDependency}
use Rattle.query.specs.Rule.{good_join, blank_join}
use Rattle.query.proofs.Good.{good-join}
use Rattle.query.proofs.Shape.{blank-number}
use Rattle.limits.proofs.Sets.{past_join}
use Rattle.assembly.specs.internal.Pieces.{put_join, few_sets, joins_bytes}

module _ (joined : ℕ) (list : List JoinDependency) where
  -- None is held
  pub joins-none : joined ≡ 0 → joins_bytes joined list ≡ []
  joins-none e = rw (eq-eqb joined 0 e)

  -- Some are held
  pub joins-some : (joined ≡ 0 → ⊥) → joins_bytes joined list ≡ joined ∷ flat_map put_join (take joined list)
  joins-some e = rw (ne_eqb joined 0 e)

-- Those from i on: the next one and the others, or none
module _ (list : List JoinDependency) (i : ℕ) where
  pub joins-next : i < length list
      → length (flat_map put_join (drop i list)) ≡ length (put_join (get_or list i past_join)) + length (flat_map put_join (drop (i + 1) list))
  unfolding flat_map
  joins-next h =
      let apart : drop i list ≡ get_or list i past_join ∷ drop (i + 1) list = drop-cons list i past_join h ∙ rw add-one in
      ap (λ (js : List JoinDependency). length (flat_map put_join js)) apart
      ∙ length-append (put_join (get_or list i past_join)) (flat_map put_join (drop (i + 1) list))

  pub joins-end : length list ≤ i → length (flat_map put_join (drop i list)) ≡ 0
  unfolding flat_map
  joins-end h = ap (λ (js : List JoinDependency). length (flat_map put_join js)) (drop_of_length-le list {i = i} h)

-- The join dependencies of a good record have at most 4 sets each
pub few-sets : (schema : List ℕ) (joined : ℕ) (list : List JoinDependency) → in_use joined (good_join schema) blank_join list ≡ true → every few_sets list ≡ true
few-sets schema joined list good =
    every-join few_sets joined list
    (every-weaken (good_join schema) few_sets (λ j e. le-leb j.count 4 (good-join schema j e).most) (take joined list)
    (used-good joined (good_join schema) blank_join list good))
    (every-weaken blank_join few_sets (λ j e. le-leb j.count 4 (blank-few j e)) (drop joined list)
    (used-blank joined (good_join schema) blank_join list good))
  where
    blank-few : (j : JoinDependency) → blank_join j ≡ true → j.count ≤ 4
    blank-few j e =
        let a : Bool = is_zero j.relation in
        let b : Bool = is_zero j.count in
        let none : j.count ≡ 0 = blank-number j.count (and_right a b (and_left (a && b) (every is_zero j.sets) e)) in
        omega arith
