-- The closure on masks is the theory's closure: the same look through the dependencies, made on a mask in place of a list of columns.
--   1. the first element that passes, 2. a look, 3. all looks, 4. the determined columns.
-- ---- 1. the first element that passes
-- It is an element, and passes
use mathlib.Core.Path.{◌≡◌, refl, sym, ap, ap₂, subst, ◌∙◌}
use mathlib.Core.Bool.{Bool, true, false, cond, not, ◌&&◌}
use mathlib.Core.List.{List, [], ◌∷◌, map}
use mathlib.Core.Option.{Option, none, some}
use Prim.Native.Nat.{ℕ, zero, suc, ◌+◌, ◌-◌, ◌/◌, ◌%◌, ◌^◌, ◌≤◌, ◌<◌}
use native.Mathlib.Nat.{lt_of_lt_of_le}
use native.Mathlib.Numerals.{add-one}
use native.Mathlib.Omega.{arith}
use lib.Dec.{eqb}
use lib.Bits.{bit_and, bit_or, or_lt}
use lib.Count.{ones}
use lib.Pow.{pow-lt, pow_mono}
use lib.ListN.{length, take, drop, get_or, drop_of_length-le, length-map, get_or-map}
use lib.Seq.{drop-cons, length-take-le}
use borrow.Author.Tests.{ltb-true}
use Rattle.determination.proofs.Determined.{adds-relation}
use Rattle.theory.specs.Query.{member, ◌∈◌}
use Rattle.theory.specs.Chase.{first_passing}
use Rattle.theory.specs.Database.{Dependency}
use Rattle.theory.specs.Query.{subset}
use Rattle.determination.specs.Determined.{adds, grow_on, grow_for, closure, determined}
use Rattle.query.specs.declared.Dependency as stored
use Rattle.query.specs.View.{columns_from, columns_of, dependency_of, mask_of}
use Rattle.lists.specs.Tests.{every}
use Rattle.query.specs.Rule.{no_dependency}
use Rattle.closure.specs.internal.Closure.{add_right, next_mask, grow_mask, right_narrow}
use Rattle.lists.proofs.Tests.{every-get_or}
use Rattle.theory.proofs.Step.{first_passing-same, first_passing-found}
use Rattle.closure.proofs.Masks.{Same, same-columns, same_more, subset-mask, bit-shift, columns-in, mask-columns, columns-count}

-- The invariant of a loop that looks for it: what is found is what is found in what is left, from position i on
pub record Passing {A : Type 0} (test : A → Bool) (xs : List A) (whole : Option A) (i : ℕ) : Type 0 where
  pub rest : whole ≡ first_passing test (drop i xs)

split : {A : Type 0} (test : A → Bool) (xs : List A) (d : A) (i : ℕ) → i < length xs
    → first_passing test (drop i xs) ≡ cond (test (get_or xs i d)) (some (get_or xs i d)) (first_passing test (drop (suc i) xs))
unfolding first_passing
split test xs d i h = ap (first_passing test) (drop-cons xs i d h)

module _ {A : Type 0} {test : A → Bool} {xs : List A} {whole : Option A} {i : ℕ} where
  pub passing-finds : Passing test xs whole i → (d : A) → i < length xs → test (get_or xs i d) ≡ true → whole ≡ some (get_or xs i d)
  passing-finds inv d h e = inv.rest ∙ split test xs d i h ∙ ap (λ (t : Bool). cond t (some (get_or xs i d)) (first_passing test (drop (suc i) xs))) e

  pub passing-goes : Passing test xs whole i → (d : A) → i < length xs → test (get_or xs i d) ≡ false → Passing test xs whole (i + 1)
  passing-goes inv d h e =
      record {
        rest =
            inv.rest ∙ split test xs d i h ∙ ap (λ (t : Bool). cond t (some (get_or xs i d)) (first_passing test (drop (suc i) xs))) e
            ∙ ap (λ (k : ℕ). first_passing test (drop k xs)) (sym (add-one i));
      }

  pub passing-ends : Passing test xs whole i → length xs ≤ i → whole ≡ none
  unfolding first_passing
  passing-ends inv h = inv.rest ∙ ap (first_passing test) (drop_of_length-le xs h)

-- ---- 2. a look

subset-same : (ms known other : List ℕ) → ((c : ℕ) → member c known ≡ member c other) → subset ms known ≡ subset ms other
unfolding subset
subset-same [] known other same = refl
subset-same (m ∷ ms) known other same = ap₂ ◌&&◌ (same m) (subset-same ms known other same)

-- Two lists of the same columns let the same dependencies add
adds_same : (relation : ℕ) (known other : List ℕ) → ((c : ℕ) → member c known ≡ member c other) → (d : Dependency)
    → adds relation known d ≡ adds relation other d
unfolding adds
adds_same relation known other same d =
    ap₂ (λ (t u : Bool). eqb d.relation relation && t && not u) (subset-same d.left known other same) (same d.right)

-- Whether a stored dependency adds to a mask, as the code tests it
pub adds-mask : (d : stored.Dependency) (relation mask : ℕ) → d.left < 256 → mask < 256
    → adds relation (columns_of mask) (dependency_of d)
    ≡ eqb d.relation relation && eqb (bit_and d.left mask) d.left && not (eqb (mask / 2 ^ d.right % 2) 1)
unfolding adds
adds-mask d relation mask l m =
    let same = same-columns mask m in
    ap₂ (λ (t u : Bool). eqb d.relation relation && t && not u) (subset-mask d.left mask (columns_of mask) l same)
    (same.at d.right ∙ bit-shift mask d.right)

-- Dependencies by position
pub mapped-long : (ds : List stored.Dependency) → length (map dependency_of ds) ≡ length ds
mapped-long ds = length-map ds dependency_of

pub mapped_at : (ds : List stored.Dependency) (i : ℕ) → get_or (map dependency_of ds) i (dependency_of no_dependency) ≡ dependency_of (get_or ds i no_dependency)
mapped_at ds i = get_or-map dependency_of ds i no_dependency

pub held-length : (held : ℕ) (ds : List stored.Dependency) → held ≤ length ds → length (map dependency_of (take held ds)) ≡ held
held-length held ds h = length-map (take held ds) dependency_of ∙ length-take-le held ds h

pub right-at : (ds : List stored.Dependency) (i : ℕ) → every right_narrow ds ≡ true → i < length ds → (get_or ds i no_dependency).right < 8
right-at ds i e h = ltb-true _ 8 (every-get_or right_narrow ds i no_dependency e h)

-- ---- 3. all looks

-- One look of those that are left
pub grow-step : (n i : ℕ) (ds : List Dependency) (relation mask : ℕ) → i < n
    → grow_mask (n - i) ds relation mask ≡ grow_mask (n - (i + 1)) ds relation (next_mask ds relation mask)
unfolding grow_mask
grow-step n i ds relation mask h =
    let more : n - i ≡ suc (n - (i + 1)) = omega arith in
    ap (λ (k : ℕ). grow_mask k ds relation mask) more

-- None is left
pub grow-end : (n i : ℕ) (ds : List Dependency) (relation mask : ℕ) → n ≤ i → grow_mask (n - i) ds relation mask ≡ mask
unfolding grow_mask
grow-end n i ds relation mask h = let done : n - i ≡ 0 = omega arith in ap (λ (k : ℕ). grow_mask k ds relation mask) done

-- A mask that a look leaves alone stays
grow-rests : (n : ℕ) (ds : List Dependency) (relation mask : ℕ) → next_mask ds relation mask ≡ mask → grow_mask n ds relation mask ≡ mask
unfolding grow_mask
grow-rests zero ds relation mask e = refl
grow-rests (suc n) ds relation mask e = ap (grow_mask n ds relation) e ∙ grow-rests n ds relation mask e

module _ (ds : List Dependency) (relation w : ℕ) (narrow : (d : Dependency) → d ∈ ds → d.relation ≡ relation → d.right < w) where
  -- A look keeps a mask within the width
  pub next-lt : (mask : ℕ) → mask < 2 ^ w → next_mask ds relation mask < 2 ^ w
  unfolding next_mask add_right
  next-lt mask h = go (first_passing (adds relation (columns_of mask)) ds) refl
    where
      go : (o : Option Dependency) → first_passing (adds relation (columns_of mask)) ds ≡ o → add_right mask o < 2 ^ w
      go none e = h
      go (some d) e =
          let found = first_passing-found (adds relation (columns_of mask)) d ds e in
          or_lt w mask (2 ^ d.right) h (pow-lt (narrow d found.0 (adds-relation relation (columns_of mask) d found.1)))

  -- And so do all looks
  pub grow-lt : (n mask : ℕ) → mask < 2 ^ w → grow_mask n ds relation mask < 2 ^ w
  unfolding grow_mask
  grow-lt zero mask h = h
  grow-lt (suc n) mask h = grow-lt n (next_mask ds relation mask) (next-lt mask h)

  -- The looks on a mask are the looks on a list of the same columns
  grow-same : w ≤ 8 → (n : ℕ) (known : List ℕ) (mask : ℕ) → mask < 2 ^ w → Same known mask → Same (grow_for n ds relation known) (grow_mask n ds relation mask)
  unfolding grow_for grow_on grow_mask next_mask add_right
  grow-same wide zero known mask h same = same
  grow-same wide (suc n) known mask h same =
      let small : mask < 256 = lt_of_lt_of_le h (pow_mono wide) in
      let agree : first_passing (adds relation (columns_of mask)) ds ≡ first_passing (adds relation known) ds =
      first_passing-same (adds relation (columns_of mask)) (adds relation known)
      (adds_same relation (columns_of mask) known (λ c. (same-columns mask small).at c ∙ sym (same.at c))) ds
      in
      go (first_passing (adds relation known) ds) agree (grow-same wide n)
    where
      go : (o : Option Dependency) → first_passing (adds relation (columns_of mask)) ds ≡ o
          → ((list : List ℕ) (m : ℕ) → m < 2 ^ w → Same list m → Same (grow_for n ds relation list) (grow_mask n ds relation m))
          → Same (grow_on (grow_for n ds relation) known o) (grow_mask n ds relation (next_mask ds relation mask))
      go none e rest =
          let stays : next_mask ds relation mask ≡ mask = ap (add_right mask) e in
          subst (Same known) (sym (ap (grow_mask n ds relation) stays ∙ grow-rests n ds relation mask stays)) same
      go (some d) e rest =
          let grows : next_mask ds relation mask ≡ bit_or mask (2 ^ d.right) = ap (add_right mask) e in
          let within : bit_or mask (2 ^ d.right) < 2 ^ w = subst (λ (m : ℕ). m < 2 ^ w) grows (next-lt mask h) in
          subst (λ (m : ℕ). Same (grow_for n ds relation (d.right ∷ known)) (grow_mask n ds relation m)) (sym grows)
          (rest (d.right ∷ known) (bit_or mask (2 ^ d.right)) within (same_more known mask d.right same))

  -- ---- 4. the determined columns

  module _ (wide : w ≤ 8) (left : ℕ) (h : left < 2 ^ w) where
    pub is-columns : determined ds relation w (columns_of left) ≡ columns_from 0 w (grow_mask (length ds) ds relation left)
    unfolding determined closure
    is-columns =
        columns-in w (grow_mask (length ds) ds relation left) (grow_for (length ds) ds relation (columns_of left))
        (grow-same wide (length ds) (columns_of left) left h (same-columns left (lt_of_lt_of_le h (pow_mono wide))))

    -- Their mask is the mask after as many looks as there are dependencies
    pub determined-mask : mask_of (determined ds relation w (columns_of left)) ≡ grow_mask (length ds) ds relation left
    determined-mask = ap mask_of is-columns ∙ mask-columns w (grow_mask (length ds) ds relation left) (grow-lt (length ds) left h)

    -- And their number is that of its ones
    pub determined-count : length (determined ds relation w (columns_of left)) ≡ ones (grow_mask (length ds) ds relation left)
    determined-count = ap length is-columns ∙ columns-count w 0 (grow_mask (length ds) ds relation left) (grow-lt (length ds) left h)
