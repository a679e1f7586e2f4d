-- A mapping by positions. Two queries are given by their entries in one line: row r has those from 8 * r on, a source's head those from 96 on,
-- a target's those from `top` on (192 where the search finds it), blanks included.
-- Here: 1. what a mapping is by positions, 2. where rows and candidates are, 3. a solution of the search is a mapping, 4. a mapping is a solution.
-- Assumes nothing.
use mathlib.Core.Path.{◌≡◌, refl, sym, ◌∙◌, ap, subst, subst₂}
use mathlib.Core.Bool.{Bool, cond}
use mathlib.Core.Logic.{◌⊎◌, inl, inr, ⊎_elim}
use mathlib.Core.List.{List}
use Prim.Native.Nat.{ℕ, ◌+◌, ◌*◌, ◌/◌, ◌%◌, ◌≤◌, ◌<◌}
use native.Mathlib.Nat.{le_trans}
use native.Mathlib.Decide.{dec_lt, ℕ_discrete}
use native.Mathlib.Omega.{arith}
use borrow.Author.Tests.{eq-eqb, ne_eqb}
use lib.ListN.{get_or, length, get_or-eq_default}
use Rattle.theory.specs.Query.{Entry, constant, variable}
use Rattle.theory.specs.Answer.{value_of}
use Rattle.theory.specs.Containment.{freeze}
use Rattle.query.specs.declared.Cell.{Cell}
use Rattle.query.specs.View.{entry_of, images_of}
use Rattle.query.specs.Rule.{no_cell}
use Rattle.query.proofs.Stored.{Within}
use Rattle.query.proofs.Codes.{code_same, code_fixed}
use Rattle.consistency.specs.internal.Solution.{Solution}
use Rattle.candidates.specs.internal.Candidates.{row_start, image_start, candidates_of, Repeats, Together, Possible, IsDomain, IsTable}
use Rattle.mapping.specs.internal.Lines.{entry_in, Assigned}
use Rattle.lists.proofs.Positions.{below-some}
use Rattle.candidates.proofs.Masks.{has-below}
use Rattle.candidates.proofs.Candidates.{few-candidates, head-start, row-start, head-image, row-image, row-cases, place_of}
use Rattle.candidates.proofs.Repeats.{first-like}

-- ---- 1. a mapping by positions

-- f carries each row of a source to a row of a target of the same relation and its head to the target's head, at `top`. The source has a row
pub record Wide (top : ℕ) (source target : ℕ → Entry) (named offered : List ℕ) (size count : ℕ) (f : ℕ → Entry) : Type 0 where
  pub some-row : 0 < size
  pub rows : (r : ℕ) → r < size
      → (d : ℕ) × (d < count) × (get_or named r 0 ≡ get_or offered d 0) × ((i : ℕ) → i < 8 → value_of constant f (source (8 * r + i)) ≡ target (8 * d + i))
  pub head : (i : ℕ) → i < 8 → value_of constant f (source (96 + i)) ≡ target (top + i)
  pub elsewhere : (v : ℕ) → ((k : ℕ) → k < 104 → source k ≡ variable v → ⊥) → f v ≡ constant 0

-- ---- 2. where rows and candidates are

image-inside : (size r d i : ℕ) → r ≤ size → d < 24 → i < 8 → image_start size r d + i < 200
image-inside size r d i h small k =
    ⊎_elim (λ l. let e : image_start size r d ≡ 8 * d = row-image size r d l in omega arith)
    (λ same. let e : image_start size r d ≡ 192 = ap (λ (x : ℕ). image_start size x d) same ∙ head-image size d in omega arith) (row-cases size r h)

module _ (source target : ℕ → Entry) (from to named offered : List ℕ) (size count : ℕ) (few : size ≤ 12) (few' : count ≤ 24)
    (from_is : (k : ℕ) → k < 104 → get_or from k 0 ≡ freeze 2147483648 (source k)) (to_is : (k : ℕ) → k < 200 → get_or to k 0 ≡ freeze 2147483648 (target k))
    (from-within : (k : ℕ) → k < 104 → Within (source k)) (to-within : (k : ℕ) → k < 200 → Within (target k))
    (domain table : List ℕ) (is-domain : IsDomain from to named offered size count domain) (is-table : IsTable from to size count table) where
  -- Equal codes of the source, or of the target, are equal entries
  from-same : (j k : ℕ) → j < 104 → k < 104 → get_or from j 0 ≡ get_or from k 0 → source j ≡ source k
  from-same j k hj hk e = code_same (source j) (source k) (from-within j hj) (from-within k hk) (sym (from_is j hj) ∙ e ∙ from_is k hk)

  to_same : (j k : ℕ) → j < 200 → k < 200 → get_or to j 0 ≡ get_or to k 0 → target j ≡ target k
  to_same j k hj hk e = code_same (target j) (target k) (to-within j hj) (to-within k hk) (sym (to_is j hj) ∙ e ∙ to_is k hk)

  -- A choice of candidates that f lands on
  pub record LandsOn (f : ℕ → Entry) (choice : ℕ → ℕ) : Type 0 where
    pub is-candidate : (r : ℕ) → r ≤ size → choice r < candidates_of size count r
    pub same_relation : (r : ℕ) → r < size → get_or named r 0 ≡ get_or offered (choice r) 0
    pub first : (r : ℕ) → r < size → Repeats to offered (choice r) → ⊥
    pub carried : (r i : ℕ) → r ≤ size → i < 8 → value_of constant f (source (row_start size r + i)) ≡ target (image_start size r (choice r) + i)

  few-choices : (choice : ℕ → ℕ) → ((r : ℕ) → r ≤ size → choice r < candidates_of size count r) → (r : ℕ) → r ≤ size → choice r < 24
  few-choices choice is r h = le_trans (is r h) (few-candidates size count r few')

  -- ---- 3. a choice that f lands on is a solution

  module _ (f : ℕ → Entry) (choice : ℕ → ℕ) (lands : LandsOn f choice) where
    at_row : (r i : ℕ) → r ≤ size → i < 8 → row_start size r + i < 104
    at_row r i h k = (place_of size r i few h k).inside

    at-image : (r i : ℕ) → r ≤ size → i < 8 → image_start size r (choice r) + i < 200
    at-image r i h k = image-inside size r (choice r) i h (few-choices choice lands.is-candidate r h) k

    lands-together : (r q : ℕ) → r ≤ size → q ≤ size → Together from to size r (choice r) q (choice q)
    lands-together r q hr hq i hi large j hj same =
        to_is (image_start size q (choice q) + j) (at-image q j hq hj)
        ∙ ap (freeze 2147483648)
        (sym (lands.carried q j hq hj)
        ∙ ap (value_of constant f) (from-same (row_start size q + j) (row_start size r + i) (at_row q j hq hj) (at_row r i hr hi) same)
        ∙ lands.carried r i hr hi)
        ∙ sym (to_is (image_start size r (choice r) + i) (at-image r i hr hi))

    lands-possible : (r : ℕ) → r ≤ size → Possible from to named offered size r (choice r)
    lands-possible r h =
        record {
          relation = λ l. lands.same_relation r l;
          first = λ l. lands.first r l;
          fixes = λ i k small.
              let here : get_or from (row_start size r + i) 0 ≡ freeze 2147483648 (source (row_start size r + i)) =
              from_is (row_start size r + i) (at_row r i h k) in
              to_is (image_start size r (choice r) + i) (at-image r i h k)
              ∙ ap (freeze 2147483648)
              (sym (lands.carried r i h k)
              ∙ code_fixed f (source (row_start size r + i)) (subst (λ (n : ℕ). n < 2147483648) here small))
              ∙ sym here;
          agrees = lands-together r r h h;
        }

    pub lands-solution : Solution (size + 1) domain table choice
    lands-solution =
        record {
          below = λ r h. few-choices choice lands.is-candidate r (omega arith);
          held = λ r h. ((is-domain r (omega arith)).1 (choice r) (lands.is-candidate r (omega arith))).1 (lands-possible r (omega arith));
          joined = λ r q h k.
              (is-table r (choice r) q (omega arith) (omega arith) (lands.is-candidate r (omega arith)) (choice q) (lands.is-candidate q (omega arith))).1
              (λ other. lands-together r q (omega arith) (omega arith));
        }

  -- Images of rows, each with a property, and the head's are a solution: of the rows that are the same as an image, the first is taken
  pub picked-solution : (P Q : ℕ → Type 0) → ((d : ℕ) → d < count → Q d → P (first-like to offered d).at) → (f : ℕ → Entry)
      → ((i : ℕ) → i < 8 → value_of constant f (source (96 + i)) ≡ target (192 + i))
      → ((r : ℕ) → r < size → (d : ℕ) × (d < count) × (get_or named r 0 ≡ get_or offered d 0)
      × ((i : ℕ) → i < 8 → value_of constant f (source (8 * r + i)) ≡ target (8 * d + i)) × Q d)
      → (choice : ℕ → ℕ) × Solution (size + 1) domain table choice × ((r : ℕ) → r < size → P (choice r))
  picked-solution P Q first f head rows = (choice, lands-solution f choice lands, λ r h. (picked r h).4)
    where
      body : (r d : ℕ) → Type 0
      body r d =
          (d < count) × (get_or named r 0 ≡ get_or offered d 0) × ((i : ℕ) → i < 8 → value_of constant f (source (8 * r + i)) ≡ target (8 * d + i))
          × (Repeats to offered d → ⊥) × P d

      image : (r : ℕ) → r < size → (d : ℕ) × body r d
      image r h =
          let w = rows r h in
          let x = first-like to offered w.0 in
          let within : x.at ≤ w.0 = x.within in
          let below : w.0 < count = w.1 in (
            x.at,
            (
              omega arith,
              w.2 ∙ sym x.relation,
              (λ i k. w.3 i k ∙ sym (to_same (8 * x.at + i) (8 * w.0 + i) (omega arith) (omega arith) (x.same i k))),
              x.fresh,
              first w.0 w.1 w.4,
            ),
          )

      pick : (r : ℕ) → Dec (r < size) → ℕ
      pick r (yes h) = (image r h).0
      pick r (no h) = 0

      choice : ℕ → ℕ
      choice r = pick r (dec_lt r size)

      picked : (r : ℕ) → r < size → body r (choice r)
      picked r h = go (dec_lt r size)
        where
          go : (t : Dec (r < size)) → body r (pick r t)
          go (yes l) = (image r l).1
          go (no l) = absurd (l h)

      last : choice size ≡ 0
      last = go (dec_lt size size)
        where
          go : (t : Dec (size < size)) → pick size t ≡ 0
          go (yes l) = absurd (omega arith)
          go (no l) = refl

      lands : LandsOn f choice
      lands =
          record {
            is-candidate = λ r h.
                ⊎_elim
                (λ l. subst (λ (t : Bool). choice r < cond t 1 count) (sym (ne_eqb r size (λ e. let z : r ≡ size = e in omega arith))) (picked r l).0)
                (λ same.
                subst (λ (t : Bool). choice r < cond t 1 count) (sym (eq-eqb r size same))
                (let z : choice r ≡ 0 = ap choice same ∙ last in omega arith))
                (row-cases size r h);
            same_relation = λ r h. (picked r h).1;
            first = λ r h. (picked r h).3;
            carried = λ r i h k.
                ⊎_elim
                (λ l.
                ap (λ (s : ℕ). value_of constant f (source (s + i))) (row-start size r l) ∙ (picked r l).2 i k
                ∙ ap (λ (s : ℕ). target (s + i)) (sym (row-image size r (choice r) l)))
                (λ same.
                ap (λ (s : ℕ). value_of constant f (source (s + i))) (ap (row_start size) same ∙ head-start size) ∙ head i k
                ∙ ap (λ (s : ℕ). target (s + i)) (sym (ap (λ (x : ℕ). image_start size x (choice r)) same ∙ head-image size (choice r))))
                (row-cases size r h);
          }

  -- So is a mapping
  pub wide-solution : (f : ℕ → Entry) → Wide 192 source target named offered size count f → (choice : ℕ → ℕ) × Solution (size + 1) domain table choice
  wide-solution f wide =
      let s =
      picked-solution (λ d. Unit {0}) (λ d. Unit {0}) (λ d h u. tt) f wide.head
      (λ r h. let w = wide.rows r h in (w.0, w.1, w.2, w.3, tt)) in
      (s.0, s.1)

  -- ---- 4. a solution gives an assignment that is a mapping

  module _ (choice : ℕ → ℕ) (solution : Solution (size + 1) domain table choice) where
    -- A solution's choices are possible candidates that go together
    chosen-candidate : (r : ℕ) → r ≤ size → choice r < candidates_of size count r
    chosen-candidate r h = has-below (candidates_of size count r) (get_or domain r 0) (choice r) (is-domain r h).0 (solution.held r (omega arith))

    chosen-possible : (r : ℕ) → r ≤ size → Possible from to named offered size r (choice r)
    chosen-possible r h = ((is-domain r h).1 (choice r) (chosen-candidate r h)).0 (solution.held r (omega arith))

    chosen-together : (r q : ℕ) → r ≤ size → q ≤ size → Together from to size r (choice r) q (choice q)
    chosen-together r q h k = go (ℕ_discrete r q)
      where
        go : Dec (r ≡ q) → Together from to size r (choice r) q (choice q)
        go (yes same) = subst (λ (x : ℕ). Together from to size r (choice r) x (choice x)) same (chosen-possible r h).agrees
        go (no other) =
            (is-table r (choice r) q h k (chosen-candidate r h) (choice q) (chosen-candidate q k)).0 (solution.joined r q (omega arith) (omega arith)) other

    pub chosen-small : (r : ℕ) → r ≤ size → choice r < 24
    chosen-small r h = few-choices choice chosen-candidate r h

    -- Row r goes to row `choice r`, of the same relation and no repeat
    pub chosen-row : (r : ℕ) → r < size → (choice r < count) × (get_or named r 0 ≡ get_or offered (choice r) 0)
    chosen-row r h = (
      subst (λ (t : Bool). choice r < cond t 1 count) (ne_eqb r size (λ e. let z : r ≡ size = e in omega arith)) (chosen-candidate r (omega arith)),
      (chosen-possible r (omega arith)).relation h,
    )

    pub chosen-fresh : (r : ℕ) → r < size → Repeats to offered (choice r) → ⊥
    chosen-fresh r h = (chosen-possible r (omega arith)).first h

    -- Variable v has the code at column i of row r
    abbrev StandsAt : ℕ → ℕ → ℕ → Type 0
    StandsAt v r i = get_or from (row_start size r + i) 0 ≡ 2147483648 + v

    -- f takes a variable that stands in a row to an image of it, any other to constant 0
    pub record Taken (f : ℕ → Entry) : Type 0 where
      pub within : (v : ℕ) → v < 96
          → (((r i : ℕ) → r < size + 1 → i < 8 → StandsAt v r i → ⊥) × (f v ≡ constant 0))
          ⊎ ((r : ℕ) × (i : ℕ) × (r < size + 1) × (i < 8) × StandsAt v r i × (f v ≡ target (image_start size r (choice r) + i)))
      pub past : (v : ℕ) → 96 ≤ v → f v ≡ constant 0

    module _ (f : ℕ → Entry) (taken : Taken f) where
      place : (r i : ℕ) → r ≤ size → i < 8 → row_start size r + i < 104
      place r i h k = (place_of size r i few h k).inside

      image-place : (r i : ℕ) → r ≤ size → i < 8 → image_start size r (choice r) + i < 200
      image-place r i h k = image-inside size r (choice r) i h (chosen-small r h) k

      -- Two places of one variable have images that are one entry
      one-image : (n r i r' i' : ℕ) → r ≤ size → i < 8 → r' ≤ size → i' < 8 → get_or from (row_start size r + i) 0 ≡ n → get_or from (row_start size r' + i') 0 ≡ n
          → 2147483648 ≤ n → target (image_start size r' (choice r') + i') ≡ target (image_start size r (choice r) + i)
      one-image n r i r' i' h k h' k' at at' large =
          to_same (image_start size r' (choice r') + i') (image_start size r (choice r) + i) (image-place r' i' h' k') (image-place r i h k)
          (sym (chosen-together r' r h' h i' k' (subst (λ (m : ℕ). 2147483648 ≤ m) (sym at') large) i k (at ∙ sym at')))

      -- A variable goes to its image in each row
      variable-carried : (v r i : ℕ) → r ≤ size → i < 8 → source (row_start size r + i) ≡ variable v
          → f v ≡ target (image_start size r (choice r) + i)
      variable-carried v r i h k is = go (taken.within v below)
        where
          below : v < 96
          below = subst Within is (from-within (row_start size r + i) (place r i h k))

          number : get_or from (row_start size r + i) 0 ≡ 2147483648 + v
          number = from_is (row_start size r + i) (place r i h k) ∙ ap (freeze 2147483648) is

          last : (r' : ℕ) → r' < size + 1 → r' ≤ size
          last r' l = omega arith

          go : (((r' i' : ℕ) → r' < size + 1 → i' < 8 → StandsAt v r' i' → ⊥) × (f v ≡ constant 0))
              ⊎ ((r' : ℕ) × (i' : ℕ) × (r' < size + 1) × (i' < 8) × StandsAt v r' i' × (f v ≡ target (image_start size r' (choice r') + i')))
              → f v ≡ target (image_start size r (choice r) + i)
          go (inl w) = absurd (w.0 r i (omega arith) k number)
          go (inr w) =
              w.5
              ∙ one-image (2147483648 + v) r i w.0 w.1 h k (last w.0 w.2) w.3 number w.4 (omega arith)

      -- An entry goes to the entry in its place
      entry-carried : (r i : ℕ) → r ≤ size → i < 8 → (x : Entry) → source (row_start size r + i) ≡ x
          → value_of constant f x ≡ target (image_start size r (choice r) + i)
      entry-carried r i h k (variable v) is = variable-carried v r i h k is
      entry-carried r i h k (constant n) is =
          let number : get_or from (row_start size r + i) 0 ≡ n = from_is (row_start size r + i) (place r i h k) ∙ ap (freeze 2147483648) is in
          let below : n < 2147483648 = subst Within is (from-within (row_start size r + i) (place r i h k)) in
          let kept : get_or to (image_start size r (choice r) + i) 0 ≡ n =
          (chosen-possible r h).fixes i k (omega arith) ∙ number
          in
          code_same (constant n) (target (image_start size r (choice r) + i)) below (to-within (image_start size r (choice r) + i) (image-place r i h k))
          (sym kept ∙ to_is (image_start size r (choice r) + i) (image-place r i h k))

      carried : (r i : ℕ) → r ≤ size → i < 8 → value_of constant f (source (row_start size r + i)) ≡ target (image_start size r (choice r) + i)
      carried r i h k = entry-carried r i h k (source (row_start size r + i)) refl

      unused : (v : ℕ) → ((k : ℕ) → k < 104 → source k ≡ variable v → ⊥) → f v ≡ constant 0
      unused v none = go (dec_lt v 96)
        where
          go : Dec (v < 96) → f v ≡ constant 0
          go (no past) = taken.past v (omega arith)
          go (yes below) =
              ⊎_elim
              (λ w. w.1)
              (λ w.
              let l : w.0 ≤ size = let z : w.0 < size + 1 = w.2 in omega arith in
              absurd
              (none (row_start size w.0 + w.1) (place w.0 w.1 l w.3)
              (code_same (source (row_start size w.0 + w.1)) (variable v) (from-within (row_start size w.0 + w.1) (place w.0 w.1 l w.3)) below
              (sym (from_is (row_start size w.0 + w.1) (place w.0 w.1 l w.3)) ∙ w.4))))
              (taken.within v below)

      pub row_carried : (r : ℕ) → r < size → (i : ℕ) → i < 8 → value_of constant f (source (8 * r + i)) ≡ target (8 * choice r + i)
      row_carried r h i k =
          ap (λ (s : ℕ). value_of constant f (source (s + i))) (sym (row-start size r h)) ∙ carried r i (omega arith) k
          ∙ ap (λ (s : ℕ). target (s + i)) (row-image size r (choice r) h)

      pub taken-wide : 0 < size → Wide 192 source target named offered size count f
      taken-wide some =
          record {
            some-row = some;
            rows = λ r h. (choice r, (chosen-row r h).0, (chosen-row r h).1, row_carried r h);
            head = λ i k.
                ap (λ (s : ℕ). value_of constant f (source (s + i))) (sym (head-start size)) ∙ carried size i (omega arith) k
                ∙ ap (λ (s : ℕ). target (s + i)) (head-image size (choice size));
            elsewhere = unused;
          }

    -- Images that are collected are such an assignment
    pub solution-wide : (cells images : List Cell) → ((k : ℕ) → k < 200 → entry_in cells k ≡ target k) → length images ≡ 96
        → Assigned from cells size choice (size + 1) images → 0 < size → Wide 192 source target named offered size count (images_of images)
    solution-wide cells images cells_are long assigned =
        taken-wide (images_of images)
        (record {
          within = λ v h.
              ⊎_elim
              (λ w. inl (w.0, ap (λ (c : Cell). entry_of c.entry) w.1))
              (λ w.
              let l : w.0 ≤ size = let z : w.0 < size + 1 = w.2 in omega arith in
              inr (
                w.0,
                w.1,
                w.2,
                w.3,
                w.4,
                ap (λ (c : Cell). entry_of c.entry) w.5
                    ∙ cells_are (image_start size w.0 (choice w.0) + w.1)
                    (image-inside size w.0 (choice w.0) w.1 l (chosen-small w.0 l) w.3),
              ))
              (assigned v h);
          past = λ v h. ap (λ (c : Cell). entry_of c.entry) (get_or-eq_default images no_cell {n = v} (let z : 96 ≤ v = h in omega arith));
        })

    -- and there is one
    pub taken-some : (f : ℕ → Entry) × Taken f
    taken-some = (assign, record { within = λ v h. within v h (dec_lt v 96) (place_of v); past = λ v h. past v h (dec_lt v 96) (place_of v) })
      where
        Place : ℕ → ℕ → Type 0
        Place v k = StandsAt v (k / 8) (k % 8)

        place_of : (v : ℕ) → Dec ((k : ℕ) × (k < 8 * (size + 1)) × Place v k)
        place_of v = below-some (Place v) (λ k. ℕ_discrete (get_or from (row_start size (k / 8) + k % 8) 0) (2147483648 + v)) (8 * (size + 1))

        pick : (v : ℕ) → Dec (v < 96) → Dec ((k : ℕ) × (k < 8 * (size + 1)) × Place v k) → Entry
        pick v (yes h) (yes w) = target (image_start size (w.0 / 8) (choice (w.0 / 8)) + w.0 % 8)
        pick v (yes h) (no out) = constant 0
        pick v (no h) t = constant 0

        assign : ℕ → Entry
        assign v = pick v (dec_lt v 96) (place_of v)

        within : (v : ℕ) → v < 96 → (t : Dec (v < 96)) (p : Dec ((k : ℕ) × (k < 8 * (size + 1)) × Place v k))
            → (((r i : ℕ) → r < size + 1 → i < 8 → StandsAt v r i → ⊥) × (pick v t p ≡ constant 0))
            ⊎ ((r : ℕ) × (i : ℕ) × (r < size + 1) × (i < 8) × StandsAt v r i × (pick v t p ≡ target (image_start size r (choice r) + i)))
        within v h (yes l) (yes w) = let k : w.0 < 8 * (size + 1) = w.1 in inr (w.0 / 8, w.0 % 8, omega arith, omega arith, w.2, refl)
        within v h (yes l) (no out) =
            inl (
              (λ r i hr hi at.
                  let row : r ≡ (8 * r + i) / 8 = omega arith in
                  let column : i ≡ (8 * r + i) % 8 = omega arith in
                  out (8 * r + i, omega arith, subst₂ (λ (x y : ℕ). StandsAt v x y) row column at)),
              refl,
            )
        within v h (no l) p = absurd (l h)

        past : (v : ℕ) → 96 ≤ v → (t : Dec (v < 96)) (p : Dec ((k : ℕ) × (k < 8 * (size + 1)) × Place v k)) → pick v t p ≡ constant 0
        past v h (yes l) p = absurd (omega arith)
        past v h (no l) p = refl
