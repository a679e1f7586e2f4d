-- Choices of rows by their positions. 1. The rows at some positions are a choice of rows, and every choice is one by positions. 2. Such a choice is missing
-- exactly where its rows break the join dependency. 3. What is found among all positions is the first, and there is only one first.
-- Assumes nothing.
use mathlib.Core.Path.{◌≡◌, refl, sym, ◌∙◌, ap, ap₂, subst}
use mathlib.Core.Logic.{inl, inr, ⊎_elim}
use mathlib.Core.Bool.{Bool, true, false, true≢false}
use mathlib.Core.List.Memᴰ
use mathlib.Core.List.{List, [], ◌∷◌, ◌++◌, map}
use mathlib.Core.Option.{none, some}
use Prim.Native.Nat.{ℕ, zero, suc, ◌≤◌, ◌<◌}
use native.Mathlib.Decide.{dec_lt}
use native.Mathlib.Omega.{arith}
use lib.ListN.{length, drop, get_or, length-map, get_or-map}
use Rattle.lists.specs.Numbers.{numbers_where}
use Rattle.lists.proofs.Numbers.{where-from, where-of}
use Rattle.lists.proofs.Positions.{get_or-in, in-get_or}
use Rattle.lists.proofs.Tests.{below-or-past}
use Rattle.theory.specs.Query.{Entry, constant, Row, column, map_row, ◌∈◌}
use Rattle.theory.specs.Database.{Database, JoinDependency, Agree, Sound}
use Rattle.theory.specs.Answer.{value_of, itself}
use Rattle.theory.proofs.Lists.{option_cases, mem-cases}
use Rattle.theory.proofs.Step.{first_passing-found, first_passing-nothing}
use Rattle.joins.specs.Join.{ObeysJoin, JoinFits}
use Rattle.joins.specs.JoinChase.{picks, Choice, yields, missing, first_missing}
use Rattle.joins.specs.JoinTheorems.{ChoiceOf, FirstPick}
use Rattle.joins.proofs.Choices.{before-has, before_of, consistent-true, missing-exact, yields-relation, yields-fits}
use Rattle.joins.proofs.Choices.{first_missing-found, first_missing-nothing}
use Rattle.joins.proofs.Obeying.{read_row, read-column, reads-consistent, reads-row, constants-apart, constants-read, rows_fit, yields-back}
use Rattle.joins.proofs.Obeying.{obeys-join-exact}
use Rattle.joins.proofs.Order.{first_pick-first}
use Rattle.words.specs.Broken.{nth_row}
use Rattle.join_testing.specs.Unmet.{chosen_at, missing_at, positions_for, first_choice}
use Rattle.join_testing.specs.Meaning.{GoWith, BreaksJoin, Earlier, FirstChoice}

-- ---- 1. choices by positions

-- Some positions below n, one for each set
abbrev pub Inside : List (List ℕ) → ℕ → List ℕ → Type 0
Inside [] n [] = Unit {0}
Inside [] n (p ∷ ps) = ⊥
Inside (set ∷ sets) n [] = ⊥
Inside (set ∷ sets) n (p ∷ ps) = (p < n) × Inside sets n ps

-- A database as rows of constants
abbrev pub constants : Database → List (Row Entry)
constants D = map (map_row constant) D

-- The rows at positions inside are a choice
pub chosen_of : (D : Database) (sets : List (List ℕ)) (ps : List ℕ) → Inside sets (length D) ps → ChoiceOf sets (constants D) (chosen_at sets D ps)
unfolding chosen_at
chosen_of D [] (p ∷ ps) in-range = elim in-range [ ]
chosen_of D (set ∷ sets) [] in-range = elim in-range [ ]
chosen_of D [] [] in-range = record { for-sets = refl; of-rows = λ p at. absurd (Memᴰ.not-nil at) }
chosen_of D (set ∷ sets) (p ∷ ps) in-range =
    let rest = chosen_of D sets ps in-range.1 in
    record {
      for-sets = ap (λ l. set ∷ l) rest.for-sets;
      of-rows =
          λ x at. mem-cases at
          (λ here. Memᴰ.cast (ap (λ (y : List ℕ × Row Entry). y.1) here) (Memᴰ.map (map_row constant)
          (get_or-in D p (record { relation = 0; values = [] }) in-range.0)))
          (rest.of-rows x);
    }

-- Every choice is one by positions
pub choice-at : (D : Database) (sets : List (List ℕ)) (choice : Choice) → ChoiceOf sets (constants D) choice
    → (ps : List ℕ) × Inside sets (length D) ps × (chosen_at sets D ps ≡ choice)
unfolding chosen_at
choice-at D [] [] of = ([], tt, refl)
choice-at D [] (x ∷ choice) of = absurd (let e : length (map (λ (p : List ℕ × Row Entry). p.0) (x ∷ choice)) ≡ 0 = ap length of.for-sets in omega arith)
choice-at D (set ∷ sets) [] of = absurd (let e : 0 ≡ length (set ∷ sets) = ap length of.for-sets in omega arith)
choice-at D (set ∷ sets) (x ∷ choice) of =
    let z : Row ℕ = record { relation = 0; values = [] } in
    let from = Memᴰ.of_map (map_row constant) D (of.of-rows x (Memᴰ.head refl)) in
    let place = in-get_or D z from.1 in
    let first : x.0 ≡ set = ap (λ (l : List (List ℕ)). get_or l 0 set) of.for-sets in
    let later : map (λ (p : List ℕ × Row Entry). p.0) choice ≡ sets = ap (λ (l : List (List ℕ)). drop 1 l) of.for-sets in
    let rest = choice-at D sets choice (record { for-sets = later; of-rows = λ p at. of.of-rows p (Memᴰ.tail at) }) in
    let row : map_row constant (nth_row D place.0) ≡ x.1 = ap (map_row constant) place.2 ∙ from.2 in
    (place.0 ∷ rest.0, (place.1, rest.1), λ i. (sym first i, row i) ∷ rest.2 i)

-- ---- 2. missing choices

-- Positions whose rows go with a row are inside
pub goes-inside : (D : Database) (r : Row ℕ) (sets : List (List ℕ)) (ps : List ℕ) → GoWith sets D r ps → Inside sets (length D) ps
goes-inside D r [] (p ∷ ps) g = elim g [ ]
goes-inside D r (set ∷ sets) [] g = elim g [ ]
goes-inside D r [] [] g = tt
goes-inside D r (set ∷ sets) (p ∷ ps) g = (g.0, goes-inside D r sets ps g.3)

-- A column of a row of constants
constant-at : (r : Row ℕ) (c : ℕ) → column (constant 0) (map_row constant r) c ≡ constant (column 0 r c)
constant-at r c = get_or-map constant r.values c 0

-- Rows that agree with a row of entries go with its numbers
goes : (D : Database) (y : Row Entry) (n : Row ℕ) → ((c : ℕ) → column 0 n c ≡ value_of itself itself (column (constant 0) y c))
    → (sets : List (List ℕ)) (ps : List ℕ) → Inside sets (length D) ps
    → ((p : List ℕ × Row Entry) → p ∈ chosen_at sets D ps → (p.1.relation ≡ n.relation) × Agree (constant 0) p.0 p.1 y) → GoWith sets D n ps
unfolding chosen_at
goes D y n reads [] (p ∷ ps) in-range fits = elim in-range [ ]
goes D y n reads (set ∷ sets) [] in-range fits = elim in-range [ ]
goes D y n reads [] [] in-range fits = tt
goes D y n reads (set ∷ sets) (p ∷ ps) in-range fits =
    let here = fits (set, map_row constant (nth_row D p)) (Memᴰ.head refl) in (
      in-range.0,
      here.0,
      λ c at. ap (value_of itself itself) (sym (constant-at (nth_row D p) c) ∙ here.1 c at) ∙ sym (reads c),
      goes D y n reads sets ps in-range.1 (λ q at. fits q (Memᴰ.tail at)),
    )

-- Rows that go with a row are read as it is
goes-read : (D : Database) (r : Row ℕ) (sets : List (List ℕ)) (ps : List ℕ) → GoWith sets D r ps → (p : List ℕ × Row Entry) → p ∈ chosen_at sets D ps
    → (p.1.relation ≡ r.relation) × ((c : ℕ) → c ∈ p.0 → value_of itself itself (column (constant 0) p.1 c) ≡ column 0 r c)
unfolding chosen_at
goes-read D r [] (q ∷ ps) g p at = elim g [ ]
goes-read D r (set ∷ sets) [] g p at = elim g [ ]
goes-read D r [] [] g p at = absurd (Memᴰ.not-nil at)
goes-read D r (set ∷ sets) (q ∷ ps) g p at =
    mem-cases at
    (λ here.
    subst (λ (x : List ℕ × Row Entry). (x.1.relation ≡ r.relation) × ((c : ℕ) → c ∈ x.0 → value_of itself itself (column (constant 0) x.1 c) ≡ column 0 r c))
    (sym here) (g.1, λ c there. ap (value_of itself itself) (constant-at (nth_row D q) c) ∙ g.2 c there))
    (goes-read D r sets ps g.3 p)

-- ---- what is tried

-- Positions inside are among those that are tried
in-picks : (sets : List (List ℕ)) (n : ℕ) (ps : List ℕ) → Inside sets n ps → ps ∈ picks (positions_for sets n)
unfolding picks
in-picks [] n (p ∷ ps) h = elim h [ ]
in-picks (set ∷ sets) n [] h = elim h [ ]
in-picks [] n [] h = Memᴰ.head refl
in-picks (set ∷ sets) n (p ∷ ps) h =
    before-has (numbers_where (λ p. true) 0 n) (picks (positions_for sets n)) (where-of (λ p. true) 0 n p (omega arith) (omega (arith, h.0)) refl)
    (in-picks sets n ps h.1)

-- and what is tried is inside
picks-in : (sets : List (List ℕ)) (n : ℕ) (ps : List ℕ) → ps ∈ picks (positions_for sets n) → Inside sets n ps
unfolding picks
picks-in [] n [] at = tt
picks-in [] n (p ∷ ps) at = mem-cases at (λ here. absurd (let e : suc (length ps) ≡ 0 = ap length here in omega arith)) (λ later. absurd (Memᴰ.not-nil later))
picks-in (set ∷ sets) n ps at =
    let from = before_of (numbers_where (λ p. true) 0 n) (picks (positions_for sets n)) at in
    let low : from.0 < n = omega (arith, (where-from (λ p. true) 0 n from.0 from.2).1) in
    subst (λ (l : List ℕ). Inside (set ∷ sets) n l) (sym from.4) (low, picks-in sets n from.1 from.3)

-- In a range the numbers before one of them are earlier in it
range-before : (start n : ℕ) (earlier later : List ℕ) (x : ℕ) → numbers_where (λ p. true) start n ≡ earlier ++ x ∷ later → (y : ℕ) → start ≤ y → y < x
    → y ∈ earlier
unfolding numbers_where
range-before start zero [] later x e y low less = absurd (let z : 0 ≡ suc (length later) = ap length e in omega arith)
range-before start zero (w ∷ earlier) later x e y low less = absurd (let z : 0 ≡ suc (length (earlier ++ x ∷ later)) = ap length e in omega arith)
range-before start (suc n) [] later x e y low less = absurd (let z : start ≡ x = ap (λ (l : List ℕ). get_or l 0 0) e in omega arith)
range-before start (suc n) (w ∷ earlier) later x e y low less =
    let first : start ≡ w = ap (λ (l : List ℕ). get_or l 0 0) e in
    let rest : numbers_where (λ p. true) (suc start) n ≡ earlier ++ x ∷ later = ap (λ (l : List ℕ). drop 1 l) e in
    go (dec_lt start y) first (range-before (suc start) n earlier later x rest y)
  where
    go : Dec (start < y) → start ≡ w → (suc start ≤ y → y < x → y ∈ earlier) → y ∈ (w ∷ earlier)
    go (yes more) first later = Memᴰ.tail (later (omega arith) less)
    go (no more) first later = Memᴰ.head (let e : y ≡ w = omega arith in e)

-- No positions before the first pass
pick-before : (test : List ℕ → Bool) (sets : List (List ℕ)) (n : ℕ) (ps : List ℕ) → FirstPick test (positions_for sets n) ps
    → (qs : List ℕ) → Inside sets n qs → Earlier qs ps → test qs ≡ false
pick-before test [] n ps first (q ∷ qs) h less = elim h [ ]
pick-before test (set ∷ sets) n [] first [] h less = elim h [ ]
pick-before test (set ∷ sets) n (p ∷ ps) first [] h less = elim h [ ]
pick-before test [] n ps first [] h less = absurd less
pick-before test (set ∷ sets) n [] first (q ∷ qs) h less = absurd less
pick-before test (set ∷ sets) n (p ∷ ps) first (q ∷ qs) h less =
    let f = first.3 in
    let x : p ≡ first.0 = ap (λ (l : List ℕ). get_or l 0 0) first.2 in
    let rest : ps ≡ first.1 = ap (λ (l : List ℕ). drop 1 l) first.2 in
    ⊎_elim
    (λ low.
    f.none-earlier q (range-before 0 n f.earlier f.later first.0 f.places q (omega arith) (omega (arith, x, low))) qs
    (in-picks sets n qs h.1))
    (λ same.
    let e : q ≡ first.0 = same.0 ∙ x in
    ap (λ (y : ℕ). test (y ∷ qs)) e
    ∙ pick-before (λ m. test (first.0 ∷ m)) sets n ps (subst (λ (l : List ℕ). FirstPick (λ m. test (first.0 ∷ m)) (positions_for sets n) l) (sym rest) first.4)
    qs h.1 same.1)
    less

-- Of two lists of positions for the same sets one comes before the other, or they are the same
pub earlier-or-same : {C : Type 0} (sets : List (List ℕ)) (n : ℕ) (ps qs : List ℕ) → Inside sets n ps → Inside sets n qs
    → (Earlier ps qs → C) → (Earlier qs ps → C) → (ps ≡ qs → C) → C
earlier-or-same {C = C} [] n [] (q ∷ qs) h k low high same = elim k [ ]
earlier-or-same {C = C} [] n (p ∷ ps) qs h k low high same = elim h [ ]
earlier-or-same {C = C} (set ∷ sets) n [] qs h k low high same = elim h [ ]
earlier-or-same {C = C} (set ∷ sets) n (p ∷ ps) [] h k low high same = elim k [ ]
earlier-or-same [] n [] [] h k low high same = same refl
earlier-or-same (set ∷ sets) n (p ∷ ps) (q ∷ qs) h k low high same =
    ⊎_elim (λ l. low (inl l))
    (λ l. ⊎_elim (λ m. high (inl m))
    (λ m.
    let e : p ≡ q = omega arith in
    earlier-or-same sets n ps qs h.1 k.1 (λ w. low (inr (e, w))) (λ w. high (inr (sym e, w))) (λ w. same (ap₂ {C = List ℕ} (λ (x : ℕ) (l : List ℕ). x ∷ l) e w)))
    (below-or-past q p)) (below-or-past p q)

module _ (schema : List ℕ) (j : JoinDependency) (fits : JoinFits schema j) (D : Database) (sound : Sound schema D) where
  -- A missing choice breaks the join dependency
  pub missing-breaks : (ps : List ℕ) → Inside j.sets (length D) ps → missing_at schema j D ps ≡ true → BreaksJoin schema j D ps
  unfolding missing_at
  missing-breaks ps in-range is =
      let choice = chosen_at j.sets D ps in
      let of = chosen_of D j.sets ps in-range in
      let exact = (missing-exact schema j choice (constants D)).0 is in
      let y = yields schema j choice in
      let n = read_row itself y in
      let wide = yields-fits schema j choice fits.known in
      let relation = yields-relation schema j choice in
      record {
        row = n;
        fits = (wide.0, length-map y.values (value_of itself itself) ∙ wide.1);
        relation = relation;
        chosen =
            goes D y n (read-column itself y) j.sets ps in-range
            (λ p at. let c = consistent-true schema j choice exact.0 p at in (c.0 ∙ sym relation, c.1));
        absent = λ at. exact.1 (Memᴰ.cast (sym (yields-back schema j fits D sound choice of)) (Memᴰ.map (map_row constant) at));
      }

  -- and rows that break it are a missing choice
  pub breaks-missing : (ps : List ℕ) → BreaksJoin schema j D ps → missing_at schema j D ps ≡ true
  unfolding missing_at
  breaks-missing ps b =
      let choice = chosen_at j.sets D ps in
      let r = b.row in
      let of = chosen_of D j.sets ps (goes-inside D r j.sets ps b.chosen) in
      let read = goes-read D r j.sets ps b.chosen in
      let all : (p : List ℕ × Row Entry) → p ∈ choice
      → (p.1.relation ≡ j.relation) × ((c : ℕ) → c ∈ p.0 → value_of itself itself (column (constant 0) p.1 c) ≡ column 0 r c) =
      λ p at. ((read p at).0 ∙ b.relation, (read p at).1) in
      let wide = rows_fit schema j fits D sound in
      let apart = constants-apart D in
      let row : read_row itself (yields schema j choice) ≡ r = reads-row schema j fits (constants D) wide itself apart r choice b.fits b.relation of all in
      (missing-exact schema j choice (constants D)).1 (
        reads-consistent schema j fits (constants D) wide itself apart r choice of all,
        λ at. b.absent (subst (λ (E : Database). r ∈ E) (constants-read D) (Memᴰ.cast (sym row) (Memᴰ.map (read_row itself) at))),
      )

  -- ---- 3. the first

  -- Where nothing is found no rows break it
  pub none-breaks : first_choice schema j D ≡ none → (ps : List ℕ) → BreaksJoin schema j D ps → ⊥
  unfolding first_choice
  none-breaks e ps b =
      true≢false (sym (breaks-missing ps b) ∙ first_passing-nothing (missing_at schema j D) (picks (positions_for j.sets (length D))) e ps
      (in-picks j.sets (length D) ps (goes-inside D b.row j.sets ps b.chosen)))

  -- What is found is the first choice
  pub found_first : (ps : List ℕ) → first_choice schema j D ≡ some ps → FirstChoice schema j D ps
  unfolding first_choice
  found_first ps e =
      let found = first_passing-found (missing_at schema j D) ps (picks (positions_for j.sets (length D))) e in
      record {
        breaks = missing-breaks ps (picks-in j.sets (length D) ps found.0) found.1;
        before =
            λ qs less b.
            true≢false (sym (breaks-missing qs b) ∙ pick-before (missing_at schema j D) j.sets (length D) ps
            (first_pick-first (missing_at schema j D) (positions_for j.sets (length D)) ps e) qs (goes-inside D b.row j.sets qs b.chosen) less);
      }

  -- There is only one first
  pub one-first : (ps qs : List ℕ) → FirstChoice schema j D ps → FirstChoice schema j D qs → ps ≡ qs
  one-first ps qs f g =
      let b = f.breaks in
      let d = g.breaks in
      earlier-or-same j.sets (length D) ps qs (goes-inside D b.row j.sets ps b.chosen) (goes-inside D d.row j.sets qs d.chosen)
      (λ less. absurd (g.before ps less b)) (λ less. absurd (f.before qs less d)) (λ same. same)

  -- so the first choice is what is found
  pub first-found : (ps : List ℕ) → FirstChoice schema j D ps → first_choice schema j D ≡ some ps
  first-found ps f =
      option_cases (first_choice schema j D) (λ qs e. e ∙ ap some (one-first qs ps (found_first qs e) f))
      (λ e. absurd (none-breaks e ps f.breaks))

  -- and where no rows break it nothing is found
  pub unbroken-none : ((ps : List ℕ) → BreaksJoin schema j D ps → ⊥) → first_choice schema j D ≡ none
  unbroken-none kept = option_cases (first_choice schema j D) (λ qs e. absurd (kept qs (found_first qs e).breaks)) (λ e. e)

  -- ---- obeying

  -- The database obeys exactly where no rows break it
  pub obeys-unbroken : ObeysJoin schema j D → (ps : List ℕ) → BreaksJoin schema j D ps → ⊥
  unfolding missing_at
  obeys-unbroken obeys ps b =
      let choice = chosen_at j.sets D ps in
      let of = chosen_of D j.sets ps (goes-inside D b.row j.sets ps b.chosen) in
      let exact = (missing-exact schema j choice (constants D)).0 (breaks-missing ps b) in
      exact.1 (first_missing-nothing schema (constants D) j ((obeys-join-exact schema j fits D sound).1 obeys) choice of exact.0)

  pub unbroken-obeys : ((ps : List ℕ) → BreaksJoin schema j D ps → ⊥) → ObeysJoin schema j D
  unfolding missing_at
  unbroken-obeys kept =
      (obeys-join-exact schema j fits D sound).0
      (option_cases (first_missing schema (constants D) j)
      (λ choice e.
      let found = first_missing-found schema (constants D) j choice e in
      let place = choice-at D j.sets choice found.0 in
      let is : missing schema j (constants D) choice ≡ true = (missing-exact schema j choice (constants D)).1 (found.1, found.2) in
      absurd (kept place.0 (missing-breaks place.0 place.1 (ap (missing schema j (constants D)) place.2 ∙ is))))
      (λ e. e))
