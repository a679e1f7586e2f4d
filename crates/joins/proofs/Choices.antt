-- Choices of rows: which lists are tried, what a choice has in a column, which choices go together, and what the search tells.
-- Assumes nothing.
use mathlib.Core.Path.{◌≡◌, refl, sym, ◌∙◌, ap, ap₂, subst}
use mathlib.Core.Logic.{◌⊎◌, inl, inr, ⊎_elim, ◌↔◌}
use mathlib.Core.Bool.{true, false, cond, not, ◌&&◌, true≢false}
use mathlib.Core.List.Memᴰ
use mathlib.Core.List.{List, [], ◌∷◌, map}
use mathlib.Core.Option.{none, some, map-eq-none_iff, map-eq-some_iff}
use Prim.Native.Nat.{ℕ, zero, suc, ◌+◌, ◌≤◌, ◌<◌}
use native.Mathlib.Omega.{arith}
use lib.Dec.{eqb}
use lib.ListN.{length, get_or, length-map, get_or-eq_default}
use borrow.Author.Tests.{eqb-true, eq-eqb, not-true}
use Rattle.lists.specs.Numbers.{numbers_where}
use Rattle.lists.proofs.Tests.{and_left, and_right, and_both, every_made, every-member}
use Rattle.lists.proofs.Numbers.{where-from}
use Rattle.lists.proofs.Positions.{get_or-in}
use Rattle.theory.specs.Query.{Entry, constant, Row, column, member, FitsSchema, row_entries, ◌∈◌}
use Rattle.theory.specs.Database.{Agree, JoinDependency}
use Rattle.theory.specs.Chase.{first_found, agree}
use Rattle.theory.proofs.Lists.{bool_cases, mem-cases, member-mem, member-not-mem}
use Rattle.theory.proofs.Step.{agree-all, all-agree, first_passing-found, first_passing-nothing, first_found-found, first_found-nothing}
use Rattle.theory.proofs.Entries.{column-row_entries, row-row_entries}
use Rattle.minimization.specs.Checking.{stands_in}
use Rattle.minimization.proofs.Checking.{stands-in, in-stands}
use Rattle.joins.specs.JoinChase.{before, picks, Choice, choices, chosen_entry, yields, fits_choice, consistent, missing, first_missing, first_unmet, next_row}
use Rattle.joins.specs.JoinTheorems.{ChoiceOf}
use Rattle.joins.specs.Join.{JoinFits}

-- ---- which lists are tried

module _ {A : Type 0} where
  pub before-has : {x : A} {rest : List A} (xs : List A) (rests : List (List A)) → x ∈ xs → rest ∈ rests → (x ∷ rest) ∈ before xs rests
  unfolding before
  before-has {rest = rest} [] rests x3 there = elim x3 [ ]
  before-has {rest = rest} (y ∷ xs) rests (Memᴰ.head e) there =
      Memᴰ.append_left (before xs rests) (Memᴰ.cast (ap (λ z. z ∷ rest) e) (Memᴰ.map (λ l. y ∷ l) there))
  before-has (y ∷ xs) rests (Memᴰ.tail at) there = Memᴰ.append_right (map (λ l. y ∷ l) rests) (before-has xs rests at there)

  pub before_of : {l : List A} (xs : List A) (rests : List (List A)) → l ∈ before xs rests
      → (x : A) × (rest : List A) × (x ∈ xs) × (rest ∈ rests) × (l ≡ x ∷ rest)
  unfolding before
  before_of [] rests at = absurd (Memᴰ.not-nil at)
  before_of (y ∷ xs) rests at =
      ⊎_elim
      (λ here. let from = Memᴰ.of_map (λ l. y ∷ l) rests here in (y, from.0, Memᴰ.head refl, from.1, sym from.2))
      (λ there. let from = before_of xs rests there in (from.0, from.1, Memᴰ.tail from.2, from.3, from.4))
      (Memᴰ.append_cases (map (λ l. y ∷ l) rests) at)

-- A choice that is tried is one row for each set
pub choices-of : (sets : List (List ℕ)) (rows : List (Row Entry)) (choice : Choice) → choice ∈ choices sets rows → ChoiceOf sets rows choice
unfolding picks
choices-of [] rows choice at =
    let none : choice ≡ [] = mem-cases at (λ here. here) (λ later. absurd (Memᴰ.not-nil later)) in
    record { for-sets = ap (map (λ p. p.0)) none; of-rows = λ p there. absurd (Memᴰ.not-nil (subst (λ l. p ∈ l) none there)) }
choices-of (set ∷ sets) rows choice at =
    let from = before_of (map (λ r. (set, r)) rows) (choices sets rows) at in
    let first = Memᴰ.of_map (λ r. (set, r)) rows from.2 in
    let rest = choices-of sets rows from.1 from.3 in
    record {
      for-sets = ap (map (λ p. p.0)) from.4 ∙ ap₂ ◌∷◌ (sym (ap (λ p. p.0) first.2)) rest.for-sets;
      of-rows = λ p there. mem-cases (subst (λ l. p ∈ l) from.4 there)
          (λ here. Memᴰ.cast (ap (λ p. p.1) here ∙ sym (ap (λ p. p.1) first.2)) first.1) (rest.of-rows p);
    }

-- and all are tried
pub of-choices : (rows : List (Row Entry)) (choice : Choice) → ((p : List ℕ × Row Entry) → p ∈ choice → p.1 ∈ rows)
    → choice ∈ choices (map (λ p. p.0) choice) rows
unfolding picks
of-choices rows [] all = Memᴰ.head refl
of-choices rows (p ∷ ps) all =
    before-has (map (λ r. (p.0, r)) rows) (choices (map (λ p. p.0) ps) rows) (Memᴰ.map (λ r. (p.0, r)) (all p (Memᴰ.head refl)))
    (of-choices rows ps (λ s at. all s (Memᴰ.tail at)))

pub choice-tried : (sets : List (List ℕ)) (rows : List (Row Entry)) (choice : Choice) → ChoiceOf sets rows choice → choice ∈ choices sets rows
choice-tried sets rows choice of = subst (λ s. choice ∈ choices s rows) of.for-sets (of-choices rows choice of.of-rows)

-- A row for each set makes a choice
pub choice-for : (sets : List (List ℕ)) (rows : List (Row Entry)) (P : List ℕ → Row Entry → Type 0)
    → ((set : List ℕ) → set ∈ sets → (s : Row Entry) × (s ∈ rows) × P set s)
    → (choice : Choice) × ChoiceOf sets rows choice × ((p : List ℕ × Row Entry) → p ∈ choice → P p.0 p.1)
choice-for [] rows P pick =
    ([], record { for-sets = refl; of-rows = λ p at. absurd (Memᴰ.not-nil at) }, λ p at. absurd (Memᴰ.not-nil at))
choice-for (set ∷ sets) rows P pick =
    let first = pick set (Memᴰ.head refl) in
    let rest = choice-for sets rows P (λ s at. pick s (Memᴰ.tail at)) in (
      (set, first.0) ∷ rest.0,
      record {
        for-sets = ap (λ l. set ∷ l) rest.1.for-sets;
        of-rows = λ p at. mem-cases at (λ here. Memᴰ.cast (ap (λ p. p.1) here) first.1) (rest.1.of-rows p);
      },
      λ p at. mem-cases at (λ here. subst (λ (p : List ℕ × Row Entry). P p.0 p.1) (sym here) first.2) (rest.2 p),
    )

-- The row that is chosen for a set
pub chosen-for : {sets : List (List ℕ)} {rows : List (Row Entry)} {choice : Choice} (set : List ℕ) → ChoiceOf sets rows choice → set ∈ sets
    → (p : List ℕ × Row Entry) × (p ∈ choice) × (p.0 ≡ set)
chosen-for {choice = choice} set of at = Memᴰ.of_map (λ p. p.0) choice (subst (λ l. set ∈ l) (sym of.for-sets) at)

-- ---- what a choice has in a column

-- The entry of a row that is chosen for a set with the column, if there is one
pub chosen-entry : (choice : Choice) (c : ℕ)
    → ((p : List ℕ × Row Entry) × (p ∈ choice) × (c ∈ p.0) × (chosen_entry choice c ≡ column (constant 0) p.1 c))
    ⊎ (((p : List ℕ × Row Entry) → p ∈ choice → c ∈ p.0 → ⊥) × (chosen_entry choice c ≡ constant 0))
unfolding chosen_entry
chosen-entry [] c = inr (λ p at. absurd (Memᴰ.not-nil at), refl)
chosen-entry (p ∷ ps) c =
    bool_cases
    (member c p.0)
    (λ is. inl (p, Memᴰ.head refl, member-mem c p.0 is, ap (λ b. cond b (column (constant 0) p.1 c) (chosen_entry ps c)) is))
    (λ is.
    let same = ap (λ b. cond b (column (constant 0) p.1 c) (chosen_entry ps c)) is in
    ⊎_elim
    (λ found. inl (found.0, Memᴰ.tail found.1, found.2, same ∙ found.3))
    (λ nothing. inr (
      λ s at there. mem-cases at (λ here. member-not-mem c p.0 is (subst (λ (s : List ℕ × Row Entry). c ∈ s.0) here there))
          (λ later. nothing.0 s later there),
      same ∙ nothing.1,
    ))
    (chosen-entry ps c))

-- so where a chosen set has the column
pub chosen-entry-in : (choice : Choice) (c : ℕ) (p : List ℕ × Row Entry) → p ∈ choice → c ∈ p.0
    → (s : List ℕ × Row Entry) × (s ∈ choice) × (c ∈ s.0) × (chosen_entry choice c ≡ column (constant 0) s.1 c)
chosen-entry-in choice c p at there = ⊎_elim (λ found. found) (λ nothing. absurd (nothing.0 p at there)) (chosen-entry choice c)

-- The numbers from `start` on
pub numbers-length : (start n : ℕ) → length (numbers_where (λ c. true) start n) ≡ n
unfolding numbers_where
numbers-length start zero = refl
numbers-length start (suc n) = ap suc (numbers-length (suc start) n)

pub numbers-at : {B : Type 0} (f : ℕ → B) (start n c : ℕ) (z : B) → c < n → get_or (map f (numbers_where (λ c. true) start n)) c z ≡ f (start + c)
unfolding numbers_where
numbers-at f start zero c z less = absurd (omega arith)
numbers-at f start (suc n) zero z less = ap f (omega arith)
numbers-at f start (suc n) (suc c) z less = numbers-at f (suc start) n c z (omega arith) ∙ ap f (omega arith)

module _ (widths : List ℕ) (j : JoinDependency) (choice : Choice) where
  -- The row that a choice yields is as wide as the relation
  pub yields-length : length (yields widths j choice).values ≡ get_or widths j.relation 0
  unfolding yields
  yields-length =
      length-map (numbers_where (λ c. true) 0 (get_or widths j.relation 0)) (chosen_entry choice) ∙ numbers-length 0 (get_or widths j.relation 0)

  pub yields-relation : (yields widths j choice).relation ≡ j.relation
  unfolding yields
  yields-relation = refl

  pub yields-fits : j.relation < length widths → FitsSchema widths (yields widths j choice)
  unfolding yields
  yields-fits known = (known, yields-length)

  -- and has what the choice has in each of its columns
  pub yields-column : (c : ℕ) → c < get_or widths j.relation 0 → column (constant 0) (yields widths j choice) c ≡ chosen_entry choice c
  unfolding yields
  yields-column c less =
      numbers-at (chosen_entry choice) 0 (get_or widths j.relation 0) c (constant 0) less ∙ ap (chosen_entry choice) (omega arith)

  pub yields-beyond : (c : ℕ) → get_or widths j.relation 0 ≤ c → column (constant 0) (yields widths j choice) c ≡ constant 0
  yields-beyond c past = get_or-eq_default (yields widths j choice).values (constant 0) (omega (arith, yields-length))

  -- Its entries are those of the chosen rows, or constant 0
  pub yields-entry : (rows : List (Row Entry)) → ((p : List ℕ × Row Entry) → p ∈ choice → p.1 ∈ rows) → (e : Entry) → e ∈ (yields widths j choice).values
      → (e ≡ constant 0) ⊎ (e ∈ row_entries rows)
  unfolding yields
  yields-entry rows all e at =
      let from = Memᴰ.of_map (chosen_entry choice) (numbers_where (λ c. true) 0 (get_or widths j.relation 0)) at in
      ⊎_elim
      (λ found.
      let same : e ≡ column (constant 0) found.0.1 from.0 = sym from.2 ∙ found.3 in
      ⊎_elim (λ default. inl (same ∙ default)) (λ there. inr (Memᴰ.cast same there))
      (column-row_entries rows found.0.1 from.0 (all found.0 found.1)))
      (λ nothing. inl (sym from.2 ∙ nothing.1))
      (chosen-entry choice from.0)

-- ---- which choices go together

-- A chosen row is of the relation and agrees on its set
abbrev Fits : JoinDependency → Row Entry → (List ℕ × Row Entry) → Type 0
Fits j r p = (p.1.relation ≡ j.relation) × Agree (constant 0) p.0 p.1 r

pub fits_choice-true : (j : JoinDependency) (choice : Choice) (r : Row Entry) → fits_choice j choice r ≡ true
    → (p : List ℕ × Row Entry) → p ∈ choice → Fits j r p
unfolding fits_choice
fits_choice-true j choice r e p at =
    let both = every-member (λ (p : List ℕ × Row Entry). eqb p.1.relation j.relation && agree p.0 p.1 r) choice e at in
    let a = eqb p.1.relation j.relation in
    let b = agree p.0 p.1 r in
    (eqb-true p.1.relation j.relation (and_left a b both), agree-all p.0 p.1 r (and_right a b both))

pub true-fits_choice : (j : JoinDependency) (choice : Choice) (r : Row Entry) → ((p : List ℕ × Row Entry) → p ∈ choice → Fits j r p)
    → fits_choice j choice r ≡ true
unfolding fits_choice
true-fits_choice j choice r all =
    let d : List ℕ × Row Entry = ([], record { relation = 0; values = [] }) in
    every_made (λ (p : List ℕ × Row Entry). eqb p.1.relation j.relation && agree p.0 p.1 r) choice d
    (λ i h.
    let p = get_or choice i d in
    let fits = all p (get_or-in choice i d h) in
    and_both (eqb p.1.relation j.relation) (agree p.0 p.1 r) (eq-eqb p.1.relation j.relation fits.0)
    (all-agree p.0 p.1 r fits.1))

module _ (widths : List ℕ) (j : JoinDependency) (choice : Choice) where
  pub consistent-true : consistent widths j choice ≡ true → (p : List ℕ × Row Entry) → p ∈ choice → Fits j (yields widths j choice) p
  unfolding consistent
  consistent-true = fits_choice-true j choice (yields widths j choice)

  pub true-consistent : ((p : List ℕ × Row Entry) → p ∈ choice → Fits j (yields widths j choice) p) → consistent widths j choice ≡ true
  unfolding consistent
  true-consistent = true-fits_choice j choice (yields widths j choice)

  -- Missing: the rows go together, and what they yield is not there
  pub missing-exact : (rows : List (Row Entry))
      → (missing widths j rows choice ≡ true) ↔ ((consistent widths j choice ≡ true) × (yields widths j choice ∈ rows → ⊥))
  unfolding missing
  missing-exact rows =
      let a = consistent widths j choice in
      let b = stands_in (yields widths j choice) rows in (
        λ e. (
          and_left a (not b) e,
          λ at. true≢false (sym (in-stands (yields widths j choice) rows at) ∙ not-true b (and_right a (not b) e)),
        ),
        λ both. and_both a (not b) both.0 (ap not (bool_cases b (λ p. absurd (both.1 (stands-in (yields widths j choice) rows p))) (λ p. p))),
      )

  -- Where a choice that goes together is not missing, what it yields is there
  pub not-missing : (rows : List (Row Entry)) → missing widths j rows choice ≡ false → consistent widths j choice ≡ true → yields widths j choice ∈ rows
  not-missing rows e together =
      bool_cases (stands_in (yields widths j choice) rows) (stands-in (yields widths j choice) rows)
      (λ p. absurd (true≢false (sym ((missing-exact rows).1 (together, λ at. true≢false (sym (in-stands (yields widths j choice) rows at) ∙ p))) ∙ e)))

-- Where the rows go together and fit, and the sets have all columns, a choice has in each column an entry of the rows
module _ (widths : List ℕ) (j : JoinDependency) (choice : Choice) (rows : List (Row Entry)) (fits : JoinFits widths j)
    (fit : (r : Row Entry) → r ∈ rows → FitsSchema widths r) (of : ChoiceOf j.sets rows choice) (together : consistent widths j choice ≡ true) where
  chosen-inside : (p : List ℕ × Row Entry) (c : ℕ) → p ∈ choice → c < get_or widths j.relation 0 → column (constant 0) p.1 c ∈ row_entries rows
  chosen-inside p c at less =
      let there = of.of-rows p at in
      let long : length p.1.values ≡ get_or widths j.relation 0 =
      (fit p.1 there).1 ∙ ap (λ k. get_or widths k 0) (consistent-true widths j choice together p at).0 in
      row-row_entries rows p.1 (column (constant 0) p.1 c) there (get_or-in p.1.values c (constant 0) (omega (arith, less, long)))

  chosen-there : (c : ℕ) → c < get_or widths j.relation 0 → chosen_entry choice c ∈ row_entries rows
  chosen-there c less = go (fits.covers c less)
    where
      go : ((set : List ℕ) × set ∈ j.sets × c ∈ set) → chosen_entry choice c ∈ row_entries rows
      go (set, held, at) =
          let p = chosen-for set of held in
          let found = chosen-entry-in choice c p.0 p.1 (subst (λ (l : List ℕ). c ∈ l) (sym p.2) at) in
          Memᴰ.cast found.3 (chosen-inside found.0 c found.1 less)

  -- so what it yields has entries of the rows
  pub yields-there : (e : Entry) → e ∈ (yields widths j choice).values → e ∈ row_entries rows
  unfolding yields
  yields-there e at =
      let from = Memᴰ.of_map (chosen_entry choice) (numbers_where (λ c. true) 0 (get_or widths j.relation 0)) at in
      let inside = where-from (λ c. true) 0 (get_or widths j.relation 0) from.0 from.1 in
      Memᴰ.cast (sym from.2) (chosen-there from.0 (omega (arith, inside.1)))

-- ---- what the search tells

-- What is found of one join dependency
pub first_missing-found : (widths : List ℕ) (rows : List (Row Entry)) (j : JoinDependency) (choice : Choice) → first_missing widths rows j ≡ some choice
    → ChoiceOf j.sets rows choice × (consistent widths j choice ≡ true) × (yields widths j choice ∈ rows → ⊥)
unfolding first_missing
first_missing-found widths rows j choice e =
    let found = first_passing-found (missing widths j rows) choice (choices j.sets rows) e in
    let is = (missing-exact widths j choice rows).0 found.1 in
    (choices-of j.sets rows choice found.0, is.0, is.1)

pub first_missing-nothing : (widths : List ℕ) (rows : List (Row Entry)) (j : JoinDependency) → first_missing widths rows j ≡ none
    → (choice : Choice) → ChoiceOf j.sets rows choice → consistent widths j choice ≡ true → yields widths j choice ∈ rows
unfolding first_missing
first_missing-nothing widths rows j e choice of =
    not-missing widths j choice rows
    (first_passing-nothing (missing widths j rows) (choices j.sets rows) e choice (choice-tried j.sets rows choice of))

-- The row that is added: what a choice for one of the join dependencies yields, and not there
pub record Added (widths : List ℕ) (js : List JoinDependency) (rows : List (Row Entry)) (r : Row Entry) : Type 0 where
  pub dependency : JoinDependency
  pub choice : Choice
  pub held : dependency ∈ js
  pub tried : ChoiceOf dependency.sets rows choice
  pub together : consistent widths dependency choice ≡ true
  pub row : r ≡ yields widths dependency choice
  pub new : r ∈ rows → ⊥

pub next_row-found : (widths : List ℕ) (js : List JoinDependency) (rows : List (Row Entry)) (r : Row Entry) → next_row widths js rows ≡ some r
    → Added widths js rows r
unfolding next_row first_unmet
next_row-found widths js rows r e =
    let from = (map-eq-some_iff (λ found. yields widths found.0 found.1) (first_found (first_missing widths rows) js)).0 e in
    let which = first_found-found (first_missing widths rows) from.0 js from.1 in
    let is = first_missing-found widths rows from.0.0 from.0.1 which.1 in
    record {
      dependency = from.0.0;
      choice = from.0.1;
      held = which.0;
      tried = is.0;
      together = is.1;
      row = sym from.2;
      new = λ at. is.2 (Memᴰ.cast from.2 at);
    }

pub next_row-nothing : (widths : List ℕ) (js : List JoinDependency) (rows : List (Row Entry)) → next_row widths js rows ≡ none
    → (j : JoinDependency) → j ∈ js → first_missing widths rows j ≡ none
unfolding next_row first_unmet
next_row-nothing widths js rows e =
    first_found-nothing (first_missing widths rows) js
    ((map-eq-none_iff (λ found. yields widths found.0 found.1) (first_found (first_missing widths rows) js)).0 e)
