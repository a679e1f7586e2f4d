-- The order of the search for a missing row: what is found is the first. Two shorter searches find the same: one that tries for each set only the
-- earliest row with the same entries in its columns, for the choice with the earlier row comes first and is missing exactly where the other is; and one
-- that goes no further with a beginning whose rows do not go together.
-- Assumes nothing.
use mathlib.Core.Path.{◌≡◌, refl, sym, ◌∙◌, ap, ap₂, subst, fun_ext}
use mathlib.Core.Logic.{◌↔◌, ⊎_elim}
use mathlib.Core.Bool.{Bool, true, false, cond, not, ◌&&◌, true≢false}
use mathlib.Core.List.Memᴰ
use mathlib.Core.List.{List, [], ◌∷◌, ◌++◌, map, map-map, map-append, append-nil}
use mathlib.Core.Option
use mathlib.Core.Option.{Option, none, some, or_else, map-eq-some_iff}
use Prim.Native.Nat.{ℕ, ◌<◌}
use lib.Dec.{eqb}
use lib.ListN.{get_or}
use lib.Seq.{append_snoc}
use borrow.Author.Tests.{eqb-true, not-true}
use Rattle.lists.proofs.Tests.{and_left, and_right, below-or-past}
use Rattle.lists.specs.Tests.{every}
use Rattle.lists.specs.Numbers.{numbers_where}
use Rattle.theory.specs.Query.{Entry, constant, Row, column, member, same_entry, ◌∈◌}
use Rattle.theory.specs.Database.{Agree, JoinDependency}
use Rattle.theory.specs.Chase.{first_passing, first_found, agree}
use Rattle.theory.proofs.Lists.{bool_cases, option_cases, mem-cases, member-mem, member-not-mem}
use Rattle.theory.proofs.Step.{agree-all, first_passing-same, first_passing-nil, first_passing-false, first_passing-found, first_passing-nothing}
use Rattle.theory.proofs.Order.{first_found-first}
use Rattle.minimization.specs.Checking.{stands_in}
use Rattle.joins.specs.JoinChase.{before, picks, Choice, candidates, choices, chosen_entry, yields, fits_choice, consistent}
use Rattle.joins.specs.JoinChase.{missing, first_missing, first_unmet, next_row, keep_first}
use Rattle.joins.specs.JoinTheorems.{FirstPick, FirstAdded, same_on, earliest, search_from}
use Rattle.joins.proofs.Repeats.{keep_one-cases}
use Rattle.joins.proofs.Choices.{chosen-entry-in, consistent-true, true-consistent, missing-exact, yields-column, yields-beyond}

-- ---- the search by the first element

-- The search in two lists one after the other, and in a list whose elements are changed
first_passing-append : {A : Type 0} (test : A → Bool) (xs ys : List A)
    → first_passing test (xs ++ ys) ≡ or_else (first_passing test xs) (first_passing test ys)
unfolding first_passing or_else
first_passing-append test [] ys = refl
first_passing-append test (x ∷ xs) ys = bool_cases (test x) (λ p. rw p refl) (λ p. rw p (first_passing-append test xs ys))

first_passing-map : {A B : Type 0} (test : B → Bool) (f : A → B) (xs : List A)
    → first_passing test (map f xs) ≡ Option.map f (first_passing (λ x. test (f x)) xs)
unfolding first_passing
first_passing-map test f [] = refl
first_passing-map test f (x ∷ xs) = bool_cases (test (f x)) (λ p. rw p refl) (λ p. rw p (first_passing-map test f xs))

-- The rest that is found for a first element
abbrev pub rest_for : {A : Type 0} → (List A → Bool) → List (List A) → A → Option (List A)
rest_for test rests x = first_passing (λ l. test (x ∷ l)) rests

-- Each first element in turn
pub before-first : {A : Type 0} (test : List A → Bool) (xs : List A) (rests : List (List A))
    → first_passing test (before xs rests) ≡ Option.map (λ found. found.0 ∷ found.1) (first_found (rest_for test rests) xs)
unfolding before first_found or_else
before-first test [] rests = first_passing-nil test
before-first {A} test (x ∷ xs) rests =
    first_passing-append test (map (λ l. x ∷ l) rests) (before xs rests)
    ∙ ap₂ or_else (first_passing-map test (λ l. x ∷ l) rests) (before-first test xs rests) ∙ go (rest_for test rests x)
  where
    later : Option (A × List A)
    later = first_found (rest_for test rests) xs

    go : (o : Option (List A)) → or_else (Option.map (λ l. x ∷ l) o) (Option.map (λ found. found.0 ∷ found.1) later)
        ≡ Option.map (λ found. found.0 ∷ found.1) (or_else (Option.map (λ l. (x, l)) o) later)
    go none = refl
    go (some l) = refl

-- ---- what is found is the first

pub first_pick-first : {A : Type 0} (test : List A → Bool) (xss : List (List A)) (l : List A) → first_passing test (picks xss) ≡ some l → FirstPick test xss l
unfolding picks
first_pick-first test [] l e =
    let found = first_passing-found test l ([] ∷ []) e in
    let empty : l ≡ [] = mem-cases found.0 (λ here. here) (λ later. absurd (Memᴰ.not-nil later)) in
    (empty, ap test (sym empty) ∙ found.1)
first_pick-first test (xs ∷ xss) l e =
    let from = (map-eq-some_iff (λ found. found.0 ∷ found.1) (first_found (rest_for test (picks xss)) xs)).0 (sym (before-first test xs (picks xss)) ∙ e) in
    let x = from.0.0 in
    let rest = from.0.1 in
    let first = first_found-first (rest_for test (picks xss)) xs x rest from.1 in (
      x,
      rest,
      sym from.2,
      record {
        earlier = first.before;
        later = first.after;
        places = first.places;
        none-earlier = λ y at m there. first_passing-nothing (λ m. test (y ∷ m)) (picks xss) (first.none_before y at) m there;
      },
      first_pick-first (λ m. test (x ∷ m)) xss rest first.found,
    )

-- Among images
before-map : {A B : Type 0} (f : A → B) (xs : List A) (rests : List (List A)) → before (map f xs) (map (map f) rests) ≡ map (map f) (before xs rests)
unfolding before
before-map f [] rests = refl
before-map f (x ∷ xs) rests =
    ap₂ ◌++◌ (map-map (λ l. f x ∷ l) (map f) rests ∙ sym (map-map (map f) (λ l. x ∷ l) rests)) (before-map f xs rests)
    ∙ sym (map-append (map f) (map (λ l. x ∷ l) rests) (before xs rests))

picks-map : {A B : Type 0} (f : A → B) (xss : List (List A)) → picks (map (map f) xss) ≡ map (map f) (picks xss)
unfolding picks
picks-map f [] = refl
picks-map f (xs ∷ xss) = ap (before (map f xs)) (picks-map f xss) ∙ before-map f xs (picks xss)

pub first_pick-along : {A B : Type 0} (f : A → B) (test : List B → Bool) (xss : List (List A))
    → first_passing test (picks (map (map f) xss)) ≡ Option.map (map f) (first_passing (λ l. test (map f l)) (picks xss))
first_pick-along f test xss = ap (first_passing test) (picks-map f xss) ∙ first_passing-map test (map f) (picks xss)

pub next_row-first : (widths : List ℕ) (js : List JoinDependency) (rows : List (Row Entry)) (r : Row Entry) → next_row widths js rows ≡ some r
    → FirstAdded widths js rows r
unfolding next_row first_unmet first_missing
next_row-first widths js rows r e =
    let from = (map-eq-some_iff (λ found. yields widths found.0 found.1) (first_found (first_missing widths rows) js)).0 e in
    let held = first_found-first (first_missing widths rows) js from.0.0 from.0.1 from.1 in
    record {
      dependency = from.0.0;
      choice = from.0.1;
      held = held;
      first = first_pick-first (missing widths from.0.0 rows) (candidates from.0.0.sets rows) from.0.1 held.found;
      row = sym from.2;
    }

-- ---- agreement in pairs

-- The rows go together exactly where any two of them agree on the columns that their sets share
pub consistent-pairs : (widths : List ℕ) (j : JoinDependency) (choice : Choice)
    → ((p : List ℕ × Row Entry) → p ∈ choice → (c : ℕ) → c ∈ p.0 → c < get_or widths j.relation 0)
    → (consistent widths j choice ≡ true)
    ↔ (((p : List ℕ × Row Entry) → p ∈ choice → p.1.relation ≡ j.relation)
    × ((p s : List ℕ × Row Entry) → p ∈ choice → s ∈ choice → (c : ℕ) → c ∈ p.0 → c ∈ s.0
    → column (constant 0) p.1 c ≡ column (constant 0) s.1 c))
consistent-pairs widths j choice within = (
  λ together.
      let fits = consistent-true widths j choice together in
      (λ p at. (fits p at).0, λ p s at at' c there there'. (fits p at).1 c there ∙ sym ((fits s at').1 c there')),
  λ pairs. true-consistent widths j choice (λ p at. (
    pairs.0 p at,
    λ c there.
        let found = chosen-entry-in choice c p at there in
        pairs.1 p found.0 at found.1 c there found.2 ∙ sym found.3 ∙ sym (yields-column widths j choice c (within p at c there)),
  )),
)

-- ---- the earliest rows are enough

-- An element for which nothing is found, as nothing is found for an earlier one, can be left out
first_found-without : {D A : Type 0} (find : D → Option A) (kept : List D) (x : D) (xs : List D) → find x ≡ none
    → first_found find (kept ++ x ∷ xs) ≡ first_found find (kept ++ xs)
unfolding first_found or_else
first_found-without find [] x xs is = rw is refl
first_found-without find (k ∷ kept) x xs is = ap (or_else (Option.map (λ a. (k, a)) (find k))) (first_found-without find kept x xs is)

first_found-skip : {D A : Type 0} (find : D → Option A) (kept : List D) (x y : D) (xs : List D) → y ∈ kept → (find y ≡ none → find x ≡ none)
    → first_found find (kept ++ x ∷ xs) ≡ first_found find (kept ++ xs)
unfolding first_found or_else
first_found-skip {D = D} {A = A} find [] x y xs x4 nothing = elim x4 [ ]
first_found-skip find (z ∷ kept) x y xs (Memᴰ.head e) nothing =
    option_cases (find z) (λ b is. rw is refl) (λ is. rw is (first_found-without find kept x xs (nothing (ap find e ∙ is))))
first_found-skip find (z ∷ kept) x y xs (Memᴰ.tail at) nothing =
    ap (or_else (Option.map (λ a. (z, a)) (find z))) (first_found-skip find kept x y xs at nothing)

-- So where nothing is found for an element when nothing is found for one that is the same, only the earliest are wanted
pub first_found-earliest : {D A : Type 0} (same : D → D → Bool) (find : D → Option A) → ((x y : D) → same x y ≡ true → find y ≡ none → find x ≡ none)
    → (kept rest : List D) → first_found find (kept ++ rest) ≡ first_found find (keep_first same kept rest)
unfolding keep_first
first_found-earliest same find like kept [] = ap (first_found find) (append-nil kept)
first_found-earliest same find like kept (x ∷ xs) =
    keep_one-cases same kept x
    (λ y at is e.
    first_found-skip find kept x y xs at (like x y is) ∙ first_found-earliest same find like kept xs
    ∙ ap (λ l. first_found find (keep_first same l xs)) (sym e))
    (λ new e.
    ap (first_found find) (sym (append_snoc kept x xs)) ∙ first_found-earliest same find like (kept ++ x ∷ []) xs
    ∙ ap (λ l. first_found find (keep_first same l xs)) (sym e))

-- The first row for a set
first_found-rows : (set : List ℕ) (find : (List ℕ × Row Entry) → Option Choice) (rows : List (Row Entry))
    → Option.map (λ found. found.0 ∷ found.1) (first_found find (map (λ r. (set, r)) rows))
    ≡ Option.map (λ found. (set, found.0) ∷ found.1) (first_found (λ r. find (set, r)) rows)
unfolding first_found or_else
first_found-rows set find [] = refl
first_found-rows set find (r ∷ rows) = option_cases (find (set, r)) (λ c is. rw is refl) (λ is. rw is (first_found-rows set find rows))

-- A test of a choice that reads of each row no more than its relation and its set's columns
abbrev pub ReadsSets : (Choice → Bool) → Type 0
ReadsSets test =
    (front back : Choice) (set : List ℕ) (r s : Row Entry) → r.relation ≡ s.relation → Agree (constant 0) set r s
    → test (front ++ (set, r) ∷ back) ≡ test (front ++ (set, s) ∷ back)

pub earliest-enough : (rows : List (Row Entry)) (sets : List (List ℕ)) (test : Choice → Bool) → ReadsSets test
    → first_passing test (choices sets rows) ≡ first_passing test (picks (earliest sets rows))
unfolding picks
earliest-enough rows [] test reads = refl
earliest-enough rows (set ∷ sets) test reads =
    let all : Choice = map (λ r. (set, r)) rows in
    let kept : Choice = map (λ r. (set, r)) (keep_first (same_on set) [] rows) in
    let few = picks (earliest sets rows) in
    before-first test all (choices sets rows)
    ∙ ap (λ find. Option.map (λ found. found.0 ∷ found.1) (first_found find all))
    (fun_ext (λ (p : List ℕ × Row Entry). earliest-enough rows sets (λ l. test (p ∷ l)) (λ front back. reads (p ∷ front) back)))
    ∙ first_found-rows set (rest_for test few) rows
    ∙ ap (Option.map (λ found. (set, found.0) ∷ found.1)) (first_found-earliest (same_on set) (λ r. rest_for test few (set, r)) (like few) [] rows)
    ∙ sym (first_found-rows set (rest_for test few) (keep_first (same_on set) [] rows)) ∙ sym (before-first test kept few)
  where
    like : (few : List Choice) (r s : Row Entry) → same_on set r s ≡ true → rest_for test few (set, s) ≡ none → rest_for test few (set, r) ≡ none
    like few r s is nothing =
        let a = eqb r.relation s.relation in
        let relation = eqb-true r.relation s.relation (and_left a (agree set r s) is) in
        let columns = agree-all set r s (and_right a (agree set r s) is) in
        first_passing-same (λ l. test ((set, r) ∷ l)) (λ l. test ((set, s) ∷ l)) (λ l. reads [] l set r s relation columns) few ∙ nothing

-- `missing` reads no more
chosen_entry-reads : (front back : Choice) (set : List ℕ) (r s : Row Entry) → Agree (constant 0) set r s → (c : ℕ)
    → chosen_entry (front ++ (set, r) ∷ back) c ≡ chosen_entry (front ++ (set, s) ∷ back) c
unfolding chosen_entry
chosen_entry-reads [] back set r s same c =
    bool_cases (member c set) (λ p. rw p (same c (member-mem c set p))) (λ p. rw p refl)
chosen_entry-reads (p ∷ front) back set r s same c =
    ap (cond (member c p.0) (column (constant 0) p.1 c)) (chosen_entry-reads front back set r s same c)

agree-reads : (set : List ℕ) (r s y : Row Entry) → Agree (constant 0) set r s → agree set r y ≡ agree set s y
unfolding agree
agree-reads [] r s y same = refl
agree-reads (c ∷ set) r s y same =
    ap₂ ◌&&◌ (ap (λ e. same_entry e (column (constant 0) y c)) (same c (Memᴰ.head refl))) (agree-reads set r s y (λ d at. same d (Memᴰ.tail at)))

fits_choice-reads : (j : JoinDependency) (y : Row Entry) → ReadsSets (λ choice. fits_choice j choice y)
unfolding fits_choice every
fits_choice-reads j y [] back set r s relation same =
    ap (λ b. b && fits_choice j back y) (ap₂ ◌&&◌ (ap (λ n. eqb n j.relation) relation) (agree-reads set r s y same))
fits_choice-reads j y (p ∷ front) back set r s relation same =
    ap (λ b. eqb p.1.relation j.relation && agree p.0 p.1 y && b) (fits_choice-reads j y front back set r s relation same)

pub missing-reads : (widths : List ℕ) (j : JoinDependency) (rows : List (Row Entry)) → ReadsSets (missing widths j rows)
unfolding missing consistent yields
missing-reads widths j rows front back set r s relation same =
    let one = front ++ (set, r) ∷ back in
    let other = front ++ (set, s) ∷ back in
    let row : yields widths j one ≡ yields widths j other =
    ap (λ f. record { relation = j.relation; values = map f (numbers_where (λ c. true) 0 (get_or widths j.relation 0)) })
    (fun_ext (chosen_entry-reads front back set r s same)) in
    ap₂ (λ a y. a && not (stands_in y rows))
    (fits_choice-reads j (yields widths j one) front back set r s relation same ∙ ap (fits_choice j other) row) row

pub first_missing-earliest : (widths : List ℕ) (rows : List (Row Entry)) (j : JoinDependency)
    → first_missing widths rows j ≡ first_passing (missing widths j rows) (picks (earliest j.sets rows))
unfolding first_missing
first_missing-earliest widths rows j = earliest-enough rows j.sets (missing widths j rows) (missing-reads widths j rows)

-- ---- beginnings that are cut off

-- A search in which all fail
first_passing-none : {A : Type 0} (test : A → Bool) → ((x : A) → test x ≡ false) → (xs : List A) → first_passing test xs ≡ none
first_passing-none test fails [] = first_passing-nil test
first_passing-none test fails (x ∷ xs) = first_passing-false test x xs (fails x) ∙ first_passing-none test fails xs

-- What is found for each element, with the element put to it
first_found-with : {D A B : Type 0} (g : D → A → B) (find : D → Option A) (xs : List D)
    → Option.map (λ found. found.1) (first_found (λ x. Option.map (g x) (find x)) xs) ≡ Option.map (λ found. g found.0 found.1) (first_found find xs)
unfolding first_found or_else
first_found-with g find [] = refl
first_found-with g find (x ∷ xs) = option_cases (find x) (λ a is. rw is refl) (λ is. rw is (first_found-with g find xs))

map-twice : {A B C : Type 0} (g : B → C) (f : A → B) (o : Option A) → Option.map g (Option.map f o) ≡ Option.map (λ x. g (f x)) o
map-twice g f none = refl
map-twice g f (some x) = refl

-- The search from a beginning finds what `picks` has first
abbrev FromFront : {A : Type 0} → (List A → Bool) → (List A → Bool) → List A → List (List A) → Type 0
FromFront cut test front xss = search_from cut test front xss ≡ Option.map (λ l. front ++ l) (first_passing (λ l. test (front ++ l)) (picks xss))

-- Cut off or not, what is found for an element is the rest that goes with it
from-element : {A : Type 0} (cut test : List A → Bool) → ((front rest : List A) → cut front ≡ true → test (front ++ rest) ≡ false)
    → (front : List A) (xss : List (List A)) (x : A) → FromFront cut test (front ++ x ∷ []) xss
    → cond (cut (front ++ x ∷ [])) none (search_from cut test (front ++ x ∷ []) xss)
    ≡ Option.map (λ l. front ++ x ∷ l) (rest_for (λ l. test (front ++ l)) (picks xss) x)
from-element {A} cut test sound front xss x again =
    let longer = front ++ x ∷ [] in
    let moved : ◌≡◌ {A = List A → List A} (λ l. longer ++ l) (λ l. front ++ x ∷ l) = fun_ext (λ l. append_snoc front x l) in
    let shown : Option.map (λ l. longer ++ l) (first_passing (λ l. test (longer ++ l)) (picks xss))
    ≡ Option.map (λ l. front ++ x ∷ l) (rest_for (λ l. test (front ++ l)) (picks xss) x) =
    ap (λ (join : List A → List A). Option.map join (first_passing (λ l. test (join l)) (picks xss))) moved in
    bool_cases (cut longer)
    (λ p.
    let nothing = first_passing-none (λ l. test (longer ++ l)) (λ l. sound longer l p) (picks xss) in
    ap (λ b. cond b none (search_from cut test longer xss)) p ∙ sym (ap (Option.map (λ l. longer ++ l)) nothing) ∙ shown)
    (λ p. ap (λ b. cond b none (search_from cut test longer xss)) p ∙ again ∙ shown)

-- A search that cuts off only beginnings that no passing list has finds the first that passes
search_from-first : {A : Type 0} (cut test : List A → Bool) → ((front rest : List A) → cut front ≡ true → test (front ++ rest) ≡ false)
    → (front : List A) (xss : List (List A)) → FromFront cut test front xss
unfolding search_from picks first_passing
search_from-first cut test sound front [] =
    let same = append-nil front in
    bool_cases (test front)
    (λ p. rw (p, ap test same ∙ p) (ap some (sym same)))
    (λ p. rw (p, ap test same ∙ p) refl)
search_from-first {A} cut test sound front (xs ∷ xss) =
    let T : List A → Bool = λ l. test (front ++ l) in
    ap (λ find. Option.map (λ found. found.1) (first_found find xs))
    (fun_ext (λ x. from-element cut test sound front xss x (search_from-first cut test sound (front ++ x ∷ []) xss)))
    ∙ first_found-with (λ x l. front ++ x ∷ l) (rest_for T (picks xss)) xs
    ∙ sym (map-twice (λ l. front ++ l) (λ found. found.0 ∷ found.1) (first_found (rest_for T (picks xss)) xs))
    ∙ ap (Option.map (λ l. front ++ l)) (sym (before-first T xs (picks xss)))

-- What a beginning has in a column of one of its sets the whole choice has
chosen_entry-front : (front back : Choice) (c : ℕ) (p : List ℕ × Row Entry) → p ∈ front → c ∈ p.0
    → chosen_entry (front ++ back) c ≡ chosen_entry front c
unfolding chosen_entry
chosen_entry-front [] back c p at there = elim at [ ]
chosen_entry-front (q ∷ front) back c p at there =
    bool_cases (member c q.0) (λ is. rw is refl)
    (λ is. rw is (mem-cases at (λ here. absurd (member-not-mem c q.0 is (subst (λ (s : List ℕ × Row Entry). c ∈ s.0) here there)))
    (λ later. chosen_entry-front front back c p later there)))

-- The rows of a beginning of a choice that goes together go together
consistent-front : (widths : List ℕ) (j : JoinDependency) (front back : Choice) → consistent widths j (front ++ back) ≡ true
    → consistent widths j front ≡ true
consistent-front widths j front back together =
    true-consistent widths j front (λ p at.
    let fits = consistent-true widths j (front ++ back) together p (Memᴰ.append_left back at) in (
      fits.0,
      λ c there. fits.1 c there ∙ ⊎_elim
          (λ less. yields-column widths j (front ++ back) c less ∙ chosen_entry-front front back c p at there ∙ sym (yields-column widths j front c less))
          (λ past. yields-beyond widths j (front ++ back) c past ∙ sym (yields-beyond widths j front c past))
          (below-or-past c (get_or widths j.relation 0)),
    ))

pub cut-enough : (widths : List ℕ) (j : JoinDependency) (rows : List (Row Entry)) (tried : List Choice)
    → first_passing (missing widths j rows) (picks tried) ≡ search_from (λ front. not (consistent widths j front)) (missing widths j rows) [] tried
cut-enough widths j rows tried =
    sym (map-self (first_passing (missing widths j rows) (picks tried)))
    ∙ sym (search_from-first (λ front. not (consistent widths j front)) (missing widths j rows) sound [] tried)
  where
    map-self : {A : Type 0} (o : Option A) → Option.map (λ x. x) o ≡ o
    map-self none = refl
    map-self (some x) = refl

    sound : (front rest : Choice) → not (consistent widths j front) ≡ true → missing widths j rows (front ++ rest) ≡ false
    sound front rest e =
        bool_cases (missing widths j rows (front ++ rest))
        (λ p. absurd (true≢false (sym (consistent-front widths j front rest ((missing-exact widths j (front ++ rest) rows).0 p).0)
        ∙ not-true (consistent widths j front) e)))
        (λ p. p)
