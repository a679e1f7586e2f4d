-- The search, set by set. Two shortcuts change nothing: a row need not be tried where an earlier one has the same codes in the columns of the set, and
-- nothing is found from a beginning with which no row of a later set goes. Assumes nothing.
use mathlib.Core.Path.{◌≡◌, refl, sym, ◌∙◌, ap, ap₂}
use mathlib.Core.Logic.{◌⊎◌, inl, inr, ⊎_elim}
use mathlib.Core.Bool.{Bool, true, false, cond, not, ◌&&◌, true≢false}
use mathlib.Core.List.Memᴰ
use mathlib.Core.List.{List, [], ◌∷◌}
use mathlib.Core.Option.{Option, none, some, or_else}
use Prim.Native.Nat.{ℕ, zero, suc, ◌+◌, ◌*◌, ◌-◌, ◌/◌, ◌%◌, ◌≤◌, ◌<◌}
use native.Mathlib.Nat.{sub-zero}
use native.Mathlib.Omega.{arith}
use borrow.Author.Tests.{eqb-true}
use lib.Dec.{eqb}
use lib.ListN.{length, take, drop, get_or}
use lib.Seq.{ext_get_or}
use Rattle.lists.specs.Tests.{every}
use Rattle.lists.proofs.Tests.{below-or-past, and_left, and_right, and_both, every-member}
use Rattle.lists.proofs.Positions.{left-cons, left-none}
use Rattle.theory.specs.Query.{member, ◌∈◌}
use Rattle.theory.proofs.Lists.{bool_cases, member-mem}
use Rattle.query.specs.View.{columns_of}
use Rattle.query.specs.declared.JoinDependency.{JoinDependency}
use Rattle.std.specs.Prelude as prelude
use Rattle.join_search.specs.internal.Search.{free, goes_at, goes, choose, row_goes, some_goes, all_go, extend_of, first_of, some_of, is_first, found_of, Spare}
use Rattle.tableaux.specs.internal.Codes.{same_on}
use Rattle.tableaux.proofs.Columns.{columns-range}
use Rattle.join_search.proofs.Rows.{choose-length, choose-column, goes-free, goes_same}

-- ---- numbers in turn

-- Where nothing is found for any of the numbers, nothing is
first-nothing : {A : Type 0} (find : ℕ → Option A) (start n : ℕ) → ((i : ℕ) → start ≤ i → i < start + n → find i ≡ none) → first_of find start n ≡ none
unfolding first_of or_else
first-nothing find start zero nothing = refl
first-nothing find start (suc n) nothing =
    rw (nothing start (omega arith) (omega arith)) (first-nothing find (suc start) n (λ i low high. nothing i (omega arith) (omega arith)))

-- One of the numbers passes where there is one that does
pub some_is : (test : ℕ → Bool) (start n : ℕ) → some_of test start n ≡ true → (i : ℕ) × (start ≤ i) × (i < start + n) × (test i ≡ true)
unfolding some_of
some_is test start zero e = absurd (true≢false (sym e))
some_is test start (suc n) e =
    bool_cases (test start)
    (λ p. (start, omega arith, omega arith, p))
    (λ p.
    let later = some_is test (suc start) n (sym (ap (λ b. cond b true (some_of test (suc start) n)) p) ∙ e) in
    (later.0, omega (arith, later.1), omega (arith, later.2), later.3))

pub is_some : (test : ℕ → Bool) (start n i : ℕ) → start ≤ i → i < start + n → test i ≡ true → some_of test start n ≡ true
unfolding some_of
is_some test start zero i low high passes = absurd (omega arith)
is_some test start (suc n) i low high passes =
    bool_cases (test start) (λ p. rw p)
    (λ p. rw p (is_some test (suc start) n i
    (⊎_elim (λ past. past) (λ same. absurd (true≢false (sym passes ∙ ap test same ∙ p))) (low-cases low)) (omega arith) passes))
  where
    low-cases : start ≤ i → (suc start ≤ i) ⊎ (i ≡ start)
    low-cases h = ⊎_elim (λ l. inl l) (λ l. inr (omega arith)) (below-or-past start i)

-- ---- columns

-- A column of a set goes or does not
pub goes-cases : (codes chosen : List ℕ) (i c : ℕ) → goes_at codes chosen i c ≡ true → (get_or chosen c 0 ≡ free) ⊎ (get_or chosen c 0 ≡ get_or codes (8 * i + c) 0)
goes-cases codes chosen i c e =
    bool_cases (eqb (get_or chosen c 0) free) (λ p. inl (eqb-true _ _ p))
    (λ p. inr (eqb-true _ _ (sym (ap (λ b. cond b true (eqb (get_or chosen c 0) (get_or codes (8 * i + c) 0))) p) ∙ e)))

-- Tests that agree on the elements of a list
every-agree : {A : Type 0} (test other : A → Bool) (xs : List A) → ((x : A) → x ∈ xs → test x ≡ other x) → every test xs ≡ every other xs
unfolding every
every-agree test other [] same = refl
every-agree test other (x ∷ xs) same =
    ap₂ ◌&&◌ (same x (Memᴰ.head refl)) (every-agree test other xs (λ y at. same y (Memᴰ.tail at)))

every-imply : {A : Type 0} (test other : A → Bool) (xs : List A) → ((x : A) → x ∈ xs → test x ≡ true → other x ≡ true) → every test xs ≡ true
    → every other xs ≡ true
unfolding every
every-imply test other [] imply e = refl
every-imply test other (x ∷ xs) imply e =
    and_both (other x) (every other xs) (imply x (Memᴰ.head refl) (and_left (test x) (every test xs) e))
    (every-imply test other xs (λ y at. imply y (Memᴰ.tail at)) (and_right (test x) (every test xs) e))

column-low : (mask : ℕ) {c : ℕ} → c ∈ columns_of mask → c < 8
column-low mask at = let range = columns-range 0 8 mask at in omega (arith, range.1)

-- ---- rows that are the same on a set

module _ (codes : List ℕ) (mask : ℕ) (i e : ℕ) (same : same_on codes mask i e ≡ true) where
  same_code : (c : ℕ) → c ∈ columns_of mask → get_or codes (8 * i + c) 0 ≡ get_or codes (8 * e + c) 0
  same_code c at = eqb-true _ _ (every-member (λ c. eqb (get_or codes (8 * i + c) 0) (get_or codes (8 * e + c) 0)) (columns_of mask) same at)

  same-goes : (chosen : List ℕ) → goes codes mask chosen i ≡ goes codes mask chosen e
  unfolding goes
  same-goes chosen =
      every-agree (goes_at codes chosen i) (goes_at codes chosen e) (columns_of mask)
      (λ c at. ap (λ n. cond (eqb (get_or chosen c 0) free) true (eqb (get_or chosen c 0) n)) (same_code c at))

  same-choose : (chosen : List ℕ) → choose codes mask chosen i ≡ choose codes mask chosen e
  same-choose chosen =
      ext_get_or 0 (choose codes mask chosen i) (choose codes mask chosen e) (choose-length codes mask chosen i ∙ sym (choose-length codes mask chosen e))
      (λ c low.
      let below : c < 8 = omega (arith, choose-length codes mask chosen i) in
      choose-column codes mask chosen i c below
      ∙ bool_cases (member c (columns_of mask)) (λ p. rw (p, same_code c (member-mem c (columns_of mask) p))) (λ p. rw p)
      ∙ sym (choose-column codes mask chosen e c below))

-- ---- more is chosen

-- A row that goes with what is chosen and the columns of a row that goes too goes with what is chosen
more-goes : (codes : List ℕ) (mask other : ℕ) (chosen : List ℕ) (i e : ℕ) → goes codes mask chosen i ≡ true
    → goes codes other (choose codes mask chosen i) e ≡ true → goes codes other chosen e ≡ true
unfolding goes
more-goes codes mask other chosen i e here there =
    every-imply (goes_at codes (choose codes mask chosen i) e) (goes_at codes chosen e) (columns_of other) column there
  where
    column : (c : ℕ) → c ∈ columns_of other → goes_at codes (choose codes mask chosen i) e c ≡ true → goes_at codes chosen e c ≡ true
    column c at goes-there =
        let is = choose-column codes mask chosen i c (column-low other at) in
        bool_cases (member c (columns_of mask))
        (λ p.
        let taken : get_or (choose codes mask chosen i) c 0 ≡ get_or codes (8 * i + c) 0 =
        is ∙ ap (λ b. cond b (get_or codes (8 * i + c) 0) (get_or chosen c 0)) p in
        ⊎_elim (goes-free codes chosen e c)
        (λ same. ⊎_elim (λ none. goes-free codes chosen e c (same ∙ sym taken ∙ none)) (λ also. goes_same codes chosen e c (same ∙ sym taken ∙ also))
        (goes-cases codes (choose codes mask chosen i) e c goes-there))
        (goes-cases codes chosen i c (every-member (goes_at codes chosen i) (columns_of mask) here (member-mem c (columns_of mask) p))))
        (λ p.
        let kept : get_or (choose codes mask chosen i) c 0 ≡ get_or chosen c 0 = is ∙ ap (λ b. cond b (get_or codes (8 * i + c) 0) (get_or chosen c 0)) p in
        ⊎_elim (λ none. goes-free codes chosen e c (sym kept ∙ none)) (λ also. goes_same codes chosen e c (sym kept ∙ also))
        (goes-cases codes (choose codes mask chosen i) e c goes-there))

module _ (codes relations : List ℕ) (size relation : ℕ) where
  -- so where no row goes with what is chosen none goes with more
  more-some : (mask other : ℕ) (chosen : List ℕ) (i : ℕ) → goes codes mask chosen i ≡ true
      → some_goes codes relations size relation other (choose codes mask chosen i) ≡ true → some_goes codes relations size relation other chosen ≡ true
  more-some mask other chosen i here there =
      let found = some_is (row_goes codes relations relation other (choose codes mask chosen i)) 0 size there in
      let e = found.0 in
      let known = eqb (get_or relations e 0) relation in
      let g = goes codes other (choose codes mask chosen i) e in
      is_some (row_goes codes relations relation other chosen) 0 size e found.1 found.2
      (and_both known (goes codes other chosen e) (and_left known g found.3) (more-goes codes mask other chosen i e here (and_right known g found.3)))

  more-all : (mask : ℕ) (others : List ℕ) (chosen : List ℕ) (i : ℕ) → goes codes mask chosen i ≡ true
      → all_go codes relations size relation others (choose codes mask chosen i) ≡ true → all_go codes relations size relation others chosen ≡ true
  more-all mask others chosen i here there =
      every-imply (λ set. some_goes codes relations size relation set (choose codes mask chosen i)) (λ set. some_goes codes relations size relation set chosen)
      others (λ set at. more-some mask set chosen i here) there

  -- ---- the search from a set on

  -- What is found with row i for a set
  abbrev pub find_with : ℕ → List ℕ → List ℕ → ℕ → Option (List ℕ)
  find_with mask sets chosen i =
      cond (row_goes codes relations relation mask chosen i) (extend_of codes relations size relation sets (choose codes mask chosen i)) none

  find-not : (mask : ℕ) (sets chosen : List ℕ) (i : ℕ) → row_goes codes relations relation mask chosen i ≡ false → find_with mask sets chosen i ≡ none
  find-not mask sets chosen i out = ap (λ b. cond b (extend_of codes relations size relation sets (choose codes mask chosen i)) none) out

  -- Nothing is found where some set has no row that goes
  pub dead_end : (sets chosen : List ℕ) → all_go codes relations size relation sets chosen ≡ false → extend_of codes relations size relation sets chosen ≡ none
  unfolding extend_of every
  dead_end [] chosen e = absurd (true≢false e)
  dead_end (mask ∷ sets) chosen e =
      first-nothing (find_with mask sets chosen) 0 size (λ i low high.
      bool_cases (row_goes codes relations relation mask chosen i)
      (λ p. ap (λ b. cond b (extend_of codes relations size relation sets (choose codes mask chosen i)) none) p
      ∙ dead_end sets (choose codes mask chosen i) (later i low high p))
      (find-not mask sets chosen i))
    where
      later : (i : ℕ) → 0 ≤ i → i < 0 + size → row_goes codes relations relation mask chosen i ≡ true
          → all_go codes relations size relation sets (choose codes mask chosen i) ≡ false
      later i low high p =
          let here = and_right (eqb (get_or relations i 0) relation) (goes codes mask chosen i) p in
          bool_cases (all_go codes relations size relation sets (choose codes mask chosen i))
          (λ all.
          absurd (true≢false (sym (and_both (some_goes codes relations size relation mask chosen) (all_go codes relations size relation sets chosen)
          (is_some (row_goes codes relations relation mask chosen) 0 size i low high p) (more-all mask sets chosen i here all)) ∙ e)))
          (λ no. no)

  -- Nothing is found with a row that is not the first of its like, where nothing is found with the rows before it
  pub not_first : (mask : ℕ) (sets chosen : List ℕ) (i : ℕ) → is_first codes relations relation mask i ≡ false
      → ((e : ℕ) → e < i → find_with mask sets chosen e ≡ none) → find_with mask sets chosen i ≡ none
  not_first mask sets chosen i out before =
      bool_cases (eqb (get_or relations i 0) relation)
      (λ p.
      let found = some_is like 0 i (like-there (eqb (get_or relations i 0) relation) (some_of like 0 i) p out) in
      let e = found.0 in
      let known = eqb (get_or relations e 0) relation in
      let same = and_right known (same_on codes mask i e) found.3 in
      ap₂ (λ b l. cond b (extend_of codes relations size relation sets l) none)
      (ap₂ ◌&&◌ (p ∙ sym (and_left known (same_on codes mask i e) found.3)) (same-goes codes mask i e same chosen))
      (same-choose codes mask i e same chosen)
      ∙ before e (omega (arith, found.2)))
      (λ p. find-not mask sets chosen i (ap (λ b. b && goes codes mask chosen i) p))
    where
      like : ℕ → Bool
      like e = eqb (get_or relations e 0) relation && same_on codes mask i e

      like-there : (b s : Bool) → b ≡ true → b && not s ≡ false → s ≡ true
      like-there true true p e = refl
      like-there true false p e = absurd (true≢false e)
      like-there false s p e = absurd (true≢false (sym p))

  -- ---- what the code does at a set

  -- No set is left
  pub extend-last : (count k : ℕ) (sets chosen : List ℕ) (there : Bool) → count ≤ k → there ≡ some_goes codes relations size relation 255 chosen
      → cond (not there) (some chosen) none ≡ extend_of codes relations size relation (drop k (take count sets)) chosen
  unfolding extend_of
  extend-last count k sets chosen there past is =
      rw (left-none count k sets past, ← is) (go there)
    where
      go : (t : Bool) → cond (not t) (some chosen) none ≡ cond t none (some chosen)
      go true = refl
      go false = refl

  -- The rows in turn
  pub extend-start : (count k : ℕ) (sets chosen : List ℕ) → k < count → count ≤ length sets
      → extend_of codes relations size relation (drop k (take count sets)) chosen
      ≡ first_of (find_with (get_or sets k 0) (drop (k + 1) (take count sets)) chosen) 0 (size - 0)
  unfolding extend_of
  extend-start count k sets chosen less long = rw (left-cons count k sets 0 less long, sub-zero)

  -- What is found with a row that goes
  pub find-goes : (mask : ℕ) (sets chosen next : List ℕ) (i : ℕ) (t : Bool) (m : prelude.Option (List ℕ)) → is_first codes relations relation mask i ≡ true
      → t ≡ goes codes mask chosen i → t ≡ true → next ≡ choose codes mask chosen i
      → found_of m ≡ extend_of codes relations size relation sets next → find_with mask sets chosen i ≡ found_of m
  find-goes mask sets chosen next i t m first is holds chosen_is found =
      let known = eqb (get_or relations i 0) relation in
      ap (λ b. cond b (extend_of codes relations size relation sets (choose codes mask chosen i)) none)
      (and_both known (goes codes mask chosen i) (and_left known _ first) (sym is ∙ holds))
      ∙ ap (extend_of codes relations size relation sets) (sym chosen_is) ∙ sym found

  -- and with one that does not
  pub find-goes-not : (mask : ℕ) (sets chosen : List ℕ) (i : ℕ) (t : Bool) → t ≡ goes codes mask chosen i → t ≡ false → find_with mask sets chosen i ≡ none
  find-goes-not mask sets chosen i t is fails =
      find-not mask sets chosen i (and-not (eqb (get_or relations i 0) relation) (goes codes mask chosen i) (sym is ∙ fails))
    where
      and-not : (a b : Bool) → b ≡ false → a && b ≡ false
      and-not true b e = e
      and-not false b e = refl

-- Which rows are to be tried, by set and row
pub spare-at : (codes relations : List ℕ) (j : JoinDependency) (tried : List Bool) → Spare codes relations j tried → (k i : ℕ) → k < 4 → i < 24
    → get_or tried (24 * k + i) false ≡ is_first codes relations j.relation (get_or j.sets k 0) i
spare-at codes relations j tried spare k i h l =
    let set_is : (24 * k + i) / 24 ≡ k = omega arith in
    let row_is : (24 * k + i) % 24 ≡ i = omega arith in
    spare (24 * k + i) (omega arith) ∙ ap₂ (λ m n. is_first codes relations j.relation (get_or j.sets m 0) n) set_is row_is
