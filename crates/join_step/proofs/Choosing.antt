-- The search over codes finds what the theory's search finds (`search_from` of `JoinTheorems`), for the codes of the entries of any rows that fit a schema.
--   1. A choice with one row more: which columns its sets have, and what it has in them.
--   2. What is chosen stands for a choice whose rows go together: in the columns of its sets it has the codes of the choice's entries.
--   3. A row goes with what is chosen exactly where the choice with it goes together, and what is chosen with its columns then stands for that.
--   4. Where all sets are dealt with, some row has what is chosen exactly where the row that the choice yields is there.
--   5. So the two searches find the same, set by set.
-- Assumes nothing.
use mathlib.Core.Path.{◌≡◌, refl, sym, ◌∙◌, ap, subst}
use mathlib.Core.Logic.{◌⊎◌, inl, inr, ⊎_elim}
use mathlib.Core.Bool.{Bool, true, false, cond, not, ◌&&◌, true≢false}
use mathlib.Core.List.Memᴰ
use mathlib.Core.List.{List, [], ◌∷◌, ◌++◌, map}
use mathlib.Core.Option
use mathlib.Core.Option.{Option, none, some, or_else}
use Prim.Native.Nat.{ℕ, suc, ◌+◌, ◌*◌, ◌≤◌, ◌<◌}
use native.Mathlib.Omega.{arith}
use borrow.Author.Tests.{eq-eqb, eqb-true}
use lib.Dec.{eqb}
use lib.ListN.{length, get_or, get_or-replicate}
use lib.Seq.{ext_get_or}
use Rattle.lists.specs.Tests.{every}
use Rattle.lists.specs.Numbers.{numbers_where}
use Rattle.lists.proofs.Numbers.{where-of}
use Rattle.lists.proofs.Tests.{and_left, and_right, and_both, every-member}
use Rattle.lists.proofs.Positions.{get_or-in, in-get_or}
use Rattle.theory.specs.Query.{Entry, constant, Row, column, member, FitsSchema, ◌∈◌}
use Rattle.theory.specs.Database.{JoinDependency, Agree}
use Rattle.theory.specs.Containment.{freeze}
use Rattle.theory.specs.Chase.{first_found}
use Rattle.theory.proofs.Lists.{bool_cases, mem-cases, member-mem, mem-member}
use Rattle.minimization.specs.Checking.{stands_in}
use Rattle.minimization.proofs.Checking.{stands-in, in-stands}
use Rattle.joins.specs.Join.{in_some, JoinFits}
use Rattle.joins.specs.JoinChase.{Choice, candidates, chosen_entry, yields, consistent, missing, first_missing}
use Rattle.joins.specs.JoinTheorems.{search_from}
use Rattle.joins.proofs.Choices.{consistent-true, true-consistent, yields-length, yields-relation, yields-column}
use Rattle.joins.proofs.Fitting.{in_some-set, set-in_some}
use Rattle.joins.proofs.Order.{cut-enough}
use Rattle.query.specs.View.{columns_from, columns_of}
use Rattle.query.proofs.Stored.{Within}
use Rattle.query.proofs.Codes.{code_same, code_below}
use Rattle.join_search.specs.internal.Search.{free, free_row, goes_at, goes, choose, row_goes, some_goes, extend_of, first_of, some_of}
use Rattle.tableaux.proofs.Columns.{columns-range}
use Rattle.join_search.proofs.Rows.{goes-free, goes_same, choose-length, choose-column}
use Rattle.join_search.proofs.Search.{some_is, is_some, goes-cases}

-- ---- 1. a choice with one row more

-- The sets of a choice
abbrev pub sets_of : Choice → List (List ℕ)
sets_of choice = map (λ p. p.0) choice

-- Which columns it has
more-columns : (front : Choice) (p : List ℕ × Row Entry) (c : ℕ) → in_some c (sets_of (front ++ p ∷ [])) ≡ cond (in_some c (sets_of front)) true (member c p.0)
unfolding in_some
more-columns [] p c = bool_cases (member c p.0) (λ e. rw e) (λ e. rw e)
more-columns (q ∷ front) p c =
    bool_cases (member c q.0) (λ e. rw e) (λ e. rw e (more-columns front p c))

-- and what it has in them: what it had, or the entry of the new row
more-entry : (front : Choice) (p : List ℕ × Row Entry) (c : ℕ)
    → chosen_entry (front ++ p ∷ []) c ≡ cond (in_some c (sets_of front)) (chosen_entry front c) (cond (member c p.0) (column (constant 0) p.1 c) (constant 0))
unfolding chosen_entry in_some
more-entry [] p c = refl
more-entry (q ∷ front) p c =
    bool_cases (member c q.0) (λ e. rw e) (λ e. rw e (more-entry front p c))

-- A row of a choice is one of the rows before, or the new one
more-cases : {C : Type 0} (front : Choice) (p q : List ℕ × Row Entry) → q ∈ (front ++ p ∷ []) → (q ∈ front → C) → (q ≡ p → C) → C
more-cases front p q at old new =
    ⊎_elim old (λ last. mem-cases last new (λ none. absurd (Memᴰ.not-nil none))) (Memᴰ.append_cases front at)

-- A test that each element passes
pub every_of : {A : Type 0} (test : A → Bool) (xs : List A) → ((x : A) → x ∈ xs → test x ≡ true) → every test xs ≡ true
unfolding every
every_of test [] passes = refl
every_of test (x ∷ xs) passes =
    and_both (test x) (every test xs) (passes x (Memᴰ.head refl)) (every_of test xs (λ y at. passes y (Memᴰ.tail at)))

-- The code of an entry
abbrev pub code : Entry → ℕ
code = freeze 2147483648

-- An entry within the limits has a code that is not free
pub code-not-free : (e : Entry) → Within e → code e ≡ free → ⊥
code-not-free e within is = let below = code_below e within in absurd (omega (arith, below, is))

-- All columns are in the set of all
pub all-columns : (c : ℕ) → c < 8 → c ∈ columns_of 255
unfolding columns_from numbers_where
all-columns c h = let at : c ∈ numbers_where (λ c. true) 0 8 = where-of (λ c. true) 0 8 c (omega arith) (omega arith) refl in at

-- A row that is not there
abbrev pub no_row : Row Entry
no_row = record { relation = 0; values = [] }

-- Rows that fit a schema, and the codes of their entries, 8 to a row
pub record Coded (widths : List ℕ) (rows : List (Row Entry)) (codes relations : List ℕ) : Type 0 where
  pub fit : (r : Row Entry) → r ∈ rows → FitsSchema widths r
  pub relation-is : (i : ℕ) → i < length rows → get_or relations i 0 ≡ (get_or rows i no_row).relation
  pub code_is : (i c : ℕ) → i < length rows → c < 8 → get_or codes (8 * i + c) 0 ≡ code (column (constant 0) (get_or rows i no_row) c)
  pub within : (i c : ℕ) → i < length rows → c < 8 → Within (column (constant 0) (get_or rows i no_row) c)

module _ (widths : List ℕ) (j : JoinDependency) (narrow : get_or widths j.relation 0 ≤ 8) (rows : List (Row Entry)) (codes relations : List ℕ)
    (coded : Coded widths rows codes relations) where
  -- ---- 2. what is chosen stands for a choice

  pub record Stands (front : Choice) (chosen : List ℕ) : Type 0 where
    pub long : length chosen ≡ 8
    pub chosen_is : (c : ℕ) → c < 8 → in_some c (sets_of front) ≡ true → get_or chosen c 0 ≡ code (chosen_entry front c)
    pub free-is : (c : ℕ) → c < 8 → in_some c (sets_of front) ≡ false → get_or chosen c 0 ≡ free
    pub entries : (c : ℕ) → c < 8 → Within (chosen_entry front c)
    pub columns : (p : List ℕ × Row Entry) → p ∈ front → (c : ℕ) → c ∈ p.0 → c < get_or widths j.relation 0
    pub together : consistent widths j front ≡ true

  -- Nothing is chosen
  pub stands-none : Stands [] free_row
  unfolding in_some chosen_entry
  stands-none = record {
    long = refl;
    chosen_is = λ c h e. absurd (true≢false (sym e));
    free-is = λ c h e. get_or-replicate 8 c free 0 h;
    entries = λ c h. omega arith;
    columns = λ p at. absurd (Memᴰ.not-nil at);
    together = true-consistent widths j [] (λ p at. absurd (Memᴰ.not-nil at));
  }

  -- A column of a set of the choice is one of its columns
  has-column : (front : Choice) (p : List ℕ × Row Entry) → p ∈ front → (c : ℕ) → c ∈ p.0 → in_some c (sets_of front) ≡ true
  has-column front p at c there = set-in_some c (sets_of front) p.0 (Memᴰ.map (λ (q : List ℕ × Row Entry). q.0) at) there

  -- ---- 3. one row more

  module _ (front : Choice) (chosen : List ℕ) (stands : Stands front chosen) (mask : ℕ)
      (inside : (c : ℕ) → c ∈ columns_of mask → c < get_or widths j.relation 0) (i : ℕ) (h : i < length rows) where
    row : Row Entry
    row = get_or rows i no_row

    one : List ℕ × Row Entry
    one = (columns_of mask, row)

    more : Choice
    more = front ++ one ∷ []

    low : (c : ℕ) → c ∈ columns_of mask → c < 8
    low c at = let range = columns-range 0 8 mask at in omega (arith, range.1)

    entry_old : (c : ℕ) → in_some c (sets_of front) ≡ true → chosen_entry more c ≡ chosen_entry front c
    unfolding row one more
    entry_old c e = more-entry front one c ∙ ap (λ b. cond b (chosen_entry front c) (cond (member c (columns_of mask)) (column (constant 0) row c) (constant 0))) e

    entry_new : (c : ℕ) → in_some c (sets_of front) ≡ false → c ∈ columns_of mask → chosen_entry more c ≡ column (constant 0) row c
    unfolding row one more
    entry_new c e at = more-entry front one c ∙ rw (e, mem-member c (columns_of mask) at)

    entry-none : (c : ℕ) → in_some c (sets_of front) ≡ false → member c (columns_of mask) ≡ false → chosen_entry more c ≡ constant 0
    unfolding row one more
    entry-none c e out = more-entry front one c ∙ rw (e, out)

    -- In a column of both what is chosen is the entry of the row, if the row goes
    same-entry : goes codes mask chosen i ≡ true → (c : ℕ) → c ∈ columns_of mask → in_some c (sets_of front) ≡ true
        → chosen_entry front c ≡ column (constant 0) row c
    unfolding goes row
    same-entry g c at has =
        let is = stands.chosen_is c (low c at) has in
        ⊎_elim (λ none. absurd (code-not-free (chosen_entry front c) (stands.entries c (low c at)) (sym is ∙ none)))
        (λ same. code_same (chosen_entry front c) (column (constant 0) row c) (stands.entries c (low c at)) (coded.within i c h (low c at))
        (sym is ∙ same ∙ coded.code_is i c h (low c at)))
        (goes-cases codes chosen i c (every-member (goes_at codes chosen i) (columns_of mask) g at))

    goes-together : get_or relations i 0 ≡ j.relation → goes codes mask chosen i ≡ true → consistent widths j more ≡ true
    unfolding row one more
    goes-together known g = true-consistent widths j more (λ p at.
        more-cases front one p at
        (λ old.
        let fits = consistent-true widths j front stands.together p old in (
          fits.0,
          λ c there.
              let below = stands.columns p old c there in
              fits.1 c there ∙ yields-column widths j front c below ∙ sym (entry_old c (has-column front p old c there))
              ∙ sym (yields-column widths j more c below),
        ))
        (λ new. subst (λ (p : List ℕ × Row Entry). (p.1.relation ≡ j.relation) × Agree (constant 0) p.0 p.1 (yields widths j more)) (sym new) (
          sym (coded.relation-is i h) ∙ known,
          λ c there.
              bool_cases (in_some c (sets_of front))
              (λ has. sym (same-entry g c there has) ∙ sym (entry_old c has))
              (λ out. sym (entry_new c out there))
              ∙ sym (yields-column widths j more c (inside c there)),
        )))

    together-goes : consistent widths j more ≡ true → (get_or relations i 0 ≡ j.relation) × (goes codes mask chosen i ≡ true)
    unfolding goes row one more
    together-goes e =
        let fits = consistent-true widths j more e one (Memᴰ.append_right front (Memᴰ.head refl)) in (
          coded.relation-is i h ∙ fits.0,
          every_of (goes_at codes chosen i) (columns_of mask) (λ c there.
              bool_cases (in_some c (sets_of front))
              (λ has. goes_same codes chosen i c
              (stands.chosen_is c (low c there) has
              ∙ ap code (sym (entry_old c has) ∙ sym (yields-column widths j more c (inside c there)) ∙ sym (fits.1 c there))
              ∙ sym (coded.code_is i c h (low c there))))
              (λ out. goes-free codes chosen i c (stands.free-is c (low c there) out))),
        )

    -- Whether the row goes is whether the choice with it goes together
    pub goes-is : row_goes codes relations j.relation mask chosen i ≡ consistent widths j (front ++ (columns_of mask, get_or rows i no_row) ∷ [])
    unfolding row one more
    goes-is =
        let known = eqb (get_or relations i 0) j.relation in
        let g = goes codes mask chosen i in
        bool_cases (known && g)
        (λ p. p ∙ sym (goes-together (eqb-true _ _ (and_left known g p)) (and_right known g p)))
        (λ p. bool_cases (consistent widths j more)
        (λ q. let both = together-goes q in absurd (true≢false (sym (and_both known g (eq-eqb _ _ both.0) both.1) ∙ p)))
        (λ q. p ∙ sym q))

    -- and then what is chosen with its columns stands for that choice
    pub stands-more : row_goes codes relations j.relation mask chosen i ≡ true
        → Stands (front ++ (columns_of mask, get_or rows i no_row) ∷ []) (choose codes mask chosen i)
    unfolding row one more
    stands-more e =
        let g = and_right (eqb (get_or relations i 0) j.relation) (goes codes mask chosen i) e in
        record {
          long = choose-length codes mask chosen i;
          chosen_is = λ c less has.
              choose-column codes mask chosen i c less
              ∙ bool_cases (member c (columns_of mask))
              (λ m.
              let at = member-mem c (columns_of mask) m in
              ap (λ b. cond b (get_or codes (8 * i + c) 0) (get_or chosen c 0)) m ∙ coded.code_is i c h less
              ∙ ap code (bool_cases (in_some c (sets_of front)) (λ old. sym (same-entry g c at old) ∙ sym (entry_old c old)) (λ out. sym (entry_new c out at))))
              (λ m.
              let old : in_some c (sets_of front) ≡ true = old-column c m has in
              ap (λ b. cond b (get_or codes (8 * i + c) 0) (get_or chosen c 0)) m ∙ stands.chosen_is c less old ∙ ap code (sym (entry_old c old)));
          free-is = λ c less out.
              let neither = no-column c out in
              choose-column codes mask chosen i c less
              ∙ ap (λ b. cond b (get_or codes (8 * i + c) 0) (get_or chosen c 0)) neither.1 ∙ stands.free-is c less neither.0;
          entries = λ c less.
              bool_cases (in_some c (sets_of front))
              (λ old. subst Within (sym (entry_old c old)) (stands.entries c less))
              (λ out. bool_cases (member c (columns_of mask))
              (λ m. subst Within (sym (entry_new c out (member-mem c (columns_of mask) m))) (coded.within i c h less))
              (λ m. subst Within (sym (entry-none c out m)) (omega arith)));
          columns = λ p at. more-cases front one p at (stands.columns p)
              (λ new c there. inside c (subst (λ (p : List ℕ × Row Entry). c ∈ p.0) new there));
          together = sym goes-is ∙ e;
        }
      where
        old-column : (c : ℕ) → member c (columns_of mask) ≡ false → in_some c (sets_of (front ++ one ∷ [])) ≡ true → in_some c (sets_of front) ≡ true
        old-column c m has = bool_cases (in_some c (sets_of front)) (λ old. old)
            (λ out. absurd (true≢false (sym has ∙ more-columns front one c ∙ rw (out, m))))

        no-column : (c : ℕ) → in_some c (sets_of (front ++ one ∷ [])) ≡ false → (in_some c (sets_of front) ≡ false) × (member c (columns_of mask) ≡ false)
        no-column c out =
            let is = sym (more-columns front one c) ∙ out in
            bool_cases (in_some c (sets_of front))
            (λ old. absurd (true≢false (sym (ap (λ b. cond b true (member c (columns_of mask))) old) ∙ is)))
            (λ none. (none, sym (ap (λ b. cond b true (member c (columns_of mask))) none) ∙ is))

  -- ---- 4. the row that is yielded

  -- The sets of the choice have all columns
  abbrev pub Covers : Choice → Type 0
  Covers choice = (c : ℕ) → c < get_or widths j.relation 0 → in_some c (sets_of choice) ≡ true

  module _ (front : Choice) (chosen : List ℕ) (stands : Stands front chosen) (covers : Covers front) where
    -- A row with what is chosen in every column is the row that is yielded
    row-yielded : (i : ℕ) → i < length rows → row_goes codes relations j.relation 255 chosen i ≡ true → get_or rows i no_row ≡ yields widths j front
    unfolding goes
    row-yielded i h e =
        let r = get_or rows i no_row in
        let y = yields widths j front in
        let known = eqb (get_or relations i 0) j.relation in
        let relation : r.relation ≡ j.relation = sym (coded.relation-is i h) ∙ eqb-true _ _ (and_left known (goes codes 255 chosen i) e) in
        let wide : length r.values ≡ get_or widths j.relation 0 =
        (coded.fit r (get_or-in rows i no_row h)).1 ∙ ap (λ n. get_or widths n 0) relation in
        let values : r.values ≡ y.values =
        ext_get_or (constant 0) r.values y.values (wide ∙ sym (yields-length widths j front))
        (λ c less.
        let below : c < get_or widths j.relation 0 = omega (arith, wide) in
        let eight : c < 8 = omega (arith, narrow) in
        let is = stands.chosen_is c eight (covers c below) in
        ⊎_elim (λ none. absurd (code-not-free (chosen_entry front c) (stands.entries c eight) (sym is ∙ none)))
        (λ same. code_same (column (constant 0) r c) (chosen_entry front c) (coded.within i c h eight) (stands.entries c eight)
        (sym (coded.code_is i c h eight) ∙ sym same ∙ is))
        (goes-cases codes chosen i c
        (every-member (goes_at codes chosen i) (columns_of 255) (and_right known (goes codes 255 chosen i) e) (all-columns c eight)))
        ∙ sym (yields-column widths j front c below)) in
        let same_relation : r.relation ≡ y.relation = relation ∙ sym (yields-relation widths j front) in
        λ k. record { relation = same_relation k; values = values k }

    yielded-row : (i : ℕ) → i < length rows → get_or rows i no_row ≡ yields widths j front → row_goes codes relations j.relation 255 chosen i ≡ true
    unfolding goes
    yielded-row i h e =
        and_both (eqb (get_or relations i 0) j.relation) (goes codes 255 chosen i)
        (eq-eqb _ _ (coded.relation-is i h ∙ ap (λ r. r.relation) e ∙ yields-relation widths j front))
        (every_of (goes_at codes chosen i) (columns_of 255) (λ c at.
        let range = columns-range 0 8 255 at in
        let eight : c < 8 = omega (arith, range.1) in
        bool_cases (in_some c (sets_of front))
        (λ has.
        let found = in_some-set c (sets_of front) has in
        let from = Memᴰ.of_map (λ (p : List ℕ × Row Entry). p.0) front found.1 in
        let below = stands.columns from.0 from.1 c (subst (λ l. c ∈ l) (sym from.2) found.2) in
        goes_same codes chosen i c
        (stands.chosen_is c eight has
        ∙ ap code (sym (yields-column widths j front c below) ∙ ap (λ r. column (constant 0) r c) (sym e))
        ∙ sym (coded.code_is i c h eight)))
        (λ out. goes-free codes chosen i c (stands.free-is c eight out))))

    -- Some row has what is chosen exactly where the row that is yielded is there
    there-is : some_goes codes relations (length rows) j.relation 255 chosen ≡ stands_in (yields widths j front) rows
    there-is =
        let y = yields widths j front in
        let test = row_goes codes relations j.relation 255 chosen in
        bool_cases (some_of test 0 (length rows))
        (λ p.
        let found = some_is test 0 (length rows) p in
        let h : found.0 < length rows = omega (arith, found.2) in
        p ∙ sym (in-stands y rows (Memᴰ.cast (sym (row-yielded found.0 h found.3)) (get_or-in rows found.0 no_row h))))
        (λ p.
        bool_cases (stands_in y rows)
        (λ q.
        let at = in-get_or rows no_row (stands-in y rows q) in
        absurd (true≢false (sym (is_some test 0 (length rows) at.0 (omega arith) (omega (arith, at.1)) (yielded-row at.0 at.1 at.2)) ∙ p)))
        (λ q. p ∙ sym q))

  -- ---- 5. the two searches

  -- They find the same: nothing, or codes that stand for a choice with all columns
  abbrev pub Same : Option (List ℕ) → Option Choice → Type 0
  Same none none = Unit {0}
  Same none (some choice) = ⊥
  Same (some chosen) none = ⊥
  Same (some chosen) (some choice) = Stands choice chosen × Covers choice

  same-else : (x : List ℕ × Row Entry) (a b : Option (List ℕ)) (p : Option Choice) (q : Option ((List ℕ × Row Entry) × Choice)) → Same a p
      → Same b (Option.map (λ found. found.1) q) → Same (or_else a b) (Option.map (λ found. found.1) (or_else (Option.map (λ y. (x, y)) p) q))
  unfolding or_else
  same-else x none b none q first rest = rest
  same-else x none b (some choice) q first rest = absurd first
  same-else x (some chosen) b none q first rest = absurd first
  same-else x (some chosen) b (some choice) q first rest = first

  -- Row by row
  same_rows : (find : ℕ → Option (List ℕ)) (other : (List ℕ × Row Entry) → Option Choice) (set : List ℕ) (start : ℕ) (rs : List (Row Entry))
      → ((k : ℕ) → k < length rs → Same (find (start + k)) (other (set, get_or rs k no_row)))
      → Same (first_of find start (length rs)) (Option.map (λ found. found.1) (first_found other (map (λ r. (set, r)) rs)))
  unfolding first_of first_found
  same_rows find other set start [] same = tt
  same_rows find other set start (r ∷ rs) same =
      same-else (set, r) (find start) (first_of find (suc start) (length rs)) (other (set, r)) (first_found other (map (λ r. (set, r)) rs))
      (subst (λ k. Same (find k) (other (set, r))) (omega arith) (same 0 (omega arith)))
      (same_rows find other set (suc start) rs (λ k h.
      subst (λ n. Same (find n) (other (set, get_or rs k no_row))) (omega arith) (same (suc k) (omega arith))))

  search-same : (masks : List ℕ) (front : Choice) (chosen : List ℕ) → Stands front chosen
      → ((m : ℕ) → m ∈ masks → (c : ℕ) → c ∈ columns_of m → c < get_or widths j.relation 0)
      → ((c : ℕ) → c < get_or widths j.relation 0 → (in_some c (sets_of front) ≡ true) ⊎ ((m : ℕ) × m ∈ masks × c ∈ columns_of m))
      → Same (extend_of codes relations (length rows) j.relation masks chosen)
      (search_from (λ front. not (consistent widths j front)) (missing widths j rows) front (candidates (map columns_of masks) rows))
  unfolding extend_of search_from missing
  search-same [] front chosen stands inside covers =
      let all : Covers front = λ c h. ⊎_elim (λ has. has) (λ m. absurd (Memᴰ.not-nil m.1)) (covers c h) in
      rw (there-is front chosen stands all, stands.together)
      (bool_cases (stands_in (yields widths j front) rows) (λ e. rw e tt) (λ e. rw e (stands, all)))
  search-same (mask ∷ masks) front chosen stands inside covers =
      same_rows
      (λ i. cond (row_goes codes relations j.relation mask chosen i)
      (extend_of codes relations (length rows) j.relation masks (choose codes mask chosen i)) none)
      (λ x. cond (not (consistent widths j (front ++ x ∷ []))) none
      (search_from (λ front. not (consistent widths j front)) (missing widths j rows) (front ++ x ∷ []) (candidates (map columns_of masks) rows)))
      (columns_of mask) 0 rows
      (λ i h. step i h (λ front chosen stands. search-same masks front chosen stands (λ m at. inside m (Memᴰ.tail at))))
    where
      step : (i : ℕ) → i < length rows
          → ((front : Choice) (chosen : List ℕ) → Stands front chosen
          → ((c : ℕ) → c < get_or widths j.relation 0 → (in_some c (sets_of front) ≡ true) ⊎ ((m : ℕ) × m ∈ masks × c ∈ columns_of m))
          → Same (extend_of codes relations (length rows) j.relation masks chosen)
          (search_from (λ front. not (consistent widths j front)) (missing widths j rows) front (candidates (map columns_of masks) rows)))
          → Same (cond (row_goes codes relations j.relation mask chosen (0 + i))
          (extend_of codes relations (length rows) j.relation masks (choose codes mask chosen (0 + i))) none)
          (cond (not (consistent widths j (front ++ (columns_of mask, get_or rows i no_row) ∷ []))) none
          (search_from (λ front. not (consistent widths j front)) (missing widths j rows) (front ++ (columns_of mask, get_or rows i no_row) ∷ [])
          (candidates (map columns_of masks) rows)))
      step i h again =
          let x : List ℕ × Row Entry = (columns_of mask, get_or rows i no_row) in
          let within = inside mask (Memᴰ.head refl) in
          let is = goes-is front chosen stands mask within i h in
          let zero-add : 0 + i ≡ i = omega arith in
          subst (λ k. Same (cond (row_goes codes relations j.relation mask chosen k)
          (extend_of codes relations (length rows) j.relation masks (choose codes mask chosen k)) none)
          (cond (not (consistent widths j (front ++ x ∷ []))) none
          (search_from (λ front. not (consistent widths j front)) (missing widths j rows) (front ++ x ∷ []) (candidates (map columns_of masks) rows))))
          (sym zero-add)
          (bool_cases (row_goes codes relations j.relation mask chosen i)
          (λ p. rw (p, sym is ∙ p)
          (again (front ++ x ∷ []) (choose codes mask chosen i) (stands-more front chosen stands mask within i h p)
          (λ c less. ⊎_elim
          (λ has. inl (more-columns front x c ∙ ap (λ b. cond b true (member c (columns_of mask))) has))
          (λ at. mem-cases at.1
          (λ here. inl (has-column (front ++ x ∷ []) x (Memᴰ.append_right front (Memᴰ.head refl)) c (subst (λ m. c ∈ columns_of m) here at.2)))
          (λ later. inr (at.0, later, at.2)))
          (covers c less))))
          (λ p. rw (p, sym is ∙ p) tt))

  -- From nothing chosen on it is the theory's search for a missing choice
  pub search-finds : JoinFits widths j → (masks : List ℕ) → j.sets ≡ map columns_of masks
      → ((m : ℕ) → m ∈ masks → (c : ℕ) → c ∈ columns_of m → c < get_or widths j.relation 0)
      → Same (extend_of codes relations (length rows) j.relation masks free_row) (first_missing widths rows j)
  unfolding first_missing in_some
  search-finds fits masks sets inside =
      subst (Same (extend_of codes relations (length rows) j.relation masks free_row))
      (ap (λ l. search_from (λ front. not (consistent widths j front)) (missing widths j rows) [] (candidates l rows)) (sym sets)
      ∙ sym (cut-enough widths j rows (candidates j.sets rows)))
      (search-same masks [] free_row stands-none inside (λ c less.
      let set = fits.covers c less in
      let from = Memᴰ.of_map columns_of masks (subst (λ l. set.0 ∈ l) sets set.1) in
      inr (from.0, from.1, subst (λ l. c ∈ l) (sym from.2) set.2)))
