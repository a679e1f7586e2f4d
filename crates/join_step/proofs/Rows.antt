-- A tableau with a row more, and one without repeated rows: how they are made, the query that they stand for, and that they are good. Assumes nothing.
use mathlib.Core.Path.{◌≡◌, refl, sym, ◌∙◌, ap, ap₂}
use mathlib.Core.Bool.{Bool, true, false, cond, not, ◌&&◌, true≢false}
use mathlib.Core.List.Memᴰ
use mathlib.Core.List.{List, [], ◌∷◌, ◌++◌, append_assoc}
use Prim.Native.Nat.{ℕ, zero, suc, ◌+◌, ◌*◌, ◌≤◌, ◌<◌}
use native.Mathlib.Numerals.{add-one}
use native.Mathlib.Omega.{arith}
use borrow.Author.Tests.{eq-eqb, ne_eqb, eqb-true, eqb-false}
use lib.Dec.{eqb}
use lib.ListN.{length, take, drop, get_or, set, length-append, length-drop, length-set, take-append-drop}
use lib.Seq.{ext_get_or, length-take-le, take_all, take-append-le, drop-append-le, take-suc, take-suc-set, drop-set-lt, drop-drop, take-take, take_at, drop_at, get_or-take}
use Rattle.lists.specs.Tests.{every, in_use, is_zero}
use Rattle.lists.specs.Over.{over}
use Rattle.lists.proofs.Tests.{and_left, and_right, and_both, every_drop, every-member}
use Rattle.lists.proofs.Loops.{stretch-length}
use Rattle.lists.proofs.Positions.{get_or-in, in-get_or, length_none}
use Rattle.lists.proofs.Over.{over-length}
use Rattle.theory.specs.Query.{Entry, constant, Row, column, ◌∈◌}
use Rattle.theory.proofs.Lists.{bool_cases}
use Rattle.minimization.specs.Checking.{same_row}
use Rattle.minimization.proofs.Checking.{same_row-eq, same_row-self}
use Rattle.joins.specs.JoinChase.{keep_first, add_row}
use Rattle.joins.proofs.Repeats.{keep_first-has, keep_first-length, snoc-there, snoc_new}
use Rattle.query.specs.declared.Cell.{Cell}
use Rattle.query.specs.Types.{Tableau}
use Rattle.query.specs.View.{entries_of, rows_of, query_of, as_query, columns_of}
use Rattle.query.specs.Rule.{good_cell, blank_cell, good_row, good_rows, good_tableau}
use Rattle.query.proofs.Good.{good-query, make-query}
use Rattle.query.proofs.Stored.{row_at}
use Rattle.query.proofs.Shape.{row_count, rows-length}
use Rattle.query.proofs.Codes.{code_same}
use Rattle.join_search.specs.internal.Search.{is_first, some_of}
use Rattle.tableaux.specs.internal.Codes.{same_on}
use Rattle.tableaux.proofs.Columns.{columns-range}
use Rattle.join_search.proofs.Search.{some_is, is_some}
use Rattle.join_step.specs.internal.Step.{with_row, distinct_to}
use Rattle.tableaux.specs.internal.Codes.{codes_of}
use Rattle.join_step.proofs.Choosing.{code, no_row, Coded, all-columns, every_of}
use Rattle.join_step.proofs.Coded.{stored_row, tableau-coded}

-- ---- how it is made

-- There are at most as many rows as were gone through
pub distinct-size : (t : Tableau) (i : ℕ) → (distinct_to t i).size ≤ i
unfolding distinct_to
distinct-size t zero = omega arith
distinct-size t (suc i) =
    let before = distinct-size t i in
    bool_cases (is_first (codes_of t.cells) t.relations (get_or t.relations i 0) 255 i)
    (λ e. rw e (omega (arith, before))) (λ e. rw e (omega (arith, before)))

-- The next row is kept
pub distinct-keeps : (t : Tableau) (i : ℕ) → is_first (codes_of t.cells) t.relations (get_or t.relations i 0) 255 i ≡ true
    → distinct_to t (i + 1) ≡ with_row (distinct_to t i) (get_or t.relations i 0) (take 8 (drop (8 * i) t.cells))
unfolding distinct_to
distinct-keeps t i e = ap (distinct_to t) (add-one i) ∙ rw e

-- or is not
pub distinct-drops : (t : Tableau) (i : ℕ) → is_first (codes_of t.cells) t.relations (get_or t.relations i 0) 255 i ≡ false
    → distinct_to t (i + 1) ≡ distinct_to t i
unfolding distinct_to
distinct-drops t i e = ap (distinct_to t) (add-one i) ∙ rw e

-- ---- the rows that it stands for

-- What is good of a tableau's rows, whatever its head is
pub record RowsGood (schema : List ℕ) (t : Tableau) : Type 0 where
  pub relations-long : length t.relations ≡ 24
  pub cells-long : length t.cells ≡ 192
  pub fits : t.size ≤ 24
  pub rows : good_rows schema (take t.size t.relations) t.cells ≡ true
  pub named : every is_zero (drop t.size t.relations) ≡ true
  pub blank : every blank_cell (drop (8 * t.size) t.cells) ≡ true

-- The rows of a good tableau are
pub rows-of-good : (schema : List ℕ) (t : Tableau) → length t.relations ≡ 24 → length t.cells ≡ 192 → good_tableau schema t ≡ true → RowsGood schema t
rows-of-good schema t relations-long cells-long good =
    let g = good-query 24 schema (as_query t) good in
    record { relations-long = relations-long; cells-long = cells-long; fits = g.size; rows = g.rows; named = g.named; blank = g.cells }

-- A row of relation k with these cells
abbrev pub row_with : List ℕ → ℕ → List Cell → Row Entry
row_with schema k row = record { relation = k; values = entries_of (take (get_or schema k 0) row) }

module _ (schema : List ℕ) (narrow : (i : ℕ) → get_or schema i 0 ≤ 8) where
  -- Rows, and one more whose cells follow theirs
  rows_snoc : (rs : List ℕ) (k : ℕ) (xs ys zs : List Cell) → length xs ≡ 8 * length rs
      → rows_of schema (rs ++ k ∷ []) (xs ++ ys) ≡ rows_of schema rs (xs ++ zs) ++ row_with schema k ys ∷ []
  unfolding rows_of
  rows_snoc [] k xs ys zs long =
      let none : xs ≡ [] = length_none xs (omega (arith, long)) in
      ap (λ l. row_with schema k (l ++ ys) ∷ []) none
  rows_snoc (r ∷ rs) k xs ys zs long =
      let w = get_or schema r 0 in
      let eight : 8 ≤ length xs = omega (arith, long) in
      let wide : w ≤ length xs = omega (arith, eight, narrow r) in
      let rest : length (drop 8 xs) ≡ 8 * length rs = length-drop 8 xs ∙ omega (arith, long) in
      rw (take-append-le w xs ys wide, take-append-le w xs zs wide, drop-append-le 8 xs ys eight, drop-append-le 8 xs zs eight)
      (ap (λ l. record { relation = r; values = entries_of (take w xs) } ∷ l) (rows_snoc rs k (drop 8 xs) ys zs rest))

  good-snoc : (rs : List ℕ) (k : ℕ) (xs row ys zs : List Cell) → length xs ≡ 8 * length rs → length row ≡ 8 → good_rows schema rs (xs ++ zs) ≡ true
      → good_row schema k row ≡ true → good_rows schema (rs ++ k ∷ []) (xs ++ row ++ ys) ≡ true
  unfolding good_rows
  good-snoc [] k xs row ys zs long eight good more =
      let none : xs ≡ [] = length_none xs (omega (arith, long)) in
      let here : take 8 (xs ++ row ++ ys) ≡ row = ap (λ l. take 8 (l ++ row ++ ys)) none ∙ take_at row ys 8 eight in
      and_both (good_row schema k (take 8 (xs ++ row ++ ys))) true (ap (good_row schema k) here ∙ more) refl
  good-snoc (r ∷ rs) k xs row ys zs long eight good more =
      let enough : 8 ≤ length xs = omega (arith, long) in
      let rest : length (drop 8 xs) ≡ 8 * length rs = length-drop 8 xs ∙ omega (arith, long) in
      let a = good_row schema r (take 8 (xs ++ zs)) in
      let b = good_rows schema rs (drop 8 (xs ++ zs)) in
      let same_drop : drop 8 (xs ++ row ++ ys) ≡ drop 8 xs ++ row ++ ys =
      ap (drop 8) (append_assoc xs row ys) ∙ drop-append-le 8 xs (row ++ ys) enough ∙ sym (append_assoc (drop 8 xs) row ys) in
      let same-take : take 8 (xs ++ row ++ ys) ≡ take 8 (xs ++ zs) =
      ap (take 8) (append_assoc xs row ys) ∙ take-append-le 8 xs (row ++ ys) enough ∙ sym (take-append-le 8 xs zs enough) in
      and_both (good_row schema r (take 8 (xs ++ row ++ ys))) (good_rows schema (rs ++ k ∷ []) (drop 8 (xs ++ row ++ ys)))
      (ap (good_row schema r) same-take ∙ and_left a b good)
      (ap (good_rows schema (rs ++ k ∷ [])) same_drop
      ∙ good-snoc rs k (drop 8 xs) row ys zs rest eight (ap (good_rows schema rs) (sym (drop-append-le 8 xs zs enough)) ∙ and_right a b good) more)

  module _ (t : Tableau) (k : ℕ) (row : List Cell) (g : RowsGood schema t) (room : t.size < 24) (eight : length row ≡ 8) where
    at : ℕ
    at = 8 * t.size

    front_long : length (take at t.cells) ≡ 8 * length (take t.size t.relations)
    unfolding at
    front_long =
        length-take-le (8 * t.size) t.cells (omega (arith, g.cells-long))
        ∙ ap (λ n. 8 * n) (sym (length-take-le t.size t.relations (omega (arith, g.relations-long))))

    more-relations : take (t.size + 1) (set t.relations t.size k) ≡ take t.size t.relations ++ k ∷ []
    more-relations =
        ap (λ n. take n (set t.relations t.size k)) (add-one t.size) ∙ take-suc-set t.relations t.size k (omega (arith, g.relations-long))

    -- With a row more it has the rows and that one
    pub added-rows : rows_of schema (take (t.size + 1) (set t.relations t.size k)) (over t.cells (8 * t.size) row)
        ≡ rows_of schema (take t.size t.relations) t.cells ++ row_with schema k row ∷ []
    unfolding at
    added-rows =
        let xs = take at t.cells in
        let ys = drop (at + length row) t.cells in
        let w = get_or schema k 0 in
        ap₂ (rows_of schema) more-relations (append_assoc xs row ys)
        ∙ rows_snoc (take t.size t.relations) k xs (row ++ ys) (drop at t.cells) front_long
        ∙ ap₂ (λ l m. rows_of schema (take t.size t.relations) l ++ record { relation = k; values = entries_of m } ∷ [])
        (take-append-drop at t.cells) (take-append-le w row ys (omega (arith, eight, narrow k)))

    -- and they are good if that one is
    pub added-good : good_row schema k row ≡ true → RowsGood schema (with_row t k row)
    unfolding at
    added-good good =
        let xs = take at t.cells in
        let ys = drop (at + length row) t.cells in
        let past : 8 * (t.size + 1) ≡ at + length row = omega (arith, eight) in
        let front : length xs ≡ at = length-take-le at t.cells (omega (arith, g.cells-long)) in
        record {
          relations-long = length-set t.relations t.size k ∙ g.relations-long;
          cells-long = over-length t.cells row at (omega (arith, g.cells-long, eight)) ∙ g.cells-long;
          fits = omega (arith, room);
          rows =
              ap (λ l. good_rows schema l (over t.cells at row)) more-relations
              ∙ good-snoc (take t.size t.relations) k xs row ys (drop at t.cells) front_long eight
              (ap (good_rows schema (take t.size t.relations)) (take-append-drop at t.cells) ∙ g.rows) good;
          named =
              ap (every is_zero) (drop-set-lt (t.size + 1) t.relations t.size k (omega arith) ∙ sym (drop-drop 1 t.size t.relations))
              ∙ every_drop is_zero 1 (drop t.size t.relations) g.named;
          blank =
              ap (every blank_cell) (ap (λ n. drop n (over t.cells at row)) past
              ∙ drop_at (xs ++ row) ys (at + length row) (length-append xs row ∙ ap (λ n. n + length row) front)
              ∙ sym (drop-drop (length row) at t.cells))
              ∙ every_drop blank_cell (length row) (drop at t.cells) g.blank;
        }

-- The query that a tableau with a row more stands for, and that it is good
module _ (schema : List ℕ) (narrow : (i : ℕ) → get_or schema i 0 ≤ 8) (t : Tableau) (relations-long : length t.relations ≡ 24)
    (cells-long : length t.cells ≡ 192) (good : good_tableau schema t ≡ true) (room : t.size < 24) (k : ℕ) (row : List Cell) (eight : length row ≡ 8) where
  g : RowsGood schema t
  g = rows-of-good schema t relations-long cells-long good

  pub added-query : query_of schema (as_query (with_row t k row)) ≡ add_row (query_of schema (as_query t)) (row_with schema k row)
  added-query = ap (λ l. record { head = entries_of (take t.arity t.head); rows = l }) (added-rows schema narrow t k row g room eight)

  pub added-tableau : 0 < t.size → good_row schema k row ≡ true → good_tableau schema (with_row t k row) ≡ true
  added-tableau one good-row =
      let whole = good-query 24 schema (as_query t) good in
      let more = added-good schema narrow t k row g room eight good-row in
      make-query 24 schema (as_query (with_row t k row)) (record {
        arity = whole.arity;
        size = more.fits;
        head =
            ap (λ (b : Bool). in_use (cond b 0 t.arity) good_cell blank_cell t.head)
            (ne_eqb (t.size + 1) 0 (λ e. absurd (omega (arith, e))) ∙ sym (ne_eqb t.size 0 (λ e. absurd (omega (arith, e)))))
            ∙ whole.head;
        rows = more.rows;
        named = more.named;
        cells = more.blank;
      })

-- ---- repeated rows

-- The head is kept
distinct_head : (t : Tableau) (i : ℕ) → ((distinct_to t i).arity ≡ t.arity) × ((distinct_to t i).head ≡ t.head)
unfolding distinct_to
distinct_head t zero = (refl, refl)
distinct_head t (suc i) =
    let before = distinct_head t i in
    bool_cases (is_first (codes_of t.cells) t.relations (get_or t.relations i 0) 255 i)
    (λ e. rw e before) (λ e. rw e before)

module _ (schema : List ℕ) (narrow : (i : ℕ) → get_or schema i 0 ≤ 8) (t : Tableau) (relations-long : length t.relations ≡ 24)
    (cells-long : length t.cells ≡ 192) (good : good_tableau schema t ≡ true) where
  all : RowsGood schema t
  all = rows-of-good schema t relations-long cells-long good

  rows : List (Row Entry)
  rows = (query_of schema (as_query t)).rows

  count : length rows ≡ t.size
  unfolding rows
  count = row_count schema (as_query t) (omega (arith, all.fits, relations-long))

  coded : Coded schema rows (codes_of t.cells) t.relations
  unfolding rows
  coded = tableau-coded 24 schema narrow (as_query t) good (omega (arith, all.fits, relations-long)) (omega (arith, all.fits, cells-long))

  -- Rows of one relation with the same codes are one
  same-row : (i e : ℕ) → i < t.size → e < t.size → get_or t.relations e 0 ≡ get_or t.relations i 0 → same_on (codes_of t.cells) 255 i e ≡ true
      → get_or rows e no_row ≡ get_or rows i no_row
  same-row i e h l relation same =
      let r = get_or rows i no_row in
      let s = get_or rows e no_row in
      let hi : i < length rows = omega (arith, count) in
      let he : e < length rows = omega (arith, count) in
      let relations-same : s.relation ≡ r.relation = sym (coded.relation-is e he) ∙ relation ∙ coded.relation-is i hi in
      let wide-r = (coded.fit r (get_or-in rows i no_row hi)).1 in
      let wide-s = (coded.fit s (get_or-in rows e no_row he)).1 in
      let widths = ap (λ n. get_or schema n 0) relations-same in
      let values : s.values ≡ r.values =
      ext_get_or (constant 0) s.values r.values (wide-s ∙ widths ∙ sym wide-r)
      (λ c less.
      let low : c < 8 = omega (arith, wide-s, narrow s.relation) in
      sym (code_same (column (constant 0) r c) (column (constant 0) s c) (coded.within i c hi low) (coded.within e c he low)
      (sym (coded.code_is i c hi low)
      ∙ eqb-true _ _ (every-member (λ c. eqb (get_or (codes_of t.cells) (8 * i + c) 0) (get_or (codes_of t.cells) (8 * e + c) 0)) (columns_of 255) same
      (all-columns c low)) ∙ coded.code_is e c he low))) in
      λ m. record { relation = relations-same m; values = values m }

  row_same : (i e : ℕ) → i < t.size → e < t.size → get_or rows e no_row ≡ get_or rows i no_row
      → (get_or t.relations e 0 ≡ get_or t.relations i 0) × (same_on (codes_of t.cells) 255 i e ≡ true)
  row_same i e h l same =
      let hi : i < length rows = omega (arith, count) in
      let he : e < length rows = omega (arith, count) in (
        coded.relation-is e he ∙ ap (λ r. r.relation) same ∙ sym (coded.relation-is i hi),
        every_of (λ c. eqb (get_or (codes_of t.cells) (8 * i + c) 0) (get_or (codes_of t.cells) (8 * e + c) 0)) (columns_of 255) (λ c at.
            let range = columns-range 0 8 255 at in
            let low : c < 8 = omega (arith, range.1) in
            eq-eqb _ _ (coded.code_is i c hi low ∙ ap (λ r. code (column (constant 0) r c)) (sym same) ∙ sym (coded.code_is e c he low))),
      )

  module _ (i : ℕ) (h : i < t.size) where
    like : ℕ → Bool
    like e = eqb (get_or t.relations e 0) (get_or t.relations i 0) && same_on (codes_of t.cells) 255 i e

    short : length (take i rows) ≡ i
    short = length-take-le i rows (omega (arith, count))

    -- A row that is kept is none of those before it
    first-new : is_first (codes_of t.cells) t.relations (get_or t.relations i 0) 255 i ≡ true → get_or rows i no_row ∈ take i rows → ⊥
    unfolding like
    first-new first at =
        let found = in-get_or (take i rows) no_row at in
        let e = found.0 in
        let less : e < i = omega (arith, found.1, short) in
        let both = row_same i e h (omega (arith, less)) (sym (get_or-take i rows e no_row less) ∙ found.2) in
        let there = is_some like 0 i e (omega arith) (omega (arith, less))
        (and_both (eqb (get_or t.relations e 0) (get_or t.relations i 0)) (same_on (codes_of t.cells) 255 i e) (eq-eqb _ _ both.0) both.1) in
        true≢false (sym (and_right (eqb (get_or t.relations i 0) (get_or t.relations i 0)) (not (some_of like 0 i)) first) ∙ ap not there)

    -- and one that is not is one of them
    first-old : is_first (codes_of t.cells) t.relations (get_or t.relations i 0) 255 i ≡ false → get_or rows i no_row ∈ take i rows
    unfolding like
    first-old out =
        let there : some_of like 0 i ≡ true =
        bool_cases (some_of like 0 i) (λ p. p)
        (λ p. absurd (true≢false (sym (and_both (eqb (get_or t.relations i 0) (get_or t.relations i 0)) (not (some_of like 0 i))
        (eq-eqb (get_or t.relations i 0) (get_or t.relations i 0) refl) (ap not p)) ∙ out))) in
        let found = some_is like 0 i there in
        let e = found.0 in
        let less : e < i = omega (arith, found.2) in
        let known = eqb (get_or t.relations e 0) (get_or t.relations i 0) in
        let same = same_on (codes_of t.cells) 255 i e in
        Memᴰ.cast (sym (get_or-take i rows e no_row less
        ∙ same-row i e h (omega (arith, less)) (eqb-true _ _ (and_left known same found.3)) (and_right known same found.3)))
        (get_or-in (take i rows) e no_row (omega (arith, less, short)))

    -- The row by its cells
    row-cells : get_or rows i no_row ≡ row_with schema (get_or t.relations i 0) (take 8 (drop (8 * i) t.cells))
    unfolding rows
    row-cells =
        stored_row 24 schema narrow (as_query t) good (omega (arith, all.fits, relations-long)) (omega (arith, all.fits, cells-long)) i h
        ∙ ap (λ l. record { relation = get_or t.relations i 0; values = entries_of l })
        (sym (take-take (get_or schema (get_or t.relations i 0) 0) 8 (drop (8 * i) t.cells) (narrow (get_or t.relations i 0))))

    row-good : good_row schema (get_or t.relations i 0) (take 8 (drop (8 * i) t.cells)) ≡ true
    row-good =
        ap (λ k. good_row schema k (take 8 (drop (8 * i) t.cells))) (sym (get_or-take t.size t.relations i 0 h))
        ∙ row_at schema (take t.size t.relations) t.cells i all.rows
        (rw (length-take-le t.size t.relations (omega (arith, all.fits, relations-long))) h)

  -- What is kept of the first rows
  distinct-rows : (i : ℕ) → i ≤ t.size → RowsGood schema (distinct_to t i)
      × (rows_of schema (take (distinct_to t i).size (distinct_to t i).relations) (distinct_to t i).cells ≡ keep_first same_row [] (take i rows))
  unfolding distinct_to keep_first rows_of good_rows every
  distinct-rows zero low =
      (record { relations-long = refl; cells-long = refl; fits = omega arith; rows = refl; named = refl; blank = refl }, refl)
  distinct-rows (suc i) low =
      let before = distinct-rows i (omega arith) in
      let h : i < t.size = omega arith in
      let r = get_or rows i no_row in
      let k = get_or t.relations i 0 in
      let row = take 8 (drop (8 * i) t.cells) in
      let small = distinct-size t i in
      let room : (distinct_to t i).size < 24 = omega (arith, small, h, all.fits) in
      let eight : length row ≡ 8 = stretch-length (8 * i) 8 t.cells (omega (arith, h, all.fits, cells-long)) in
      let more : take (suc i) rows ≡ take i rows ++ r ∷ [] = take-suc rows i no_row (omega (arith, count)) in
      bool_cases (is_first (codes_of t.cells) t.relations k 255 i)
      (λ e. rw e (
        added-good schema narrow (distinct_to t i) k row before.0 room eight (row-good i h),
        added-rows schema narrow (distinct_to t i) k row before.0 room eight
            ∙ ap₂ (λ l s. l ++ s ∷ []) before.1 (sym (row-cells i h))
            ∙ sym (snoc_new same_row same_row-eq same_row-self (take i rows) r (first-new i h e)) ∙ ap (keep_first same_row []) (sym more),
      ))
      (λ e. rw e (
        before.0,
        before.1 ∙ sym (snoc-there same_row same_row-eq same_row-self (take i rows) r (first-old i h e)) ∙ ap (keep_first same_row []) (sym more),
      ))

  -- The tableau without repeated rows
  less : Tableau
  less = distinct_to t t.size

  less-rows : rows_of schema (take less.size less.relations) less.cells ≡ keep_first same_row [] rows
  unfolding less
  less-rows = (distinct-rows t.size (omega arith)).1 ∙ ap (keep_first same_row []) (take_all t.size rows (omega (arith, count)))

  less-good : RowsGood schema less
  unfolding less
  less-good = (distinct-rows t.size (omega arith)).0

  less-count : length (keep_first same_row [] rows) ≡ less.size
  less-count =
      sym (ap length less-rows) ∙ rows-length schema (take less.size less.relations) less.cells
      ∙ length-take-le less.size less.relations (omega (arith, less-good.fits, less-good.relations-long))

  -- It has no rows exactly where the tableau has none
  less_none : eqb less.size 0 ≡ eqb t.size 0
  less_none =
      let shorter = keep_first-length same_row [] rows in
      bool_cases (eqb t.size 0)
      (λ p. let none = eqb-true t.size 0 p in eq-eqb less.size 0 (omega (arith, none, shorter, count, less-count)) ∙ sym p)
      (λ p.
      let some-row = eqb-false t.size 0 p in
      let kept = keep_first-has same_row same_row-eq same_row-self [] rows (get_or rows 0 no_row) (get_or-in rows 0 no_row (omega (arith, some-row, count))) in
      let at = in-get_or (keep_first same_row [] rows) no_row kept in
      ne_eqb less.size 0 (λ e. absurd (omega (arith, e, at.1, less-count))) ∙ sym p)

  pub repeats-query : query_of schema (as_query (distinct_to t t.size))
      ≡ record { head = (query_of schema (as_query t)).head; rows = keep_first same_row [] (query_of schema (as_query t)).rows }
  unfolding less rows
  repeats-query =
      let kept = distinct_head t t.size in
      λ i. record { head = entries_of (take (kept.0 i) (kept.1 i)); rows = less-rows i }

  pub repeats-tableau : good_tableau schema (distinct_to t t.size) ≡ true
  unfolding less
  repeats-tableau =
      let whole = good-query 24 schema (as_query t) good in
      let kept = distinct_head t t.size in
      make-query 24 schema (as_query (distinct_to t t.size)) (record {
        arity = rw kept.0 whole.arity;
        size = less-good.fits;
        head =
            ap₂ (λ (n : ℕ) (l : List Cell). in_use (cond (eqb less.size 0) 0 n) good_cell blank_cell l) kept.0 kept.1
            ∙ ap (λ (b : Bool). in_use (cond b 0 t.arity) good_cell blank_cell t.head) less_none ∙ whole.head;
        rows = less-good.rows;
        named = less-good.named;
        cells = less-good.blank;
      })

  pub repeats-arity : (distinct_to t t.size).arity ≡ t.arity
  repeats-arity = (distinct_head t t.size).0

  pub repeats-long : (length (distinct_to t t.size).relations ≡ 24) × (length (distinct_to t t.size).cells ≡ 192)
  unfolding less
  repeats-long = (less-good.relations-long, less-good.cells-long)
