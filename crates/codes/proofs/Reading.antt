-- The cells of a stored query's rows as they are read: what a loop over the rows makes, what they stand for, and that they keep the limits. Assumes nothing.
use mathlib.Core.Path.{◌≡◌, refl, sym, ap, ap₂, ◌∙◌}
use mathlib.Core.Bool.{Bool, true, false, cond}
use mathlib.Core.List.{List, [], ◌∷◌, ◌++◌, map, append_assoc, append-nil, map-append}
use Prim.Native.Nat.{ℕ, ◌+◌, ◌*◌, ◌-◌, ◌≤◌, ◌<◌}
use native.Mathlib.Omega.{arith}
use lib.Dec.{eqb, leb, ltb}
use borrow.Author.Tests.{lt-ltb, eqb-true, eqb-false}
use native.Mathlib.Numerals.{add-one}
use lib.ListN.{length, length-map, length-append, length-drop, take, drop, get_or, take-append-drop, drop_of_length-le}
use lib.Seq.{take-suc, drop-append-le, length-take-le, take-append_seam, drop-append_seam, take-append-add, drop-append-add, drop-drop, take-take}
use borrow.Rule.Slice.PartMut.{put_mid, Post-is}
use Rattle.lists.specs.Tests.{every, in_use}
use Rattle.lists.proofs.Tests.{and_left, and_right, and_both, used-good, used-blank}
use Rattle.lists.proofs.Maps.{every_map}
use Rattle.query.specs.declared.Entry as stored
use Rattle.query.specs.declared.Entry.TheVariants.{Constant, Variable}
use Rattle.query.specs.declared.Cell.{Cell}
use Rattle.query.specs.View.{entry_of, entries_of, rows_of, query_of}
use Rattle.query.specs.Types.{Query}
use Rattle.query.specs.Rule.{good_entry, good_cell, blank_cell, good_row, good_rows, good_query, head_in_use, head_safe}
use Rattle.query.proofs.Good.{GoodUpTo, good-query, make-query}
use Rattle.query.proofs.Shape.{SizedFor}
use Rattle.query.proofs.Shape as Shape
use Rattle.query.proofs.Stored.{row-parts, rows-first, rows-rest}
use Rattle.theory.specs.Query.{Entry, constant, variable, Row, map_row, row_entries, variables_of, subset}
use Rattle.theory.specs.Query as theory
use Rattle.theory.specs.Codes.{CodePair, read_code, read_entry, read_head, read_query}
use Rattle.codes.specs.internal.Codes.{read_stored, read_cell, read_row, read_rows}

-- ---- one entry

pub entry-read : (ps : List CodePair) (e : stored.Entry) → entry_of (read_stored ps e) ≡ read_entry ps (entry_of e)
entry-read ps (Constant n) = refl
entry-read ps (Variable v) = refl

pub entries-read : (ps : List CodePair) (cells : List Cell) → entries_of (map (read_cell ps) cells) ≡ map (read_entry ps) (entries_of cells)
entries-read ps [] = refl
entries-read ps (c ∷ cs) = ap₂ (λ (e : Entry) (es : List Entry). e ∷ es) (entry-read ps c.entry) (entries-read ps cs)

pub all-rows : (rs : List ℕ) (n : ℕ) → length rs ≤ n → take n rs ≡ rs
all-rows rs n h = sym (append-nil (take n rs)) ∙ ap (λ (l : List ℕ). take n rs ++ l) (sym (drop_of_length-le rs h)) ∙ take-append-drop n rs

module _ (ps : List CodePair) where
  -- ---- one row

  module _ (width : ℕ) (narrow : width ≤ 8) (cells : List Cell) (long : 8 ≤ length cells) where
    front : length (map (read_cell ps) (take width cells)) ≡ width
    front = length-map (take width cells) (read_cell ps) ∙ length-take-le width cells (omega arith)

    row-length : length (read_row ps width cells) ≡ 8
    row-length =
        length-append (map (read_cell ps) (take width cells)) (drop width (take 8 cells))
        ∙ ap₂ (λ (a b : ℕ). a + b) front (length-drop width (take 8 cells) ∙ ap (λ (n : ℕ). n - width) (length-take-le 8 cells long))
        ∙ omega arith

    -- The row's cells in their place
    row-whole : read_row ps width cells ++ drop 8 cells ≡ map (read_cell ps) (take width cells) ++ drop width cells
    row-whole =
        append_assoc (map (read_cell ps) (take width cells)) (drop width (take 8 cells)) (drop 8 cells)
        ∙ ap (λ (l : List Cell). map (read_cell ps) (take width cells) ++ l)
        (sym (drop-append-le width (take 8 cells) (drop 8 cells) (rw (length-take-le 8 cells long) narrow)) ∙ ap (drop width) (take-append-drop 8 cells))

    -- Its first cells are those that are read, and the others are as they were
    row-front : (rest : List Cell) → take width (read_row ps width cells ++ rest) ≡ map (read_cell ps) (take width cells)
    row-front rest =
        ap₂ take (sym front) (append_assoc (map (read_cell ps) (take width cells)) (drop width (take 8 cells)) rest)
        ∙ take-append_seam (map (read_cell ps) (take width cells)) (drop width (take 8 cells) ++ rest)

    row-back : drop width (read_row ps width cells) ≡ drop width (take 8 cells)
    row-back =
        ap (λ (n : ℕ). drop n (read_row ps width cells)) (sym front)
        ∙ drop-append_seam (map (read_cell ps) (take width cells)) (drop width (take 8 cells))

    row-alone : (rest : List Cell) → take 8 (read_row ps width cells ++ rest) ≡ read_row ps width cells
    row-alone rest = ap (λ (n : ℕ). take n (read_row ps width cells ++ rest)) (sym row-length) ∙ take-append_seam (read_row ps width cells) rest

    row-behind : (rest : List Cell) → drop 8 (read_row ps width cells ++ rest) ≡ rest
    row-behind rest = ap (λ (n : ℕ). drop n (read_row ps width cells ++ rest)) (sym row-length) ∙ drop-append_seam (read_row ps width cells) rest

  -- ---- a loop over the rows

  -- The cells of one row from a position on read, in their place
  abbrev pub put_row : ℕ → ℕ → List Cell → List Cell
  put_row width start cells = take start cells ++ (map (read_cell ps) (take width (drop start cells)) ++ drop (start + width) cells)

  shifted : (width start : ℕ) (b cells : List Cell) → length b ≡ 8 → put_row width (8 + start) (b ++ cells) ≡ b ++ put_row width start cells
  shifted width start b cells eight =
      let first : take (8 + start) (b ++ cells) ≡ b ++ take start cells = ap (λ (n : ℕ). take (n + start) (b ++ cells)) (sym eight) ∙ take-append-add b cells start in
      let mid : drop (8 + start) (b ++ cells) ≡ drop start cells = ap (λ (n : ℕ). drop (n + start) (b ++ cells)) (sym eight) ∙ drop-append-add b cells start in
      let same : 8 + start + width ≡ length b + (start + width) = omega (arith, eight) in
      let last : drop (8 + start + width) (b ++ cells) ≡ drop (start + width) cells =
      ap (λ (n : ℕ). drop n (b ++ cells)) same ∙ drop-append-add b cells (start + width)
      in
      ap₂ (λ (xs ys : List Cell). xs ++ ys) first (ap₂ (λ (xs ys : List Cell). map (read_cell ps) (take width xs) ++ ys) mid last)
      ∙ append_assoc b (take start cells) (map (read_cell ps) (take width (drop start cells)) ++ drop (start + width) cells)

  module _ (widths : List ℕ) (narrow : (i : ℕ) → get_or widths i 0 ≤ 8) where
    -- One row more
    rows-more : (rs : List ℕ) (r : ℕ) (cells : List Cell) → 8 * length rs + 8 ≤ length cells
        → read_rows ps widths (rs ++ r ∷ []) cells ≡ put_row (get_or widths r 0) (8 * length rs) (read_rows ps widths rs cells)
    unfolding read_rows
    rows-more [] r cells long =
        row-whole (get_or widths r 0) (narrow r) cells (omega arith)
        ∙ ap (λ (n : ℕ). map (read_cell ps) (take (get_or widths r 0) cells) ++ drop n cells) (omega arith)
    rows-more (q ∷ qs) r cells long =
        let b = read_row ps (get_or widths q 0) cells in
        let next : 8 * length (q ∷ qs) ≡ 8 + 8 * length qs = omega arith in
        ap (λ (l : List Cell). b ++ l) (rows-more qs r (drop 8 cells) (rw length-drop (omega arith)))
        ∙ sym (shifted (get_or widths r 0) (8 * length qs) b (read_rows ps widths qs (drop 8 cells)) (row-length (get_or widths q 0) (narrow q) cells (omega arith)))
        ∙ ap (λ (n : ℕ). put_row (get_or widths r 0) n (b ++ read_rows ps widths qs (drop 8 cells))) (sym next)

    pub rows-length : (rs : List ℕ) (cells : List Cell) → 8 * length rs ≤ length cells → length (read_rows ps widths rs cells) ≡ length cells
    unfolding read_rows
    rows-length [] cells long = refl
    rows-length (r ∷ rs) cells long =
        length-append (read_row ps (get_or widths r 0) cells) (read_rows ps widths rs (drop 8 cells))
        ∙ ap₂ (λ (a b : ℕ). a + b) (row-length (get_or widths r 0) (narrow r) cells (omega arith))
        (rows-length rs (drop 8 cells) (rw length-drop (omega arith)) ∙ length-drop 8 cells)
        ∙ omega arith

    -- A loop that has read the first rows reads the next
    pub rows-step : (rs : List ℕ) (cells before new : List Cell) (i width : ℕ) → i < length rs → 8 * length rs ≤ length cells
        → width ≡ get_or widths (get_or rs i 0) 0 → before ≡ read_rows ps widths (take i rs) cells
        → new ≡ map (read_cell ps) (take (8 * i + width - 8 * i) (drop (8 * i) before))
        → put_mid (8 * i) (8 * i + width - 8 * i) before new ≡ read_rows ps widths (take (i + 1) rs) cells
    rows-step rs cells before new i width h long is was told =
        let count : length (take i rs) ≡ i = length-take-le i rs (omega arith) in
        let w : 8 * i + width - 8 * i ≡ width = omega arith in
        let placed : put_mid (8 * i) (8 * i + width - 8 * i) before new ≡ put_row width (8 * i) before =
        ap₂ (λ (xs ys : List Cell). take (8 * i) before ++ (xs ++ ys)) (told ∙ ap (λ (n : ℕ). map (read_cell ps) (take n (drop (8 * i) before))) w)
        (Post-is (8 * i) (8 * i + width) before (omega arith))
        in
        placed
        ∙ ap₂ (λ (n : ℕ) (xs : List Cell). put_row n (8 * i) xs) is was
        ∙ ap (λ (n : ℕ). put_row (get_or widths (get_or rs i 0) 0) (8 * n) (read_rows ps widths (take i rs) cells)) (sym count)
        ∙ sym (rows-more (take i rs) (get_or rs i 0) cells (omega (arith, count)))
        ∙ ap (λ (l : List ℕ). read_rows ps widths l cells) (sym (ap (λ (n : ℕ). take n rs) (add-one i) ∙ take-suc rs i 0 h))

    -- ---- what they stand for

    pub rows-read : (rs : List ℕ) (cells : List Cell) → 8 * length rs ≤ length cells
        → rows_of widths rs (read_rows ps widths rs cells) ≡ map (map_row (read_entry ps)) (rows_of widths rs cells)
    unfolding read_rows rows_of
    rows-read [] cells long = refl
    rows-read (r ∷ rs) cells long =
        let w = get_or widths r 0 in
        let rest = read_rows ps widths rs (drop 8 cells) in
        ap₂ (λ (es : List Cell) (rows : List Cell). record { relation = r; values = entries_of es } ∷ rows_of widths rs rows)
        (row-front w (narrow r) cells (omega arith) rest) (row-behind w (narrow r) cells (omega arith) rest)
        ∙ ap₂ (λ (es : List Entry) (rows : List (Row Entry)). record { relation = r; values = es } ∷ rows)
        (entries-read ps (take w cells)) (rows-read rs (drop 8 cells) (rw length-drop (omega arith)))

    -- Behind them all is as it was
    pub rows-past : (rs : List ℕ) (cells : List Cell) → 8 * length rs ≤ length cells
        → drop (8 * length rs) (read_rows ps widths rs cells) ≡ drop (8 * length rs) cells
    unfolding read_rows
    rows-past [] cells long = refl
    rows-past (r ∷ rs) cells long =
        let w = get_or widths r 0 in
        let rest = read_rows ps widths rs (drop 8 cells) in
        let next : 8 * length (r ∷ rs) ≡ 8 + 8 * length rs = omega arith in
        ap (λ (n : ℕ). drop n (read_row ps w cells ++ rest)) next
        ∙ sym (drop-drop (8 * length rs) 8 (read_row ps w cells ++ rest))
        ∙ ap (drop (8 * length rs)) (row-behind w (narrow r) cells (omega arith) rest)
        ∙ rows-past rs (drop 8 cells) (rw length-drop (omega arith)) ∙ drop-drop (8 * length rs) 8 cells ∙ ap (λ (n : ℕ). drop n cells) (sym next)

    -- ---- the limits

    module _ (limit : (c : Cell) → good_cell c ≡ true → good_cell (read_cell ps c) ≡ true) where
      pub cells-good : (cells : List Cell) → every good_cell cells ≡ true → every good_cell (map (read_cell ps) cells) ≡ true
      cells-good cells e = every_map good_cell good_cell (read_cell ps) limit cells e

      pub rows-good : (rs : List ℕ) (cells : List Cell) → 8 * length rs ≤ length cells → good_rows widths rs cells ≡ true
          → good_rows widths rs (read_rows ps widths rs cells) ≡ true
      unfolding read_rows good_rows
      rows-good [] cells long good = refl
      rows-good (r ∷ rs) cells long good =
          let w = get_or widths r 0 in
          let eight : 8 ≤ length cells = omega arith in
          let rest = read_rows ps widths rs (drop 8 cells) in
          let parts = row-parts widths r (take 8 cells) (rows-first widths r rs cells good) in
          let used : every good_cell (take w cells) ≡ true =
          ap (every good_cell) (sym (take-take w 8 cells (narrow r))) ∙ used-good w good_cell blank_cell (take 8 cells) parts.1
          in
          let first : take w (read_row ps w cells) ≡ map (read_cell ps) (take w cells) =
          ap (take w) (sym (append-nil (read_row ps w cells))) ∙ row-front w (narrow r) cells eight []
          in
          let row : good_row widths r (take 8 (read_row ps w cells ++ rest)) ≡ true =
          ap (good_row widths r) (row-alone w (narrow r) cells eight rest)
          ∙ and_both (ltb r (length widths)) (in_use w good_cell blank_cell (read_row ps w cells)) (lt-ltb r (length widths) parts.0)
          (and_both (every good_cell (take w (read_row ps w cells))) (every blank_cell (drop w (read_row ps w cells)))
          (ap (every good_cell) first ∙ cells-good (take w cells) used)
          (ap (every blank_cell) (row-back w (narrow r) cells eight) ∙ used-blank w good_cell blank_cell (take 8 cells) parts.1))
          in
          and_both (good_row widths r (take 8 (read_row ps w cells ++ rest))) (good_rows widths rs (drop 8 (read_row ps w cells ++ rest))) row
          (ap (good_rows widths rs) (row-behind w (narrow r) cells eight rest)
          ∙ rows-good rs (drop 8 cells) (rw length-drop (omega arith)) (rows-rest widths r rs cells good))

-- ---- a query

-- A number within the limit is read as one within it
read-limit : (ps : List CodePair) (n : ℕ) → every (λ p. leb p.current 2147483647) ps ≡ true → leb n 2147483647 ≡ true
    → leb (read_code ps n) 2147483647 ≡ true
unfolding read_code every
read-limit [] n all e = e
read-limit (p ∷ ps) n all e =
    either p.current (read_code ps n) (eqb n p.old) (and_left (leb p.current 2147483647) (every (λ p. leb p.current 2147483647) ps) all)
    (read-limit ps n (and_right (leb p.current 2147483647) (every (λ p. leb p.current 2147483647) ps) all) e)
  where
    either : (m k : ℕ) (b : Bool) → leb m 2147483647 ≡ true → leb k 2147483647 ≡ true → leb (cond b m k) 2147483647 ≡ true
    either m k true one other = one
    either m k false one other = other

entry-limit : (ps : List CodePair) (e : stored.Entry) → every (λ p. leb p.current 2147483647) ps ≡ true → good_entry e ≡ true
    → good_entry (read_stored ps e) ≡ true
entry-limit ps (Constant n) all e = read-limit ps n all e
entry-limit ps (Variable v) all e = e

-- A head of a query that is no never is read
head-read : (ps : List CodePair) (rows : List (Row Entry)) (head : List Entry) → 0 < length rows → read_head ps rows head ≡ map (read_entry ps) head
unfolding read_head
head-read ps [] head h = absurd (omega arith)
head-read ps (r ∷ rows) head h = refl

head-stays : (ps : List CodePair) (rows : List (Row Entry)) (head : List Entry) → length rows ≡ 0 → read_head ps rows head ≡ head
unfolding read_head
head-stays ps [] head e = refl
head-stays ps (r ∷ rows) head e = absurd (omega arith)

-- Reading keeps the variables
variables-read : (ps : List CodePair) (es : List Entry) → variables_of (map (read_entry ps) es) ≡ variables_of es
unfolding variables_of
variables-read ps [] = refl
variables-read ps (constant n ∷ es) = variables-read ps es
variables-read ps (variable v ∷ es) = ap (λ (vs : List ℕ). v ∷ vs) (variables-read ps es)

head-variables : (ps : List CodePair) (rows : List (Row Entry)) (head : List Entry) → variables_of (read_head ps rows head) ≡ variables_of head
unfolding read_head
head-variables ps [] head = refl
head-variables ps (r ∷ rows) head = variables-read ps head

row-entries-read : (ps : List CodePair) (rows : List (Row Entry)) → row_entries (map (map_row (read_entry ps)) rows) ≡ map (read_entry ps) (row_entries rows)
unfolding row_entries
row-entries-read ps [] = refl
row-entries-read ps (r ∷ rows) =
    ap (λ (es : List Entry). map (read_entry ps) r.values ++ es) (row-entries-read ps rows) ∙ sym (map-append (read_entry ps) r.values (row_entries rows))

-- so a safe head stays safe
pub safe-read : (ps : List CodePair) (schema : List ℕ) (q read : Query) → query_of schema read ≡ read_query ps (query_of schema q)
    → head_safe schema q ≡ true → head_safe schema read ≡ true
unfolding head_safe
safe-read ps schema q read is safe =
    let Q = query_of schema q in
    ap (λ (P : theory.Query). subset (variables_of P.head) (variables_of (row_entries P.rows))) is
    ∙ ap₂ subset (head-variables ps Q.rows Q.head) (ap variables_of (row-entries-read ps Q.rows) ∙ variables-read ps (row_entries Q.rows)) ∙ safe

module _ (ps : List CodePair) (schema : List ℕ) (narrow : (i : ℕ) → get_or schema i 0 ≤ 8) (q : Query) (sized : SizedFor 12 q)
    (good : good_query schema q ≡ true) where
  kept : GoodUpTo 12 schema q
  kept = good-query 12 schema q good

  abbrev pub named : List ℕ
  named = take q.size q.relations

  count : length named ≡ q.size
  count = length-take-le q.size q.relations (omega (arith, kept.size, sized.relations))

  room : 8 * length named ≤ length q.cells
  room = omega (arith, count, kept.size, sized.cells)

  -- The query as a call reads it
  abbrev pub as_read : Query
  as_read =
      record {
        arity = q.arity;
        size = q.size;
        head = map (read_cell ps) (take (head_in_use q) q.head) ++ drop (head_in_use q) q.head;
        relations = q.relations;
        cells = read_rows ps schema named q.cells;
      }

  -- No more head entries are in use than there is room for
  pub few-heads : head_in_use q ≤ length q.head
  few-heads = few (eqb q.size 0) where
    few : (b : Bool) → cond b 0 q.arity ≤ length q.head
    few true = omega arith
    few false = omega (arith, kept.arity, sized.head)

  heads : (rows : List (Row Entry)) → length rows ≡ q.size → entries_of (take q.arity as_read.head) ≡ read_head ps rows (entries_of (take q.arity q.head))
  heads rows size = by-size (eqb q.size 0) refl where
    by-size : (b : Bool) → eqb q.size 0 ≡ b
        → entries_of (take q.arity (map (read_cell ps) (take (cond (eqb q.size 0) 0 q.arity) q.head) ++ drop (cond (eqb q.size 0) 0 q.arity) q.head))
        ≡ read_head ps rows (entries_of (take q.arity q.head))
    by-size true e =
        let none : q.size ≡ 0 = eqb-true q.size 0 e in
        rw e (sym (head-stays ps rows (entries_of (take q.arity q.head)) (size ∙ none)))
    by-size false e =
        let some : q.size ≡ 0 → ⊥ = eqb-false q.size 0 e in
        let long : length (map (read_cell ps) (take q.arity q.head)) ≡ q.arity =
        length-map (take q.arity q.head) (read_cell ps) ∙ length-take-le q.arity q.head (omega (arith, kept.arity, sized.head))
        in
        rw e (
        ap (λ (n : ℕ). entries_of (take n (map (read_cell ps) (take q.arity q.head) ++ drop q.arity q.head))) (sym long)
        ∙ ap entries_of (take-append_seam (map (read_cell ps) (take q.arity q.head)) (drop q.arity q.head))
        ∙ entries-read ps (take q.arity q.head)
        ∙ sym (head-read ps rows (entries_of (take q.arity q.head)) (omega (arith, size, some)))
        )

  -- It stands for the query as it is read
  pub query-read : query_of schema as_read ≡ read_query ps (query_of schema q)
  query-read =
      ap₂ (λ (head : List Entry) (rows : List (Row Entry)). record { head = head; rows = rows })
      (heads (rows_of schema named q.cells) (Shape.rows-length schema named q.cells ∙ count)) (rows-read ps schema narrow named q.cells room)

  -- and keeps the limits
  pub query-good : every (λ p. leb p.current 2147483647) ps ≡ true → good_query schema as_read ≡ true
  query-good limit =
      let cell : (c : Cell) → good_cell c ≡ true → good_cell (read_cell ps c) ≡ true = λ c e. entry-limit ps c.entry limit e in
      let h = head_in_use q in
      let used = cells-good ps schema narrow cell (take h q.head) (used-good h good_cell blank_cell q.head kept.head) in
      let front : length (map (read_cell ps) (take h q.head)) ≡ h =
      length-map (take h q.head) (read_cell ps) ∙ length-take-le h q.head few-heads
      in
      let heads-good : in_use h good_cell blank_cell as_read.head ≡ true =
      and_both (every good_cell (take h as_read.head)) (every blank_cell (drop h as_read.head))
      (ap (λ (n : ℕ). every good_cell (take n as_read.head)) (sym front)
      ∙ ap (every good_cell) (take-append_seam (map (read_cell ps) (take h q.head)) (drop h q.head)) ∙ used)
      (ap (λ (n : ℕ). every blank_cell (drop n as_read.head)) (sym front)
      ∙ ap (every blank_cell) (drop-append_seam (map (read_cell ps) (take h q.head)) (drop h q.head))
      ∙ used-blank h good_cell blank_cell q.head kept.head)
      in
      make-query 12 schema as_read
      (record {
        arity = kept.arity;
        size = kept.size;
        head = heads-good;
        rows = rows-good ps schema narrow cell named q.cells room kept.rows;
        named = kept.named;
        cells =
            ap (λ (n : ℕ). every blank_cell (drop (8 * n) as_read.cells)) (sym count) ∙ ap (every blank_cell) (rows-past ps schema narrow named q.cells room)
            ∙ ap (λ (n : ℕ). every blank_cell (drop (8 * n) q.cells)) count ∙ kept.cells;
      })
