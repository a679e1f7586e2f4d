-- The entries of a query in one line are those of the theory's query, with constant 0 in the columns that are not in use:
--   1. blank elements, 2. one query, 3. rows of two queries, 4. a mapping of the theory, to the target or to some of its rows, is one by positions.
-- The lengths of arrays are the types', so the laws ask them.
use mathlib.Core.Path.{◌≡◌, sym, ◌∙◌, ap, subst}
use mathlib.Core.Bool.{Bool, true, false, cond}
use mathlib.Core.Logic.{⊎_elim}
use mathlib.Core.List.Memᴰ
use mathlib.Core.List.{List, [], ◌++◌, map}
use Prim.Native.Nat.{ℕ, ◌+◌, ◌*◌, ◌-◌, ◌/◌, ◌%◌, ◌≤◌, ◌<◌}
use native.Mathlib.Decide.{dec_lt}
use native.Mathlib.Omega.{arith}
use borrow.Author.Tests.{lt-ltb, le-ltb}
use lib.Dec.{eqb, lit<}
use lib.ListN.{get_or, length, take, drop, length-map, length-drop, get_or-map, get_or-eq_default}
use lib.Seq.{length-take-le, get_or-take, get_or-drop, ext_get_or}
use Rattle.theory.specs.Query as theory
use Rattle.theory.specs.Query.{constant, variable, map_row, variables, row_entries, ◌∈◌}
use Rattle.theory.specs.Answer.{value_of, IsMapping}
use Rattle.theory.proofs.Lists.{get_or-mem}
use Rattle.theory.proofs.Members.{row-of-entry}
use Rattle.theory.proofs.Entries.{constant-variable, variables_of-mem, mem-variables_of, row-row_entries}
use Rattle.query.specs.declared.Cell.{Cell}
use Rattle.query.specs.Types.{Query}
use Rattle.query.specs.View.{entry_of, query_of}
use Rattle.lists.specs.Tests.{every, in_use}
use Rattle.query.specs.Rule.{good_cell, blank_cell, head_in_use, good_up_to, good_query, no_cell}
use Rattle.lists.proofs.Tests.{below-or-past, every-get_or, used-blank, used_all}
use Rattle.lists.proofs.Positions.{get_or-in, in-get_or, length_none}
use Rattle.query.proofs.Good.{GoodUpTo, good-query}
use Rattle.query.proofs.Stored.{Within, entry-within, blank-good, row_at, row-parts}
use Rattle.query.proofs.Shape.{SizedFor, head-length, row_count, row_from, row_is, column-is, head-is, blank-cell}
use Rattle.mapping.specs.internal.Mapped.{Narrow}
use Rattle.mapping.specs.internal.Lines.{cell_at, entry_at}
use Rattle.mapping.proofs.Wide.{Wide}

-- ---- 1. blank elements

-- An element that a test of the part after n finds blank
blank-at : (cells : List Cell) (n i : ℕ) → every blank_cell (drop n cells) ≡ true → n ≤ i → i < length cells → get_or cells i no_cell ≡ no_cell
blank-at cells n i e h k =
    let back : n + (i - n) ≡ i = omega arith in
    ap (λ (j : ℕ). get_or cells j no_cell) (sym back) ∙ sym (get_or-drop n cells (i - n) no_cell)
    ∙ blank-cell (get_or (drop n cells) (i - n) no_cell) (every-get_or blank_cell (drop n cells) (i - n) no_cell e (rw length-drop (omega arith)))

-- ---- 2. one query

-- The cells of a query in one line, first those of the rows, then those of the head
cell_row : (most : ℕ) (q : Query) (k : ℕ) → k < 8 * most → cell_at most q k ≡ get_or q.cells k no_cell
cell_row most q k h = ap (λ (t : Bool). cond t (get_or q.cells k no_cell) (get_or q.head (k - 8 * most) no_cell)) (lt-ltb k (8 * most) h)

cell-head : (most : ℕ) (q : Query) (i : ℕ) → cell_at most q (8 * most + i) ≡ get_or q.head i no_cell
cell-head most q i =
    let back : 8 * most + i - 8 * most ≡ i = omega arith in
    ap (λ (t : Bool). cond t (get_or q.cells (8 * most + i) no_cell) (get_or q.head (8 * most + i - 8 * most) no_cell))
    (le-ltb (8 * most + i) (8 * most) (omega arith))
    ∙ ap (λ (j : ℕ). get_or q.head j no_cell) back

module _ (most : ℕ) (schema : List ℕ) (q : Query) (good : good_up_to most schema q ≡ true) (sizes : SizedFor most q) where
  parts : GoodUpTo most schema q
  parts = good-query most schema q good

  taken : (r : ℕ) → r < q.size → get_or (take q.size q.relations) r 0 ≡ get_or q.relations r 0
  taken r h = get_or-take q.size q.relations r 0 h

  named : (r : ℕ) → r < q.size → r < length (take q.size q.relations)
  named r h = rw (length-take-le q.size q.relations (omega (arith, parts.size, sizes.relations))) h

  -- A row's 8 cells are good, and blank past its width
  row-used : (r : ℕ) → r < q.size → in_use (get_or schema (get_or q.relations r 0) 0) good_cell blank_cell (take 8 (drop (8 * r) q.cells)) ≡ true
  row-used r h =
      subst (λ (k : ℕ). in_use (get_or schema k 0) good_cell blank_cell (take 8 (drop (8 * r) q.cells)) ≡ true) (taken r h)
      (row-parts schema (get_or (take q.size q.relations) r 0) (take 8 (drop (8 * r) q.cells))
      (row_at schema (take q.size q.relations) q.cells r parts.rows (named r h))).1

  stretch : (r : ℕ) → r < q.size → length (take 8 (drop (8 * r) q.cells)) ≡ 8
  stretch r h = length-take-le 8 (drop (8 * r) q.cells) (rw length-drop (omega (arith, parts.size, sizes.cells)))

  stretch-at : (r i : ℕ) → i < 8 → get_or (take 8 (drop (8 * r) q.cells)) i no_cell ≡ get_or q.cells (8 * r + i) no_cell
  stretch-at r i k = get_or-take 8 (drop (8 * r) q.cells) i no_cell k ∙ get_or-drop (8 * r) q.cells i no_cell

  pub row-blank : (r i : ℕ) → r < q.size → get_or schema (get_or q.relations r 0) 0 ≤ i → i < 8 → entry_at most q (8 * r + i) ≡ constant 0
  row-blank r i h past k =
      let w : ℕ = get_or schema (get_or q.relations r 0) 0 in
      ap (λ (c : Cell). entry_of c.entry)
      (cell_row most q (8 * r + i) (omega (arith, parts.size)) ∙ sym (stretch-at r i k)
      ∙ blank-at (take 8 (drop (8 * r) q.cells)) w i (used-blank w good_cell blank_cell (take 8 (drop (8 * r) q.cells)) (row-used r h)) past
      (rw (stretch r h) k))

  -- Past the rows, all is blank
  pub cells-blank : (k : ℕ) → 8 * q.size ≤ k → k < 8 * most → entry_at most q k ≡ constant 0
  cells-blank k past h =
      ap (λ (c : Cell). entry_of c.entry)
      (cell_row most q k h ∙ blank-at q.cells (8 * q.size) k parts.cells past (omega (arith, sizes.cells)))

  used-head : head_in_use q ≤ q.arity
  used-head = go (eqb q.size 0)
    where
      go : (t : Bool) → cond t 0 q.arity ≤ q.arity
      go true = omega arith
      go false = omega arith

  pub head-blank : (i : ℕ) → q.arity ≤ i → i < 8 → entry_at most q (8 * most + i) ≡ constant 0
  head-blank i past h =
      ap (λ (c : Cell). entry_of c.entry)
      (cell-head most q i
      ∙ blank-at q.head (head_in_use q) i (used-blank (head_in_use q) good_cell blank_cell q.head parts.head) (omega (arith, used-head))
      (omega (arith, sizes.head)))

  -- Every entry is within the limits
  row_within : (r i : ℕ) → r < q.size → i < 8 → Within (entry_at most q (8 * r + i))
  row_within r i h k =
      subst (λ (c : Cell). Within (entry_of c.entry)) (stretch-at r i k ∙ sym (cell_row most q (8 * r + i) (omega (arith, parts.size))))
      (entry-within (get_or (take 8 (drop (8 * r) q.cells)) i no_cell).entry
      (every-get_or good_cell (take 8 (drop (8 * r) q.cells)) i no_cell
      (used_all (get_or schema (get_or q.relations r 0) 0) good_cell blank_cell (take 8 (drop (8 * r) q.cells)) (λ c. blank-good c.entry) (row-used r h))
      (rw (stretch r h) k)))

  head-within : (i : ℕ) → i < 8 → Within (entry_at most q (8 * most + i))
  head-within i h =
      subst (λ (c : Cell). Within (entry_of c.entry)) (sym (cell-head most q i))
      (entry-within (get_or q.head i no_cell).entry
      (every-get_or good_cell q.head i no_cell (used_all (head_in_use q) good_cell blank_cell q.head (λ c. blank-good c.entry) parts.head)
      (omega (arith, sizes.head))))

  pub all-within : (k : ℕ) → k < 8 * most + 8 → Within (entry_at most q k)
  all-within k h = go (dec_lt k (8 * q.size)) (dec_lt k (8 * most))
    where
      go : Dec (k < 8 * q.size) → Dec (k < 8 * most) → Within (entry_at most q k)
      go (yes l) t = let e : 8 * (k / 8) + k % 8 ≡ k = omega arith in subst (λ (j : ℕ). Within (entry_at most q j)) e
          (row_within (k / 8) (k % 8) (omega arith) (omega arith))
      go (no l) (yes m) = subst Within (sym (cells-blank k (omega arith) m)) (lit< tt)
      go (no l) (no m) = let e : 8 * most + (k - 8 * most) ≡ k = omega arith in subst (λ (j : ℕ). Within (entry_at most q j)) e (head-within (k - 8 * most) (omega arith))

  -- ---- in a schema of at most 8 columns a relation

  module _ (narrow : Narrow schema) where
    -- Row r as the theory has it
    pub row-stored : (r : ℕ) (z : theory.Row theory.Entry) → r < q.size
        → get_or (query_of schema q).rows r z ≡ row_from schema q.cells (8 * r) (get_or q.relations r 0)
    row-stored r z h =
        row_is schema (take q.size q.relations) q.cells r z (named r h) ∙ ap (row_from schema q.cells (8 * r)) (taken r h)

    -- It is as long as its relation is wide
    pub row-long : (r : ℕ) → r < q.size
        → length (row_from schema q.cells (8 * r) (get_or q.relations r 0)).values ≡ get_or schema (get_or q.relations r 0) 0
    row-long r h =
        let w : ℕ = get_or schema (get_or q.relations r 0) 0 in
        length-map (take w (drop (8 * r) q.cells)) (λ (c : Cell). entry_of c.entry)
        ∙ length-take-le w (drop (8 * r) q.cells) (rw length-drop (omega (arith, parts.size, sizes.cells, narrow (get_or q.relations r 0))))

    -- and has its entries from 8 * r on
    pub row-entry : (r i : ℕ) → r < q.size → i < 8
        → get_or (row_from schema q.cells (8 * r) (get_or q.relations r 0)).values i (constant 0) ≡ entry_at most q (8 * r + i)
    row-entry r i h k = ⊎_elim
        (λ l.
        column-is (get_or schema (get_or q.relations r 0) 0) (8 * r) q.cells i l
        ∙ ap (λ (c : Cell). entry_of c.entry) (sym (cell_row most q (8 * r + i) (omega (arith, parts.size)))))
        (λ l.
        get_or-eq_default (row_from schema q.cells (8 * r) (get_or q.relations r 0)).values (constant 0) {n = i} (rw (row-long r h) l)
        ∙ sym (row-blank r i h l k))
        (below-or-past i (get_or schema (get_or q.relations r 0) 0))

    pub count-rows : length (query_of schema q).rows ≡ q.size
    count-rows = row_count schema q (omega (arith, parts.size, sizes.relations))

    pub long-head : length (query_of schema q).head ≡ q.arity
    long-head = head-length schema q (omega (arith, parts.arity, sizes.head))

    pub head-entry : (i : ℕ) → i < 8 → get_or (query_of schema q).head i (constant 0) ≡ entry_at most q (8 * most + i)
    head-entry i k = ⊎_elim
        (λ l. head-is schema q i l ∙ ap (λ (c : Cell). entry_of c.entry) (sym (cell-head most q i)))
        (λ l. get_or-eq_default (query_of schema q).head (constant 0) {n = i} (rw long-head l) ∙ sym (head-blank i l k))
        (below-or-past i q.arity)

    -- A variable of the query stands at a position
    pub variable-placed : (v : ℕ) → ((k : ℕ) → k < 8 * most + 8 → entry_at most q k ≡ variable v → ⊥) → v ∈ variables (query_of schema q) → ⊥
    variable-placed v none at =
        ⊎_elim
        (λ m.
        let w = in-get_or (query_of schema q).head (constant 0) m in
        let l : w.0 < q.arity = rw long-head at w.1 in
        none (8 * most + w.0) (omega (arith, parts.arity)) (sym (head-entry w.0 (omega (arith, parts.arity))) ∙ w.2))
        (λ m.
        let u = row-of-entry (query_of schema q).rows m in
        let x = in-get_or (query_of schema q).rows (row_from schema [] 0 0) u.1 in
        let r : x.0 < q.size = rw count-rows at x.1 in
        let same : u.0 ≡ row_from schema q.cells (8 * x.0) (get_or q.relations x.0 0) = sym x.2 ∙ row-stored x.0 (row_from schema [] 0 0) r in
        let y =
        in-get_or (row_from schema q.cells (8 * x.0) (get_or q.relations x.0 0)).values (constant 0)
        (subst (λ (row : theory.Row theory.Entry). variable v ∈ row.values) same u.2)
        in
        let c : y.0 < get_or schema (get_or q.relations x.0 0) 0 = rw (row-long x.0 r) at y.1 in
        let c8 : y.0 < 8 = omega (arith, narrow (get_or q.relations x.0 0)) in
        none (8 * x.0 + y.0) (omega (arith, parts.size)) (sym (row-entry x.0 y.0 r c8) ∙ y.2))
        (Memᴰ.append_cases (query_of schema q).head
        (variables_of-mem v ((query_of schema q).head ++ row_entries (query_of schema q).rows) at))

    -- and what stands at a position is a variable of the query
    pub placed-variable : (v k : ℕ) → k < 8 * most + 8 → entry_at most q k ≡ variable v → v ∈ variables (query_of schema q)
    placed-variable v k h is = mem-variables_of v ((query_of schema q).head ++ row_entries (query_of schema q).rows) (go (dec_lt k (8 * q.size)) (dec_lt k (8 * most)))
      where
        zero-not : entry_at most q k ≡ constant 0 → ⊥
        zero-not e = constant-variable 0 v (sym e ∙ is)

        go : Dec (k < 8 * q.size) → Dec (k < 8 * most) → variable v ∈ ((query_of schema q).head ++ row_entries (query_of schema q).rows)
        go (yes l) t =
            let r : k / 8 < q.size = omega arith in
            let e : 8 * (k / 8) + k % 8 ≡ k = omega arith in
            let row : theory.Row theory.Entry = row_from schema q.cells (8 * (k / 8)) (get_or q.relations (k / 8) 0) in
            let here : get_or row.values (k % 8) (constant 0) ≡ entry_at most q k = row-entry (k / 8) (k % 8) r (omega arith) ∙ ap (entry_at most q) e in
            let there : row ∈ (query_of schema q).rows =
            Memᴰ.cast (sym (row-stored (k / 8) (row_from schema [] 0 0) r)) (get_or-in (query_of schema q).rows (k / 8) (row_from schema [] 0 0) (rw count-rows r))
            in
            ⊎_elim (λ z. absurd (zero-not (sym here ∙ z)))
            (λ m.
            Memᴰ.append_right (query_of schema q).head
            (row-row_entries (query_of schema q).rows row (variable v) there (Memᴰ.cast (sym (here ∙ is)) m)))
            (get_or-mem row.values (k % 8) (constant 0))
        go (no l) (yes m) = absurd (zero-not (cells-blank k (omega arith) m))
        go (no l) (no m) =
            let e : 8 * most + (k - 8 * most) ≡ k = omega arith in
            let here : get_or (query_of schema q).head (k - 8 * most) (constant 0) ≡ entry_at most q k = head-entry (k - 8 * most) (omega arith) ∙ ap (entry_at most q) e in
            ⊎_elim (λ z. absurd (zero-not (sym here ∙ z)))
            (λ m. Memᴰ.append_left {s = (query_of schema q).head} (row_entries (query_of schema q).rows) (Memᴰ.cast (sym (here ∙ is)) m))
            (get_or-mem (query_of schema q).head (k - 8 * most) (constant 0))

-- ---- 3. rows of two queries

module _ (most : ℕ) (schema : List ℕ) (narrow : Narrow schema) (source target : Query) (good : good_query schema source ≡ true)
    (good' : good_up_to most schema target ≡ true) (sizes : SizedFor 12 source) (sizes' : SizedFor most target) where
  -- Row r of the source and row d of the target
  abbrev source_row : ℕ → theory.Row theory.Entry
  source_row r = row_from schema source.cells (8 * r) (get_or source.relations r 0)

  abbrev target_row : ℕ → theory.Row theory.Entry
  target_row d = row_from schema target.cells (8 * d) (get_or target.relations d 0)

  -- Under f a row is another exactly when the relations and the entries in all 8 places are
  row-places : (f : ℕ → theory.Entry) (r d : ℕ) → r < source.size → d < target.size → map_row (value_of constant f) (source_row r) ≡ target_row d
      → (i : ℕ) → i < 8 → value_of constant f (entry_at 12 source (8 * r + i)) ≡ entry_at most target (8 * d + i)
  row-places f r d h k e i l =
      ap (value_of constant f) (sym (row-entry 12 schema source good sizes narrow r i h l))
      ∙ sym (get_or-map (value_of constant f) (source_row r).values i (constant 0))
      ∙ ap (λ (row : theory.Row theory.Entry). get_or row.values i (constant 0)) e ∙ row-entry most schema target good' sizes' narrow d i k l

  places_row : (f : ℕ → theory.Entry) (r d : ℕ) → r < source.size → d < target.size → get_or source.relations r 0 ≡ get_or target.relations d 0
      → ((i : ℕ) → i < 8 → value_of constant f (entry_at 12 source (8 * r + i)) ≡ entry_at most target (8 * d + i))
      → map_row (value_of constant f) (source_row r) ≡ target_row d
  places_row f r d h k same at =
      let long : length (map (value_of constant f) (source_row r).values) ≡ get_or schema (get_or source.relations r 0) 0 =
      length-map (source_row r).values (value_of constant f) ∙ row-long 12 schema source good sizes narrow r h
      in
      let values : map (value_of constant f) (source_row r).values ≡ (target_row d).values =
      ext_get_or (constant 0) (map (value_of constant f) (source_row r).values) (target_row d).values
      (long ∙ ap (λ (n : ℕ). get_or schema n 0) same ∙ sym (row-long most schema target good' sizes' narrow d k))
      (λ i l.
      let l8 : i < 8 = omega (arith, narrow (get_or source.relations r 0), long) in
      get_or-map (value_of constant f) (source_row r).values i (constant 0) ∙ ap (value_of constant f) (row-entry 12 schema source good sizes narrow r i h l8)
      ∙ at i l8 ∙ sym (row-entry most schema target good' sizes' narrow d i k l8))
      in
      λ t. record { relation = same t; values = values t }

  -- ---- 4. a mapping of the theory is one by positions

  abbrev pub WideOf : (ℕ → theory.Entry) → Type 0
  WideOf f = Wide (8 * most) (entry_at 12 source) (entry_at most target) source.relations target.relations source.size target.size f

  -- The target's head with other rows
  abbrev pub target_with : List (theory.Row theory.Entry) → theory.Query
  target_with rows = record { head = (query_of schema target).head; rows = rows }

  -- Row r goes to row d of the target
  abbrev RowTo : (ℕ → theory.Entry) → ℕ → ℕ → Type 0
  RowTo f r d =
      (d < target.size) × (get_or source.relations r 0 ≡ get_or target.relations d 0)
      × ((i : ℕ) → i < 8 → value_of constant f (entry_at 12 source (8 * r + i)) ≡ entry_at most target (8 * d + i))

  -- A mapping to rows that stand in the target, at positions with a property, takes each row to one of these, and the head to the head
  pub part-wide : (f : ℕ → theory.Entry) (rows : List (theory.Row theory.Entry)) (z : theory.Row theory.Entry) (P : ℕ → Type 0)
      → ((row : theory.Row theory.Entry) → row ∈ rows → (d : ℕ) × (d < target.size) × P d × (get_or (query_of schema target).rows d z ≡ row))
      → IsMapping (query_of schema source) (target_with rows) f
      → ((i : ℕ) → i < 8 → value_of constant f (entry_at 12 source (96 + i)) ≡ entry_at most target (8 * most + i))
      × ((r : ℕ) → r < source.size → (d : ℕ) × RowTo f r d × P d)
  part-wide f rows z P there m = (
    (λ i l.
        ap (value_of constant f) (sym (head-entry 12 schema source good sizes narrow i l))
        ∙ sym (get_or-map (value_of constant f) (query_of schema source).head i (constant 0))
        ∙ ap (λ (es : List theory.Entry). get_or es i (constant 0)) m.carries.to-head ∙ head-entry most schema target good' sizes' narrow i l),
    (λ r h.
        let at : source_row r ∈ (query_of schema source).rows =
        Memᴰ.cast (sym (row-stored 12 schema source good sizes narrow r z h))
        (get_or-in (query_of schema source).rows r z (rw (count-rows 12 schema source good sizes narrow) h))
        in
        let w = there (map_row (value_of constant f) (source_row r)) (m.carries.to-rows (source_row r) at) in
        let same : map_row (value_of constant f) (source_row r) ≡ target_row w.0 =
        sym w.3 ∙ row-stored most schema target good' sizes' narrow w.0 z w.1 in
        (w.0, (w.1, ap (λ (row : theory.Row theory.Entry). row.relation) same, row-places f r w.0 h w.1 same), w.2)),
  )

  pub mapping-wide : (f : ℕ → theory.Entry) → IsMapping (query_of schema source) (query_of schema target) f → WideOf f
  mapping-wide f m =
      let z : theory.Row theory.Entry = source_row 0 in
      let part =
      part-wide f (query_of schema target).rows z (λ d. Unit {0})
      (λ row at.
      let w = in-get_or (query_of schema target).rows z at in
      (w.0, rw (count-rows most schema target good' sizes' narrow) at w.1, tt, w.2))
      m
      in
      record {
        some-row = some (dec_lt 0 source.size);
        rows = λ r h. let x = part.1 r h in (x.0, x.1.0, x.1.1, x.1.2);
        head = part.0;
        elsewhere = λ v none. m.elsewhere v (variable-placed 12 schema source good sizes narrow v none);
      }
    where
      some : Dec (0 < source.size) → 0 < source.size
      some (yes h) = h
      some (no h) =
          absurd (m.carries.not-never (length_none (query_of schema source).rows (count-rows 12 schema source good sizes narrow ∙ omega arith)))

  -- A mapping by positions that takes each row to a row of the target that is one of some rows is a mapping to these
  pub wide-part : (f : ℕ → theory.Entry) (rows : List (theory.Row theory.Entry)) (z : theory.Row theory.Entry) → source.arity ≡ target.arity → WideOf f
      → ((r : ℕ) → r < source.size → (d : ℕ) × RowTo f r d × (get_or (query_of schema target).rows d z ∈ rows))
      → IsMapping (query_of schema source) (target_with rows) f
  wide-part f rows z arity w lands =
      record {
        carries =
            record {
              not-never = λ e.
                  let none : source.size ≡ 0 = sym (count-rows 12 schema source good sizes narrow) ∙ ap length e in
                  omega (arith, w.some-row);
              to-head =
                  ext_get_or (constant 0) (map (value_of constant f) (query_of schema source).head) (query_of schema target).head
                  (length-map (query_of schema source).head (value_of constant f) ∙ long-head 12 schema source good sizes narrow ∙ arity
                  ∙ sym (long-head most schema target good' sizes' narrow))
                  (λ i l.
                  let l8 : i < 8 =
                  omega (
                    arith,
                    length-map (query_of schema source).head (value_of constant f),
                    long-head 12 schema source good sizes narrow,
                    (good-query 12 schema source good).arity,
                  )
                  in
                  get_or-map (value_of constant f) (query_of schema source).head i (constant 0)
                  ∙ ap (value_of constant f) (head-entry 12 schema source good sizes narrow i l8) ∙ w.head i l8
                  ∙ sym (head-entry most schema target good' sizes' narrow i l8));
              to-rows = λ row at.
                  let u = in-get_or (query_of schema source).rows z at in
                  let h : u.0 < source.size = rw (count-rows 12 schema source good sizes narrow) at u.1 in
                  let here : row ≡ source_row u.0 = sym u.2 ∙ row-stored 12 schema source good sizes narrow u.0 z h in
                  let x = lands u.0 h in
                  Memᴰ.cast
                  (ap (map_row (value_of constant f)) here ∙ places_row f u.0 x.0 h x.1.0 x.1.1 x.1.2
                  ∙ sym (row-stored most schema target good' sizes' narrow x.0 z x.1.0)) x.2;
            };
        elsewhere = λ v out. w.elsewhere v (λ k h is. out (placed-variable 12 schema source good sizes narrow v k h is));
      }

  pub wide-mapping : (f : ℕ → theory.Entry) → source.arity ≡ target.arity → WideOf f → IsMapping (query_of schema source) (query_of schema target) f
  wide-mapping f arity w =
      let z : theory.Row theory.Entry = source_row 0 in
      wide-part f (query_of schema target).rows z arity w
      (λ r h.
      let x = w.rows r h in
      (x.0, (x.1, x.2, x.3), get_or-in (query_of schema target).rows x.0 z (rw (count-rows most schema target good' sizes' narrow) x.1)))

  -- A mapping has heads of one length
  pub mapping-arity : (f : ℕ → theory.Entry) → IsMapping (query_of schema source) (query_of schema target) f → source.arity ≡ target.arity
  mapping-arity f m =
      sym (long-head 12 schema source good sizes narrow) ∙ sym (length-map (query_of schema source).head (value_of constant f)) ∙ ap length m.carries.to-head
      ∙ long-head most schema target good' sizes' narrow
