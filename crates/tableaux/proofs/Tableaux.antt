-- What a stored query and the tableau of it have in common: they stand for the same query, and one is good where the other is.
--   1. rows with more cells after theirs, 2. a query with more room, 3. the tableau of a query, 4. the query of a tableau.
-- Assumes nothing.
use mathlib.Core.Path.{◌≡◌, refl, sym, ap, ap₂, ◌∙◌}
use mathlib.Core.Bool.{Bool, true, ◌&&◌}
use mathlib.Core.List.{List, [], ◌∷◌, ◌++◌}
use Prim.Native.Nat.{ℕ, ◌*◌, ◌≤◌}
use native.Mathlib.Omega.{arith}
use lib.ListN.{length, take, drop, get_or, replicate, length-append, length-drop, length-take, take-append-drop}
use lib.Seq.{take-append-le, drop-append-le, length-take-le}
use Rattle.theory.specs.Query as theory
use Rattle.lists.specs.Tests.{every, is_zero}
use Rattle.query.specs.declared.Cell.{Cell}
use Rattle.query.specs.Types.{Query}
use Rattle.query.specs.Types.{Tableau}
use Rattle.query.specs.View.{entries_of, rows_of, query_of, as_query}
use Rattle.query.specs.Rule.{good_row, good_rows, good_up_to, good_query, good_tableau, blank_cell, no_cell, head_safe}
use Rattle.lists.proofs.Tests.{and_left, every_append, every-append-is, every-replicate}
use Rattle.query.proofs.Good.{good-query, make-query}
use Rattle.query.proofs.Shape.{SizedFor}
use Rattle.tableaux.specs.internal.Tableaux.{tableau_of, stored_of}

-- ---- 1. rows with more cells after theirs

module _ (schema : List ℕ) (more : List Cell) where
  rows-longer : ((i : ℕ) → get_or schema i 0 ≤ 8) → (rs : List ℕ) (cells : List Cell) → 8 * length rs ≤ length cells
      → rows_of schema rs (cells ++ more) ≡ rows_of schema rs cells
  unfolding rows_of
  rows-longer narrow [] cells long = refl
  rows-longer narrow (k ∷ rs) cells long =
      let w : ℕ = get_or schema k 0 in
      let first : take w (cells ++ more) ≡ take w cells = take-append-le w cells more (omega (arith, narrow k)) in
      let rest : rows_of schema rs (drop 8 (cells ++ more)) ≡ rows_of schema rs (drop 8 cells) =
      ap (rows_of schema rs) (drop-append-le 8 cells more (omega arith)) ∙ rows-longer narrow rs (drop 8 cells) (rw length-drop (omega arith))
      in
      ap₂ (λ (l : List Cell) (r : List (theory.Row theory.Entry)). record { relation = k; values = entries_of l } ∷ r) first rest

  good-longer : (rs : List ℕ) (cells : List Cell) → 8 * length rs ≤ length cells → good_rows schema rs (cells ++ more) ≡ good_rows schema rs cells
  unfolding good_rows
  good-longer [] cells long = refl
  good-longer (k ∷ rs) cells long =
      ap₂ (λ (l : List Cell) (b : Bool). good_row schema k l && b) (take-append-le 8 cells more (omega arith))
      (ap (good_rows schema rs) (drop-append-le 8 cells more (omega arith)) ∙ good-longer rs (drop 8 cells) (rw length-drop (omega arith)))

-- ---- 2. a query with more room

-- A query with more relations and cells after its own
abbrev longer : Query → List ℕ → List Cell → Query
longer q named more =
    record { arity = q.arity; size = q.size; head = q.head; relations = q.relations ++ named; cells = q.cells ++ more }

module _ (schema : List ℕ) (q : Query) (named : List ℕ) (more : List Cell) (rows : q.size ≤ length q.relations) (long : 8 * q.size ≤ length q.cells) where
  same-relations : take q.size (q.relations ++ named) ≡ take q.size q.relations
  same-relations = take-append-le q.size q.relations named rows

  inside : 8 * length (take q.size q.relations) ≤ length q.cells
  inside = rw (length-take-le q.size q.relations rows) long

  longer-query : ((i : ℕ) → get_or schema i 0 ≤ 8) → query_of schema (longer q named more) ≡ query_of schema q
  longer-query narrow =
      ap (λ (l : List (theory.Row theory.Entry)). record { head = entries_of (take q.arity q.head); rows = l })
      (ap (λ (rs : List ℕ). rows_of schema rs (q.cells ++ more)) same-relations
      ∙ rows-longer schema more narrow (take q.size q.relations) q.cells inside)

  same_rows : good_rows schema (take q.size (q.relations ++ named)) (q.cells ++ more) ≡ good_rows schema (take q.size q.relations) q.cells
  same_rows =
      ap (λ (rs : List ℕ). good_rows schema rs (q.cells ++ more)) same-relations
      ∙ good-longer schema more (take q.size q.relations) q.cells inside

  longer-good : (most fewest : ℕ) → q.size ≤ most → every is_zero named ≡ true → every blank_cell more ≡ true → good_up_to fewest schema q ≡ true
      → good_up_to most schema (longer q named more) ≡ true
  longer-good most fewest fits zeros blanks good =
      let p = good-query fewest schema q good in
      make-query most schema (longer q named more)
      (record {
        arity = p.arity;
        size = fits;
        head = p.head;
        rows = same_rows ∙ p.rows;
        named =
            ap (every is_zero) (drop-append-le q.size q.relations named rows)
            ∙ every_append is_zero (drop q.size q.relations) named p.named zeros;
        cells =
            ap (every blank_cell) (drop-append-le (8 * q.size) q.cells more long)
            ∙ every_append blank_cell (drop (8 * q.size) q.cells) more p.cells blanks;
      })

  shorter-good : (most fewest : ℕ) → q.size ≤ fewest → good_up_to most schema (longer q named more) ≡ true → good_up_to fewest schema q ≡ true
  shorter-good most fewest fits good =
      let p = good-query most schema (longer q named more) good in
      make-query fewest schema q
      (record {
        arity = p.arity;
        size = fits;
        head = p.head;
        rows = sym same_rows ∙ p.rows;
        named =
            and_left (every is_zero (drop q.size q.relations)) (every is_zero named)
            (sym (every-append-is is_zero (drop q.size q.relations) named)
            ∙ ap (every is_zero) (sym (drop-append-le q.size q.relations named rows)) ∙ p.named);
        cells =
            and_left (every blank_cell (drop (8 * q.size) q.cells)) (every blank_cell more)
            (sym (every-append-is blank_cell (drop (8 * q.size) q.cells) more)
            ∙ ap (every blank_cell) (sym (drop-append-le (8 * q.size) q.cells more long)) ∙ p.cells);
      })

-- A safe head is one of the query that is stood for
pub safe-same : (schema : List ℕ) (a b : Query) → query_of schema a ≡ query_of schema b → head_safe schema a ≡ head_safe schema b
unfolding head_safe
safe-same schema a b e =
    ap (λ (q : theory.Query). theory.subset (theory.variables_of q.head) (theory.variables_of (theory.row_entries q.rows))) e

-- ---- 3. the tableau of a query

module _ (schema : List ℕ) (q : Query) (sized : SizedFor 12 q) (good : good_query schema q ≡ true) where
  fits-12 : q.size ≤ 12
  fits-12 = (good-query 12 schema q good).size

  rows-12 : q.size ≤ length q.relations
  rows-12 = omega (arith, sized.relations, fits-12)

  cells-96 : 8 * q.size ≤ length q.cells
  cells-96 = omega (arith, sized.cells, fits-12)

  -- It stands for the query that the stored one stands for
  pub tableau-query : ((i : ℕ) → get_or schema i 0 ≤ 8) → query_of schema (as_query (tableau_of q)) ≡ query_of schema q
  tableau-query narrow = longer-query schema q (replicate 12 0) (replicate 96 no_cell) rows-12 cells-96 narrow

  -- It is good
  pub tableau-good : good_tableau schema (tableau_of q) ≡ true
  tableau-good =
      longer-good schema q (replicate 12 0) (replicate 96 no_cell) rows-12 cells-96 24 12 (omega (arith, fits-12)) (every-replicate is_zero 12 0 refl)
      (every-replicate blank_cell 96 no_cell refl) good

-- Its arrays are for 24 rows
pub tableau-sized : (q : Query) → SizedFor 12 q → SizedFor 24 (as_query (tableau_of q))
tableau-sized q sized =
    record {
      head = sized.head;
      relations = length-append q.relations (replicate 12 0) ∙ omega (arith, sized.relations);
      cells = length-append q.cells (replicate 96 no_cell) ∙ omega (arith, sized.cells);
    }

-- ---- 4. the query of a tableau

-- The tableau is the query with more room
room_back : (t : Tableau) → longer (stored_of t) (drop 12 t.relations) (drop 96 t.cells) ≡ as_query t
room_back t =
    λ i.
    record {
      arity = t.arity;
      size = t.size;
      head = t.head;
      relations = take-append-drop 12 t.relations i;
      cells = take-append-drop 96 t.cells i;
    }

module _ (schema : List ℕ) (t : Tableau) (sized : SizedFor 24 (as_query t)) (fits : t.size ≤ 12) where
  rows-first : t.size ≤ length (take 12 t.relations)
  rows-first = rw length-take (omega (arith, sized.relations))

  cells-first : 8 * t.size ≤ length (take 96 t.cells)
  cells-first = rw length-take (omega (arith, sized.cells))

  -- It stands for the query that the tableau stands for
  pub stored-query : ((i : ℕ) → get_or schema i 0 ≤ 8) → query_of schema (stored_of t) ≡ query_of schema (as_query t)
  stored-query narrow =
      sym (longer-query schema (stored_of t) (drop 12 t.relations) (drop 96 t.cells) rows-first cells-first narrow) ∙ ap (query_of schema) (room_back t)

  -- It is good where the tableau is
  pub stored-good : good_tableau schema t ≡ true → good_query schema (stored_of t) ≡ true
  stored-good good =
      shorter-good schema (stored_of t) (drop 12 t.relations) (drop 96 t.cells) rows-first cells-first 24 12 fits
      (ap (good_up_to 24 schema) (room_back t) ∙ good)

  -- Its head is safe where the tableau's is
  pub stored-safe : ((i : ℕ) → get_or schema i 0 ≤ 8) → head_safe schema (stored_of t) ≡ head_safe schema (as_query t)
  stored-safe narrow = safe-same schema (stored_of t) (as_query t) (stored-query narrow)

-- Its arrays are for 12 rows
pub stored-sized : (t : Tableau) → SizedFor 24 (as_query t) → SizedFor 12 (stored_of t)
stored-sized t sized =
    record {
      head = sized.head;
      relations = length-take-le 12 t.relations (omega (arith, sized.relations));
      cells = length-take-le 96 t.cells (omega (arith, sized.cells));
    }
