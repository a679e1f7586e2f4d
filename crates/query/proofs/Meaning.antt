-- The statements of `specs/Meaning`. A stored query can be recovered from the query that it stands for:
--   1. the cells of entries, 2. the cells of rows, 3. the whole query. Assumes nothing.
use mathlib.Core.Path.{◌≡◌, refl, sym, ap, ap₂, ◌∙◌}
use mathlib.Core.Bool.{Bool, true, false, cond}
use mathlib.Core.List.{List, [], ◌∷◌, ◌++◌, map}
use Prim.Native.Nat.{ℕ, ◌+◌, ◌*◌, ◌-◌, ◌≤◌}
use native.Mathlib.Omega.{arith}
use lib.Dec.{eqb}
use lib.ListN.{length, length-map, take, drop, get_or, replicate, length-drop}
use lib.Seq.{length-take-le, take-add, take-take}
use Rattle.lists.specs.Tests.{every}
use Rattle.lists.proofs.Tests.{used-blank, padded, every_drop}
use Rattle.query.specs.declared.Entry.{Entry}
use Rattle.query.specs.declared.Entry.TheVariants.{Constant, Variable}
use Rattle.query.specs.declared.Cell.{Cell}
use Rattle.query.specs.View.{entry_of, entries_of, rows_of, query_of}
use Rattle.query.specs.Rule.{good_cell, blank_cell, good_rows, head_in_use, no_cell}
use Rattle.query.specs.Stored.{entry_from, cells_from, row_cells, stored_form}
use Rattle.query.specs.Meaning.{StoredBack, StoredUnique}
use Rattle.query.proofs.Good.{good-query}
use Rattle.query.proofs.Stored.{row-parts, rows-first, rows-rest}
use Rattle.query.proofs.Shape.{shaped-sized, blank-cell, head-length, row_count, relations-padded, cells-padded}

-- ---- 1. entries

entry-back : (e : Entry) → entry_from (entry_of e) ≡ e
entry-back (Constant n) = refl
entry-back (Variable v) = refl

cells-back : (cells : List Cell) → map (λ e. record { entry = entry_from e }) (entries_of cells) ≡ cells
cells-back [] = refl
cells-back (c ∷ cs) = ap₂ (λ (d : Cell) (ds : List Cell). d ∷ ds) (λ i. record { entry = entry-back c.entry i }) (cells-back cs)

-- An array of which the cells after the first n are blank is made of those
used-back : (n most : ℕ) (cells : List Cell) → length cells ≡ most → n ≤ most → every blank_cell (drop n cells) ≡ true
    → cells_from most (entries_of (take n cells)) ≡ cells
used-back n most cells long few blank =
    let count : length (entries_of (take n cells)) ≡ n =
    length-map (take n cells) (λ (c : Cell). entry_of c.entry) ∙ length-take-le n cells (omega arith)
    in
    ap₂ (λ (l : List Cell) (k : ℕ). l ++ replicate k no_cell) (cells-back (take n cells)) (ap₂ (λ (a b : ℕ). a - b) (sym long) count)
    ∙ sym (padded n good_cell blank_cell cells no_cell blank-cell blank)

-- ---- 2. rows

rows-relations : (schema rs : List ℕ) (cells : List Cell) → map (λ r. r.relation) (rows_of schema rs cells) ≡ rs
unfolding rows_of
rows-relations schema [] cells = refl
rows-relations schema (k ∷ rs) cells = ap (λ (l : List ℕ). k ∷ l) (rows-relations schema rs (drop 8 cells))

module _ (schema : List ℕ) (narrow : (i : ℕ) → get_or schema i 0 ≤ 8) where
  rows-back : (rs : List ℕ) (cells : List Cell) → 8 * length rs ≤ length cells → good_rows schema rs cells ≡ true
      → row_cells (rows_of schema rs cells) ≡ take (8 * length rs) cells
  unfolding rows_of row_cells
  rows-back [] cells long good = refl
  rows-back (k ∷ rs) cells long good =
      let w : ℕ = get_or schema k 0 in
      let more : 8 * length (k ∷ rs) ≡ 8 + 8 * length rs = omega arith in
      ap₂ (λ (xs ys : List Cell). xs ++ ys)
      (ap (λ (xs : List Cell). cells_from 8 (entries_of xs)) (sym (take-take w 8 cells (narrow k)))
      ∙ used-back w 8 (take 8 cells) (length-take-le 8 cells (omega arith)) (narrow k)
      (used-blank w good_cell blank_cell (take 8 cells) (row-parts schema k (take 8 cells) (rows-first schema k rs cells good)).1))
      (rows-back rs (drop 8 cells) (rw length-drop (omega arith)) (rows-rest schema k rs cells good))
      ∙ sym (ap (λ (n : ℕ). take n cells) more ∙ take-add 8 (8 * length rs) cells)

-- ---- 3. the query

-- A good query is the stored form of the query that it stands for
pub stored-back : StoredBack
stored-back most schema narrow q shaped good =
    let s = shaped-sized most q shaped in
    let g = good-query most schema q good in
    let arity : length (query_of schema q).head ≡ q.arity = head-length schema q (omega (arith, g.arity, s.head)) in
    let size : length (query_of schema q).rows ≡ q.size = row_count schema q (omega (arith, g.size, s.relations)) in
    let named : length (take q.size q.relations) ≡ q.size = length-take-le q.size q.relations (omega (arith, g.size, s.relations)) in
    let head : cells_from 8 (query_of schema q).head ≡ q.head =
    used-back q.arity 8 q.head s.head g.arity (past-head (eqb q.size 0) (used-blank (head_in_use q) good_cell blank_cell q.head g.head))
    in
    let relations : map (λ r. r.relation) (query_of schema q).rows ++ replicate (most - length (query_of schema q).rows) 0 ≡ q.relations =
    ap₂ (λ (l : List ℕ) (n : ℕ). l ++ replicate n 0) (rows-relations schema (take q.size q.relations) q.cells)
    (ap₂ (λ (a b : ℕ). a - b) (sym s.relations) size)
    ∙ sym (relations-padded most schema q good)
    in
    let cells : row_cells (query_of schema q).rows ++ replicate (8 * (most - length (query_of schema q).rows)) no_cell ≡ q.cells =
    ap₂ (λ (l : List Cell) (n : ℕ). l ++ replicate n no_cell)
    (rows-back schema narrow (take q.size q.relations) q.cells (omega (arith, named, g.size, s.cells)) g.rows ∙ ap (λ (n : ℕ). take (8 * n) q.cells) named)
    (omega (arith, s.cells, size))
    ∙ sym (cells-padded most schema q good)
    in
    λ i. record { arity = arity i; size = size i; head = head i; relations = relations i; cells = cells i }
  where
    -- Of never all head cells are blank
    past-head : (t : Bool) → every blank_cell (drop (cond t 0 q.arity) q.head) ≡ true → every blank_cell (drop q.arity q.head) ≡ true
    past-head true blank = every_drop blank_cell q.arity q.head blank
    past-head false blank = blank

-- so it is determined by it
pub stored-unique : StoredUnique
stored-unique most schema narrow a b shaped-a shaped-b good-a good-b e =
    sym (stored-back most schema narrow a shaped-a good-a) ∙ ap (stored_form most) e ∙ stored-back most schema narrow b shaped-b good-b
