-- The codes of the cells of a good tableau are those of the entries of its rows, constant 0 where a row has no column. Assumes nothing.
use mathlib.Core.Path.{◌≡◌, refl, sym, ◌∙◌, ap, subst}
use mathlib.Core.Logic.{⊎_elim}
use mathlib.Core.Bool.{true}
use mathlib.Core.List.{List}
use Prim.Native.Nat.{ℕ, ◌+◌, ◌*◌, ◌-◌, ◌≤◌, ◌<◌}
use native.Mathlib.Omega.{arith}
use lib.ListN.{length, take, drop, get_or, length-take, length-map, get_or-map, get_or-eq_default}
use lib.Seq.{get_or-take, get_or-drop, length-take-le}
use Rattle.lists.proofs.Tests.{below-or-past, used-blank}
use Rattle.lists.proofs.Loops.{stretch-get_or}
use Rattle.lists.proofs.Positions.{every-get_or-else}
use Rattle.theory.specs.Query.{Entry, constant, Row, column}
use Rattle.theory.specs.Containment.{freeze}
use Rattle.query.specs.declared.Cell.{Cell}
use Rattle.query.specs.Types.{Query}
use Rattle.query.specs.View.{entry_of, entries_of, query_of}
use Rattle.query.specs.Rule.{good_cell, blank_cell, good_up_to, no_cell}
use Rattle.query.specs.internal.Code.{code_of}
use Rattle.query.proofs.Good.{good-query}
use Rattle.query.proofs.Stored.{Within, entry-within, row-good, all-cells, rows_fit}
use Rattle.query.proofs.Shape.{row_count, row_from, row_is, column-is, blank-cell}
use Rattle.tableaux.specs.internal.Codes.{codes_of}
use Rattle.join_step.proofs.Choosing.{no_row, Coded}

module _ (most : ℕ) (schema : List ℕ) (narrow : (i : ℕ) → get_or schema i 0 ≤ 8) (q : Query) (good : good_up_to most schema q ≡ true)
    (relations-long : q.size ≤ length q.relations) (cells-long : 8 * q.size ≤ length q.cells) where
  rows : List (Row Entry)
  rows = (query_of schema q).rows

  -- Row i begins at cell 8 * i
  pub stored_row : (i : ℕ) → i < q.size → get_or (query_of schema q).rows i no_row ≡ row_from schema q.cells (8 * i) (get_or q.relations i 0)
  stored_row i h =
      row_is schema (take q.size q.relations) q.cells i no_row (rw (length-take-le q.size q.relations relations-long) h)
      ∙ ap (row_from schema q.cells (8 * i)) (get_or-take q.size q.relations i 0 h)

  -- Column c of it is cell 8 * i + c
  pub stored-column : (i c : ℕ) → i < q.size → c < 8
      → column (constant 0) (get_or (query_of schema q).rows i no_row) c ≡ entry_of (get_or q.cells (8 * i + c) no_cell).entry
  stored-column i c h low =
      ap (λ r. column (constant 0) r c) (stored_row i h)
      ∙ ⊎_elim
      (λ less. column-is width (8 * i) q.cells c less)
      (λ past.
      get_or-eq_default (entries_of (take width (drop (8 * i) q.cells))) (constant 0)
      (omega (arith, past, length-map (take width (drop (8 * i) q.cells)) (λ (x : Cell). entry_of x.entry), short))
      ∙ sym (ap (λ (x : Cell). entry_of x.entry) (blank-cell (get_or q.cells (8 * i + c) no_cell) (blank-at past))))
      (below-or-past c width)
    where
      width : ℕ
      width = get_or schema (get_or q.relations i 0) 0

      short : length (take width (drop (8 * i) q.cells)) ≤ width
      short = rw length-take (omega arith)

      blank-at : width ≤ c → blank_cell (get_or q.cells (8 * i + c) no_cell) ≡ true
      blank-at past =
          let eight = take 8 (drop (8 * i) q.cells) in
          let blank = used-blank width good_cell blank_cell eight (row-good most schema q good i h relations-long).1 in
          let at : width + (c - width) ≡ c = omega arith in
          ap blank_cell (sym (get_or-drop width eight (c - width) no_cell ∙ ap (λ n. get_or eight n no_cell) at ∙ stretch-get_or (8 * i) 8 q.cells c no_cell low))
          ∙ every-get_or-else blank_cell (drop width eight) (c - width) no_cell blank refl

  pub tableau-coded : Coded schema (query_of schema q).rows (codes_of q.cells) q.relations
  tableau-coded =
      let count = row_count schema q relations-long in
      record {
        fit = λ r at.
            rows_fit schema narrow (take q.size q.relations) q.cells (rw length-take (omega (arith, cells-long)))
            (good-query most schema q good).rows at;
        relation-is = λ i h. ap (λ r. r.relation) (sym (stored_row i (omega (arith, count))));
        code_is = λ i c h low.
            get_or-map (λ (x : Cell). code_of x.entry) q.cells (8 * i + c) no_cell
            ∙ ap (freeze 2147483648) (sym (stored-column i c (omega (arith, count)) low));
        within = λ i c h low.
            subst Within (sym (stored-column i c (omega (arith, count)) low))
            (entry-within (get_or q.cells (8 * i + c) no_cell).entry
            (every-get_or-else good_cell q.cells (8 * i + c) no_cell (all-cells most schema q good relations-long) refl));
      }
