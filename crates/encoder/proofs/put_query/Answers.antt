-- ---- the pieces of a query
-- The head's bytes
use borrow.Author.Rules.{rules}
use mathlib.Core.Path.{◌≡◌, refl, sym, ap, ◌∙◌}
use mathlib.Core.Bool.{cond}
use mathlib.Core.List.{List, [], ◌∷◌, ◌++◌, flat_map}
use Prim.Native.Nat.{ℕ, zero, suc, ◌+◌, ◌*◌, ◌^◌, ◌≤◌, ◌<◌}
use native.Mathlib.Omega.{arith}
use lib.Dec.{eqb}
use lib.ListN.{length, take, drop, set, length-append, length-set}
use lib.Seq.{length-take-le}
use Rattle.query.specs.Types.{Query}
use Rattle.query.specs.declared.Cell.{Cell}
use Rattle.query.specs.View.{as_query}
use Rattle.lists.specs.Over.{over}
use Rattle.format.specs.Format.{byte, sequence, via, padded}
use Rattle.format.specs.Parts.{entry, entries, row, rows, chunk, query_for}
use Rattle.lists.proofs.Over.{over-length, over-over}
use Rattle.lists.proofs.Loops.{mapped-length}
use Rattle.format.proofs.Parts.{head_fits}
use Rattle.format.proofs.Lengths.{length-flat_map, length-query}
use Rattle.limits.specs.internal.Schema.{widths_in}
use Rattle.encoder.proofs.Stores.{length-cell, two-stores}
use Rattle.encoder.proofs.put_query.Goals as goal
use Rattle.encoder.proofs.put_query.Goals.{After-head_in_use-used, After-put_entries, Start}

abbrev head_bytes : ℕ → Query → List ℕ
head_bytes used q = flat_map entry.put (take used q.head)

-- The rows' bytes
abbrev row_bytes : List ℕ → Query → List ℕ
row_bytes schema q = flat_map (row schema).put (chunk (take q.size q.relations) q.cells)

-- The buffer after the first two bytes
abbrev opened : List ℕ → ℕ → Query → List ℕ
opened buffer at q = set (set buffer at q.arity) (at + 1) q.size

-- The first rows
chunk-first : (n : ℕ) (named : List ℕ) (cells : List Cell) → take n (chunk named cells) ≡ chunk (take n named) cells
unfolding chunk
chunk-first zero named cells = refl
chunk-first (suc n) [] cells = refl
chunk-first (suc n) (r ∷ named) cells = ap (λ (rs : List (ℕ × List Cell)). (r, take 8 cells) ∷ rs) (chunk-first n named (drop 8 cells))

module _ (schema buffer : List ℕ) (at : ℕ) (q : Query) (lh : length q.head ≡ 8) (ha : q.arity ≤ 8)
    (room : at + length ((query_for 24 schema).put q) ≤ length buffer)
    (used : ℕ) (eu : used ≡ cond (eqb q.size 0) 0 q.arity) where
  used-fits : used ≤ 8
  used-fits = rw eu (head_fits q.size q.arity ha)

  head-taken : length (take used q.head) ≡ used
  head-taken = length-take-le used q.head (omega (arith, used-fits))

  head-long : length (head_bytes used q) ≡ 5 * used
  head-long = length-flat_map entry.put 5 length-cell (take used q.head) ∙ ap (λ (n : ℕ). 5 * n) head-taken

  put-pieces : (query_for 24 schema).put q ≡ q.arity ∷ q.size ∷ ((head_bytes used q) ++ (row_bytes schema q))
  unfolding query_for via sequence byte rows entries padded
  put-pieces = rw (eu, chunk-first q.size q.relations q.cells)

  total : length ((query_for 24 schema).put q) ≡ 2 + (5 * used + length (row_bytes schema q))
  total = ap length put-pieces ∙ omega (arith, length-append (head_bytes used q) (row_bytes schema q), head-long)

  opened-long : length (opened buffer at q) ≡ length buffer
  opened-long = simp length-set

  opened-over : (opened buffer at q) ≡ over buffer at (q.arity ∷ q.size ∷ [])
  opened-over = two-stores buffer at q.arity q.size (omega (arith, total))

  room-head : at + 2 + 5 * length (take used q.head) ≤ length (opened buffer at q)
  room-head = omega (arith, total, opened-long, head-taken)

  module _ (second : List ℕ) (e₂ : second ≡ over (opened buffer at q) (at + 2) (head_bytes used q)) where
    second-long : length second ≡ length buffer
    second-long = ap length e₂ ∙ over-length (opened buffer at q) (head_bytes used q) (at + 2) (omega (arith, head-long, room-head, head-taken)) ∙ opened-long

    room-rows : at + 2 + 5 * used + length (row_bytes schema q) ≤ length second
    room-rows = omega (arith, second-long, total)

    second-over : second ≡ over buffer at (q.arity ∷ q.size ∷ (head_bytes used q))
    second-over =
        e₂ ∙ ap (λ (b : List ℕ). over b (at + 2) (head_bytes used q)) opened-over
        ∙ over-over buffer at (q.arity ∷ q.size ∷ []) (head_bytes used q) (omega (arith, total, head-long))

    module _ (third : List ℕ) (e₃ : third ≡ over second (at + 2 + 5 * used) (row_bytes schema q)) where
      third-long : length third ≡ length buffer
      third-long = ap length e₃ ∙ over-length second (row_bytes schema q) (at + 2 + 5 * used) room-rows ∙ second-long

      third-over : third ≡ over buffer at ((query_for 24 schema).put q)
      third-over =
          let front : List ℕ = q.arity ∷ q.size ∷ (head_bytes used q) in
          let n : at + 2 + 5 * used ≡ at + length front = omega (arith, head-long) in
          e₃ ∙ ap (λ (b : List ℕ). over b (at + 2 + 5 * used) (row_bytes schema q)) second-over
          ∙ ap (λ (m : ℕ). over (over buffer at front) m (row_bytes schema q)) n
          ∙ over-over buffer at front (row_bytes schema q) (omega (arith, total, head-long)) ∙ ap (over buffer at) (sym put-pieces)

-- ---- what holds at each place, proved where it first does
short : (c : goal.Start) → length c.args.buffer.now < 2 ^ 63
short c = search rules

two : (c : goal.Start) → c.args.at + 2 ≤ length c.args.buffer.now
two c = omega (arith, length-query 24 (widths_in c.args.schema) (as_query c.args.t), c.requires.t_in_bounds)

used : (c : goal.After-head_in_use-used) → c.head_in_use-used.result ≤ 8
used c =
    let lh : length c.args.t.head ≡ 8 = search (mapped-length, rules) in
    used-fits (widths_in c.args.schema) c.args.buffer.now c.args.at (as_query c.args.t) lh
    c.requires.arity_bound.0 c.requires.t_in_bounds c.head_in_use-used.result c.head_in_use-used.ensures

rows_fit : (c : goal.After-put_entries)
    → c.args.at + 2 + 5 * c.head_in_use-used.result
    + length (row_bytes (widths_in c.args.schema) (as_query c.args.t)) ≤ length c.put_entries.new.buffer
rows_fit c =
    let lh : length c.args.t.head ≡ 8 = search (mapped-length, rules) in
    room-rows (widths_in c.args.schema) c.args.buffer.now c.args.at (as_query c.args.t) lh
    c.requires.arity_bound.0 c.requires.t_in_bounds c.head_in_use-used.result c.head_in_use-used.ensures c.put_entries.new.buffer
    c.put_entries.ensures

-- ---- the needs
pub bounds-buffer-at : goal.bounds-buffer-at
bounds-buffer-at c = omega (arith, two (goal.at.bounds-buffer-at c).Start)

pub bounds-buffer-at-2 : goal.bounds-buffer-at-2
bounds-buffer-at-2 c = simp length-set (omega (arith, two (goal.at.bounds-buffer-at-2 c).Start))

pub put_entries-requires : goal.put_entries-requires
put_entries-requires c =
    let lh : length c.args.t.head ≡ 8 = search (mapped-length, rules) in
    room-head (widths_in c.args.schema) c.args.buffer.now c.args.at (as_query c.args.t)
    lh c.requires.arity_bound.0 c.requires.t_in_bounds c.head_in_use-used.result c.head_in_use-used.ensures

-- The rows are among the 24 that there is room for
fits : (size : ℕ) (named : List ℕ) (cells : List Cell) → size ≤ 24 → length named ≡ 24 → length cells ≡ 192
    → (size ≡ length (take size named)) × (8 * length (take size named) ≤ length cells)
fits size named cells few ln lc =
    let k : length (take size named) ≡ size = length-take-le size named (omega arith) in
    (sym k, omega arith)

pub put_rows-requires : goal.put_rows-requires
put_rows-requires c =
    let ln : length c.args.t.relations ≡ 24 = search (mapped-length, rules) in
    let lc : length c.args.t.cells ≡ 192 = search (mapped-length, rules) in
    record {
      cells_long = (fits c.args.t.size c.args.t.relations c.args.t.cells c.requires.arity_bound.1 ln lc).1;
      rows_in_bounds = rows_fit (goal.at.put_rows-requires c).After-put_entries;
    }

pub returns : goal.returns
returns c =
    let lh : length c.args.t.head ≡ 8 = search (mapped-length, rules) in (
      third-over (widths_in c.args.schema) c.args.buffer.now c.args.at (as_query c.args.t) lh
          c.requires.arity_bound.0 c.requires.t_in_bounds c.head_in_use-used.result c.head_in_use-used.ensures
          c.put_entries.new.buffer c.put_entries.ensures c.put_rows.new.buffer
          c.put_rows.ensures.0,
      omega (
        arith,
        c.put_rows.ensures.1,
        total (widths_in c.args.schema) c.args.buffer.now c.args.at (as_query c.args.t) lh
            c.requires.arity_bound.0 c.requires.t_in_bounds c.head_in_use-used.result c.head_in_use-used.ensures,
      ),
    )
