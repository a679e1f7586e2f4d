-- row r of relations and cells
use mathlib.Core.Path.{◌≡◌, sym, ap, refl, ◌∙◌}
use mathlib.Core.List.{List, [], ◌∷◌, flat_map}
use Prim.Native.Nat.{ℕ, zero, suc, ◌+◌, ◌-◌, ◌*◌, ◌≤◌, ◌<◌}
use native.Mathlib.Nat.{le_of_suc-le-suc}
use native.Mathlib.Omega.{arith}
use lib.ListN.{length, take, drop, get_or, length-drop}
use lib.Seq.{drop-drop, length-take-le}
use Rattle.query.specs.declared.Cell.{Cell}
use Rattle.lists.specs.Over.{over}
use Rattle.std.proofs.lemmas.List.{take-take}
use Rattle.format.specs.Format.{byte, sequence, padded}
use Rattle.format.specs.Parts.{entry, entries, row, no_row, chunk}
use Rattle.format.proofs.Rules.{length-chunk}
use Rattle.format.proofs.Lengths.{length-flat_map}
use Rattle.limits.specs.internal.Schema.{widths_in}
use Rattle.encoder.proofs.PlaceParts.{wide}
use Rattle.encoder.proofs.Stores.{length-cell, Writing, writing-room, writing-turns, writing-ends}
use Rattle.encoder.proofs.put_rows.Goals as goal

chunk-at : (named : List ℕ) (cells : List Cell) (r : ℕ) → r < length named → get_or (chunk named cells) r no_row ≡ (get_or named r 0, take 8 (drop (8 * r) cells))
unfolding chunk
chunk-at [] cells r h = absurd (omega arith)
chunk-at (x ∷ named) cells zero h = refl
chunk-at (x ∷ named) cells (suc r) h =
    let m : 8 + 8 * r ≡ 8 * suc r = omega arith in
    chunk-at named (drop 8 cells) r (le_of_suc-le-suc h)
    ∙ ap (λ (cs : List Cell). (get_or named r 0, take 8 cs)) (drop-drop (8 * r) 8 cells ∙ ap (λ (n : ℕ). drop n cells) m)

module _ (schema before : List ℕ) (start : ℕ) (named : List ℕ) (cells : List Cell) (buffer : List ℕ) (at r : ℕ) (h : r < length named)
    (lc : 8 * length named ≤ length cells) (w : Writing (row schema).put before start (chunk named cells) buffer at r)
    (width : ℕ) (ew : width ≡ get_or schema (get_or named r 0) 0) (lw : width ≤ 8) where
  inside-rows : r < length (chunk named cells)
  inside-rows = rw (length-chunk named cells) h

  this : get_or (chunk named cells) r no_row ≡ (get_or named r 0, take 8 (drop (8 * r) cells))
  this = chunk-at named cells r h

  bytes : (row schema).put (get_or (chunk named cells) r no_row) ≡ get_or named r 0 ∷ flat_map entry.put (take width (take 8 (drop (8 * r) cells)))
  unfolding row sequence byte entries padded
  bytes = rw (this, ew)

  bytes-long : length ((row schema).put (get_or (chunk named cells) r no_row)) ≡ 1 + 5 * width
  bytes-long =
      let l : length (take 8 (drop (8 * r) cells)) ≡ 8 = length-take-le 8 (drop (8 * r) cells) (rw length-drop (omega arith)) in
      let k : length (take width (take 8 (drop (8 * r) cells))) ≡ width = length-take-le width (take 8 (drop (8 * r) cells)) (omega arith) in
      ap length bytes ∙ omega (arith, length-flat_map entry.put 5 length-cell (take width (take 8 (drop (8 * r) cells))))

  room : at + 1 + 5 * width ≤ length buffer
  room = omega (arith, writing-room w no_row inside-rows, bytes-long)

  -- the entries of the row that are written
  line-is : take (8 * r + width - 8 * r) (drop (8 * r) cells) ≡ take width (take 8 (drop (8 * r) cells))
  line-is =
      let n : 8 * r + width - 8 * r ≡ width = omega arith in
      ap (λ (k : ℕ). take k (drop (8 * r) cells)) n ∙ sym (take-take width 8 (drop (8 * r) cells) lw)

  line-long : length (take (8 * r + width - 8 * r) (drop (8 * r) cells)) ≡ width
  line-long =
      let n : 8 * r + width - 8 * r ≡ width = omega arith in
      ap (λ (k : ℕ). length (take k (drop (8 * r) cells))) n ∙ length-take-le width (drop (8 * r) cells) (rw length-drop (omega arith))

  line-fits : at + 1 + 5 * length (take (8 * r + width - 8 * r) (drop (8 * r) cells)) ≤ length buffer
  line-fits = rw line-long room

  inside : 8 * r + width ≤ length cells
  inside = omega arith

  goes_on : (next : List ℕ) (to : ℕ) → next ≡ over buffer at (get_or named r 0 ∷ flat_map entry.put (take (8 * r + width - 8 * r) (drop (8 * r) cells)))
      → to ≡ at + 1 + 5 * length (take (8 * r + width - 8 * r) (drop (8 * r) cells))
      → Writing (row schema).put before start (chunk named cells) next to (r + 1)
  goes_on next to en et =
      writing-turns w no_row next to inside-rows
      (en ∙ ap (λ (cs : List Cell). over buffer at (get_or named r 0 ∷ flat_map entry.put cs)) line-is ∙ ap (over buffer at) (sym bytes))
      (omega (arith, bytes-long, line-long))

pub slice_bounds-put_row-end : goal.slice_bounds-put_row-end
slice_bounds-put_row-end c = inside (widths_in c.args.schema) c.args.buffer.now c.args.start c.args.named.now c.args.cells.now
    c.loop-r.buffer c.loop-r.at c.loop-r.r c.loop-r-test.true c.requires.cells_long c.loop-r.invariant
    c.width_of-width.result c.width_of-width.ensures (wide c.args.schema (get_or c.args.named.now c.loop-r.r 0) c.width_of-width.result c.width_of-width.ensures)

pub put_row-at-requires : goal.put_row-at-requires
put_row-at-requires c = line-fits (widths_in c.args.schema) c.args.buffer.now c.args.start c.args.named.now c.args.cells.now
    c.loop-r.buffer c.loop-r.at c.loop-r.r c.loop-r-test.true c.requires.cells_long c.loop-r.invariant
    c.width_of-width.result c.width_of-width.ensures (wide c.args.schema (get_or c.args.named.now c.loop-r.r 0) c.width_of-width.result c.width_of-width.ensures)

pub loop-r-preserved : goal.loop-r-preserved
loop-r-preserved c =
    goes_on (widths_in c.args.schema) c.args.buffer.now c.args.start c.args.named.now c.args.cells.now
    c.loop-r.buffer c.loop-r.at c.loop-r.r c.loop-r-test.true c.requires.cells_long c.loop-r.invariant
    c.width_of-width.result c.width_of-width.ensures (wide c.args.schema (get_or c.args.named.now c.loop-r.r 0) c.width_of-width.result c.width_of-width.ensures)
    c.put_row-at.new.buffer c.put_row-at.result c.put_row-at.ensures.0 c.put_row-at.ensures.1

pub returns : goal.returns
returns c = writing-ends c.loop-r.invariant (rw (length-chunk c.args.named.now c.args.cells.now) c.loop-r-test.false)
