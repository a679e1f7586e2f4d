-- A loop that reads rows into flat arrays: what has been read of them.
use mathlib.Core.Path.{◌≡◌, sym, ap, refl, ◌∙◌}
use mathlib.Core.List.{List, ◌++◌, append_assoc}
use Prim.Native.Nat.{ℕ, ◌+◌, ◌-◌, ◌*◌, ◌≤◌, ◌<◌}
use native.Mathlib.Omega.{arith}
use borrow.Rule.Slice.PartMut.{put_mid, Post-is}
use lib.ListN.{length, take, drop, set, replicate, length-replicate, length-set}
use lib.Seq.{take_all, drop-drop}
use Rattle.query.specs.declared.Cell.{Cell}
use Rattle.query.specs.Rule.{no_cell}
use Rattle.lists.specs.Over.{over, pad}
use Rattle.lists.proofs.Loops.{replicate-drop}
use Rattle.lists.proofs.Over.{over-length, over-over, pad-is, length-pad}
use Rattle.format.specs.Format.{Reading, none, got, map_reading, padded}
use Rattle.format.specs.Parts.{row, no_row, rows, chunk, flat}
use Rattle.format.proofs.Parts.{map-chunk, flat-chunk}
use Rattle.format.proofs.Rules.{length-chunk}
use Rattle.format.proofs.Filling.{Filling, filling-starts, filling-turns, filling-fails, filling-ends}
use Rattle.parsing.specs.internal.Read.{stored_rows}
use Rattle.parsing.proofs.RowLaws.{chunk-set, blank-over, drop-past-over}

-- A stretch of cells, put back where it stood
pub put-cells : (cells new : List Cell) (at width : ℕ) → length new ≡ width → put_mid at (at + width - at) cells new ≡ over cells at new
put-cells cells new at width l =
    let n : at + width ≡ at + length new = omega arith in
    ap (λ (z : List Cell). take at cells ++ (new ++ z)) (Post-is at (at + width) cells (omega arith) ∙ ap (λ (k : ℕ). drop k cells) n)
    ∙ sym (append_assoc (take at cells) new (drop (at + length new) cells))

-- Entries over blank cells are a row of 8
row-over : (cells new : List Cell) (at m : ℕ) → length cells ≡ at + m → drop at cells ≡ replicate m no_cell → length new ≤ 8 → 8 ≤ m
    → over cells at new ≡ over cells at (pad 8 no_cell new)
row-over cells new at m long blank few room =
    let past : drop (at + length new) (over cells at new) ≡ replicate (m - length new) no_cell =
    drop-past-over cells at (length new) new (omega arith) refl ∙ sym (drop-drop (length new) at cells)
    ∙ ap (λ (cs : List Cell). drop (length new) cs) blank ∙ replicate-drop (length new) m no_cell in
    let blanks : pad 8 no_cell new ≡ new ++ replicate (8 - length new) no_cell =
    pad-is 8 no_cell new ∙ ap (λ (zs : List Cell). new ++ zs) (replicate-drop (length new) 8 no_cell) in
    sym (blank-over (over cells at new) (at + length new) (8 - length new) (m - length new) no_cell past (omega arith))
    ∙ over-over cells at new (replicate (8 - length new) no_cell) (omega (arith, length-replicate (8 - length new) no_cell))
    ∙ ap (λ (cs : List Cell). over cells at cs) (sym blanks)

-- The rows as the format reads them
abbrev pub Rows : List ℕ → List ℕ → ℕ → Reading (List (ℕ × List Cell))
Rows schema s size = (rows 12 schema size).get s

-- What has been read of the rows: r of them, up to some bytes
pub record At (schema s : List ℕ) (size : ℕ) (relations : List ℕ) (cells : List Cell) (r : ℕ) (rest : List ℕ) : Type 0 where
  pub few : r ≤ size
  pub relations-long : length relations ≡ 12
  pub cells-long : length cells ≡ 96
  pub blank : drop (8 * r) cells ≡ replicate (96 - 8 * r) no_cell
  pub reading : Filling (row schema).get (Rows schema s size) size (chunk relations cells) r rest

pub begins : (schema s : List ℕ) (size : ℕ) → At schema s size (replicate 12 0) (replicate 96 no_cell) 0 s
unfolding rows padded chunk
begins schema s size =
    record {
      few = omega arith;
      relations-long = refl;
      cells-long = refl;
      blank = refl;
      reading = filling-starts (row schema).get 12 no_row size s;
    }

module _ (schema s : List ℕ) (size : ℕ) (relations : List ℕ) (cells : List Cell) (r : ℕ) (rest : List ℕ) (f : At schema s size relations cells r rest) where
  -- a row that can't be read
  pub fails : r < size → (row schema).get rest ≡ none → none ≡ map_reading stored_rows (Rows schema s size)
  unfolding map_reading
  fails h e = rw (filling-fails f.reading h e)

  -- one row more
  pub goes_on : (relation : ℕ) (new : List Cell) (after : List ℕ) (all : List Cell) → r < size → size ≤ 12 → length new ≤ 8
      → (row schema).get rest ≡ got (relation, pad 8 no_cell new) after → all ≡ over cells (8 * r) new
      → At schema s size (set relations r relation) all (r + 1) after
  goes_on relation new after all h few narrow e stored =
      let lr : length relations ≡ 12 = f.relations-long in
      let ll : length cells ≡ 96 = f.cells-long in
      let cs : List Cell = pad 8 no_cell new in
      let lc : length cs ≡ 8 = length-pad 8 no_cell new narrow in
      let whole : all ≡ over cells (8 * r) cs = stored ∙ row-over cells new (8 * r) (96 - 8 * r) (omega arith) f.blank narrow (omega arith) in
      let turned : Filling (row schema).get (Rows schema s size) size (set (chunk relations cells) r (relation, cs)) (r + 1) after =
      filling-turns f.reading (relation, cs) after h (rw length-chunk (omega arith)) e in
      let chunks : chunk (set relations r relation) (over cells (8 * r) cs) ≡ set (chunk relations cells) r (relation, cs) =
      chunk-set relations cells r relation cs (omega arith) (omega arith) lc in
      let n : 8 * r + 8 ≡ 8 * (r + 1) = omega arith in
      let m : 96 - 8 * r - 8 ≡ 96 - 8 * (r + 1) = omega arith in
      let left : drop (8 * (r + 1)) (over cells (8 * r) cs) ≡ replicate (96 - 8 * (r + 1)) no_cell =
      ap (λ (x : ℕ). drop x (over cells (8 * r) cs)) (sym n) ∙ drop-past-over cells (8 * r) 8 cs (omega arith) lc
      ∙ sym (drop-drop 8 (8 * r) cells) ∙ ap (λ (cs : List Cell). drop 8 cs) f.blank ∙ replicate-drop 8 (96 - 8 * r) no_cell
      ∙ ap (λ (x : ℕ). replicate x no_cell) m in
      record {
        few = omega arith;
        relations-long = length-set relations r relation ∙ lr;
        cells-long = ap length whole ∙ over-length cells cs (8 * r) (omega arith) ∙ ll;
        blank = rw whole left;
        reading = rw (whole, chunks) turned;
      }

  -- all of them are read
  pub accepted : size ≤ r → got (record { relations = relations; cells = cells }) rest ≡ map_reading stored_rows (Rows schema s size)
  unfolding map_reading
  accepted h =
      let w : Rows schema s size ≡ got (chunk relations cells) rest = filling-ends f.reading h in
      let e : cells ≡ flat (chunk relations cells) =
      sym (flat-chunk relations cells ∙ take_all (8 * length relations) cells (omega (arith, f.cells-long, f.relations-long))) in
      let same : got (record { relations = relations; cells = cells }) rest ≡ map_reading stored_rows (got (chunk relations cells) rest) =
      λ i. got (record { relations = sym (map-chunk relations cells) i; cells = e i }) rest in
      same ∙ sym (ap (map_reading stored_rows) w)
