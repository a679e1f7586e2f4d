-- What a turn of a loop over cells, rows or images writes. For any number of them. Assumes nothing.
use mathlib.Core.Path.{◌≡◌, sym, ap, ◌∙◌}
use mathlib.Core.Bool.{Bool, true, false}
use mathlib.Core.List.{List, [], ◌++◌, flat_map}
use Prim.Native.Nat.{ℕ, suc, ◌+◌, ◌*◌, ◌-◌, ◌≤◌, ◌<◌}
use native.Mathlib.Numerals.{add-one}
use native.Mathlib.Omega.{arith}
use lib.ListN.{length, take, drop, get_or, drop_of_length-le}
use lib.Seq.{drop-cons, drop-drop}
use Rattle.query.specs.declared.Cell.{Cell}
use Rattle.query.specs.View.{entry_of, entries_of, rows_of}
use Rattle.query.specs.Rule.{no_cell}
use Rattle.theory.specs.Query as theory
use Rattle.lists.specs.Numbers.{numbers_where}
use Rattle.text.specs.Text.{space, entry_text, entries_text, row_line, rows_text, image_text, images_text}
use Rattle.text.specs.internal.Listable.{row_of_cells}

-- ---- entries

-- From cell i on, the entry of cell i comes first
pub entries-turn : (cells : List Cell) (i : ℕ) → i < length cells
    → entries_text (entries_of (drop i cells)) ≡ (space ++ entry_text (entry_of (get_or cells i no_cell).entry)) ++ entries_text (entries_of (drop (i + 1) cells))
unfolding entries_text flat_map
entries-turn cells i h = rw (add-one, drop-cons cells i no_cell h)

-- After the last no entry is left
pub entries-end : (cells : List Cell) (i : ℕ) → length cells ≤ i → entries_text (entries_of (drop i cells)) ≡ []
unfolding entries_text flat_map
entries-end cells i h = let e : drop i cells ≡ [] = drop_of_length-le cells {i = i} h in rw e

-- ---- rows

-- From row r on, the line of row r comes first
pub rows-turn : (schema named : List ℕ) (cells : List Cell) (r : ℕ) → r < length named → (w : ℕ) → w ≡ get_or schema (get_or named r 0) 0
    → rows_text (rows_of schema (drop r named) (drop (8 * r) cells))
    ≡ row_line (row_of_cells (get_or named r 0) (take (8 * r + w - 8 * r) (drop (8 * r) cells)))
    ++ rows_text (rows_of schema (drop (r + 1) named) (drop (8 * (r + 1)) cells))
unfolding rows_text rows_of flat_map
rows-turn schema named cells r h w width =
    let k : 8 * r + 8 ≡ 8 * (r + 1) = omega arith in
    let next : drop (8 * (r + 1)) cells ≡ drop 8 (drop (8 * r) cells) = sym (drop-drop 8 (8 * r) cells ∙ ap (λ (k : ℕ). drop k cells) k) in
    let cut : 8 * r + w - 8 * r ≡ w = omega arith in
    rw (next, cut, add-one r, drop-cons named r 0 h, ← width)

-- After the last no row is left
pub rows_end : (schema named : List ℕ) (cells : List Cell) (r : ℕ) → length named ≤ r → rows_text (rows_of schema (drop r named) cells) ≡ []
unfolding rows_text rows_of flat_map
rows_end schema named cells r h =
    let e : drop r named ≡ [] = drop_of_length-le named {i = r} h in
    ap (λ (rs : List ℕ). rows_text (rows_of schema rs cells)) e

-- ---- images

-- Whether a variable stands in one of the first rows
abbrev pub in_row : List ℕ → ℕ → List ℕ → List Cell → ℕ → Bool
in_row schema size named cells v = theory.member v (theory.variables_of (theory.row_entries (rows_of schema (take size named) cells)))

-- From variable v on, its image comes first if it passes, and else the next one's
module _ (image : ℕ → theory.Entry) (test : ℕ → Bool) (v : ℕ) (h : v < 96) where
  left : 96 - v ≡ suc (96 - (v + 1))
  left = omega arith

  pub images-passed : test v ≡ true → images_text image (numbers_where test v (96 - v)) ≡ image_text v (image v) ++ images_text image
      (numbers_where test (v + 1) (96 - (v + 1)))
  unfolding images_text numbers_where flat_map
  images-passed t = rw (left, t, add-one v)

  pub images-skipped : test v ≡ false → images_text image (numbers_where test v (96 - v)) ≡ images_text image (numbers_where test (v + 1) (96 - (v + 1)))
  unfolding images_text numbers_where flat_map
  images-skipped t = rw (left, t, add-one v)

pub images-end : (image : ℕ → theory.Entry) (test : ℕ → Bool) (v : ℕ) → 96 ≤ v → images_text image (numbers_where test v (96 - v)) ≡ []
unfolding images_text numbers_where flat_map
images-end image test v h = let z : 96 - v ≡ 0 = omega arith in rw z
