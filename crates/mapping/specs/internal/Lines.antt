-- Queries laid out in one line of cells, 104 of a query and 200 of a tableau: what images carry there, and how they are collected. Only functions of this crate cite these.
use Rattle.std.specs.Prelude.{◌≡◌, cond, List, ◌⊎◌, ℕ, ◌+◌, ◌*◌, ◌-◌, ◌<◌, ltb, get_or, length}
use Rattle.theory.specs.Query as theory
use Rattle.theory.specs.Answer.{value_of}
use Rattle.query.specs.declared.Cell.{Cell}
use Rattle.query.specs.Types.{Query}
use Rattle.query.specs.View.{entry_of, images_of}
use Rattle.query.specs.Rule.{no_cell}
use Rattle.candidates.specs.internal.Candidates.{row_start, image_start}

-- Some cells and those of a head in one line
abbrev pub line_at : ℕ → List Cell → List Cell → ℕ → Cell
line_at n cells head k = cond (ltb k n) (get_or cells k no_cell) (get_or head (k - n) no_cell)

-- The cells of a query with room for so many rows in one line: 8 of each row, then 8 of the head
abbrev pub cell_at : ℕ → Query → ℕ → Cell
cell_at most q k = line_at (8 * most) q.cells q.head k

-- The entries of a query in one line
abbrev pub entry_at : ℕ → Query → ℕ → theory.Entry
entry_at most q k = entry_of (cell_at most q k).entry

-- The entry that a cell of an array stands for
abbrev pub entry_in : List Cell → ℕ → theory.Entry
entry_in cells k = entry_of (get_or cells k no_cell).entry

-- ---- what images carry, by positions: row r has the entries from 8 * r on

-- The images carry the 8 entries from `row` on to those from `image` on
abbrev pub Carried : List Cell → List Cell → List Cell → ℕ → ℕ → Type 0
Carried source target images row image =
    (i : ℕ) → i < 8 → value_of theory.constant (images_of images) (entry_in source (row + i)) ≡ entry_in target (image + i)

-- The images carry row r, of a relation, to one of the target's rows, of the relations `offered`, in the same relation
abbrev pub Lands : List Cell → List Cell → List Cell → ℕ → List ℕ → ℕ → Type 0
Lands source target images named offered r =
    (d : ℕ) × (d < length offered) × (named ≡ get_or offered d 0) × Carried source target images (8 * r) (8 * d)

-- Variable v stands among the cells
abbrev pub Stands : List Cell → ℕ → Type 0
Stands cells v = (k : ℕ) × (k < 104) × (entry_in cells k ≡ theory.variable v)

-- A variable that does not stand among the cells has constant 0 for its image
abbrev pub RestBlank : List Cell → List Cell → Type 0
RestBlank cells images = (v : ℕ) → v < 96 → (Stands cells v → ⊥) → images_of images v ≡ theory.constant 0

-- ---- how images are collected

-- The choice that a list of numbers gives
abbrev pub choice_of : List ℕ → ℕ → ℕ
choice_of chosen r = get_or chosen r 0

-- The images so far, from the first n columns of one row: a variable that stands there has the cell of an image of it, any other keeps its image
abbrev pub RowAssigned : List Cell → List ℕ → List Cell → ℕ → ℕ → ℕ → List Cell → Type 0
RowAssigned before source target row image n images =
    (v : ℕ) → v < 96
    → (((i : ℕ) → i < n → get_or source (row + i) 0 ≡ 2147483648 + v → ⊥) × (get_or images v no_cell ≡ get_or before v no_cell))
    ⊎ ((i : ℕ) × (i < n) × (get_or source (row + i) 0 ≡ 2147483648 + v) × (get_or images v no_cell ≡ get_or target (image + i) no_cell))

-- The images that the first n rows give: a variable that stands there has the cell of an image of it, any other constant 0
abbrev pub Assigned : List ℕ → List Cell → ℕ → (ℕ → ℕ) → ℕ → List Cell → Type 0
Assigned source target size choice n images =
    (v : ℕ) → v < 96
    → (((r i : ℕ) → r < n → i < 8 → get_or source (row_start size r + i) 0 ≡ 2147483648 + v → ⊥) × (get_or images v no_cell ≡ no_cell))
    ⊎ ((r : ℕ) × (i : ℕ) × (r < n) × (i < 8) × (get_or source (row_start size r + i) 0 ≡ 2147483648 + v)
    × (get_or images v no_cell ≡ get_or target (image_start size r (choice r) + i) no_cell))
