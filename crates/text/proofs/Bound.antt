-- How long the text of a place can be: entries first, then the lines, then the text. Assumes nothing.
use mathlib.Core.Path.{◌≡◌, refl, subst}
use mathlib.Core.Bool.{Bool, true, false, cond}
use mathlib.Core.List.{List, [], ◌∷◌, ◌++◌, flat_map}
use Prim.Native.Nat.{ℕ, zero, suc, ◌+◌, ◌*◌, ◌^◌, ◌≤◌, ◌<◌}
use native.Mathlib.Omega.{arith}
use lib.Dec.{eqb}
use lib.ListN.{length, take, drop, get_or, length-append, length-take}
use lib.Seq.{length-take-le, take-take}
use borrow.Author.Tests.{leb-true}
use Rattle.lists.specs.Tests.{every}
use Rattle.lists.proofs.Tests.{and_left, and_right, every_take, used-good}
use Rattle.query.specs.declared.Cell.{Cell}
use Rattle.query.specs.declared.Entry.{Entry}
use Rattle.query.specs.declared.Entry.TheVariants.{Constant, Variable}
use Rattle.query.specs.Types.{Query}
use Rattle.query.specs.View.{entry_of, entries_of, rows_of, query_of, images_of}
use Rattle.query.specs.Rule.{good_entry, good_cell, blank_cell, good_rows, good_query, good_relations}
use Rattle.query.proofs.Good.{good-query}
use Rattle.query.proofs.Relations.{relations-bounds, width-le}
use Rattle.query.proofs.Shape.{row_count}
use Rattle.query.proofs.Stored.{row-parts, rows-first, rows-rest, head-cells, variables-below}
use Rattle.theory.specs.Query as theory
use Rattle.printing.specs.Decimal.{field}
use Rattle.printing.proofs.Decimal.{decimal-length}
use Rattle.text.specs.Text.{entry_text, entries_text, newline, place_word, rows_word, kept_word, replaced_word, place_line, never_line, head_line}
use Rattle.text.specs.Text.{row_word, row_line, rows_text}
use Rattle.lists.specs.Numbers.{numbers_where}
use Rattle.text.specs.Text.{next_word, equals, image_text, images_text, map_line, least_above, occurring, place_text}
use Rattle.text.specs.internal.Listable.{place_room}
use Rattle.text.proofs.Occurring.{variables-bound}

-- ---- entries

entry-short : (e : Entry) → good_entry e ≡ true → length (entry_text (entry_of e)) ≤ 10
unfolding entry_text
entry-short (Constant n) g = decimal-length 9 n (let l : n ≤ 2147483647 = leb-true n 2147483647 g in omega arith)
entry-short (Variable v) g = let l : v ≤ 95 = leb-true v 95 g in omega (arith, decimal-length 1 v (omega arith))

entries-short : (cells : List Cell) → every good_cell cells ≡ true → length (entries_text (entries_of cells)) ≤ 11 * length cells
unfolding entries_text flat_map every
entries-short [] g = omega arith
entries-short (c ∷ cs) g =
    let here : length (entry_text (entry_of c.entry)) ≤ 10 = entry-short c.entry (and_left (good_cell c) (every good_cell cs) g) in
    let rest : length (entries_text (entries_of cs)) ≤ 11 * length cs = entries-short cs (and_right (good_cell c) (every good_cell cs) g) in
    rw length-append (omega arith)

first_short : (n : ℕ) (cells : List Cell) → every good_cell cells ≡ true → n ≤ 8 → length (entries_text (entries_of (take n cells))) ≤ 88
first_short n cells g h =
    let l : length (entries_text (entries_of (take n cells))) ≤ 11 * length (take n cells) = entries-short (take n cells) (every_take good_cell n cells g) in
    omega (arith, length-take n cells)

-- ---- lines

field-length : (word : List ℕ) (n k : ℕ) → n < 10 ^ suc k → length (field word n) ≤ length word + suc k
field-length word n k h = rw length-append (omega (arith, decimal-length k n h))

place-line-short : (place rows kept count : ℕ) → place < 8 → rows ≤ 12 → kept ≤ 12 → count < 256 → length (place_line place rows kept count) ≤ 37
unfolding place_line
place-line-short place rows kept count p r k c =
    let a : length (field place_word place) ≤ 7 = field-length place_word place 0 (omega arith) in
    let b : length (field rows_word rows) ≤ 8 = field-length rows_word rows 1 (omega arith) in
    let d : length (field kept_word kept) ≤ 8 = field-length kept_word kept 1 (omega arith) in
    let e : length (field replaced_word count) ≤ 13 = field-length replaced_word count 2 (omega arith) in
    rw (
      length-append (field place_word place),
      length-append (field rows_word rows),
      length-append (field kept_word kept),
      length-append
          (field replaced_word count),
    ) (omega arith)

never-line-short : (place rows count : ℕ) → place < 8 → rows ≤ 12 → count < 256 → length (never_line place rows count) ≤ 35
unfolding never_line
never-line-short place rows count p r c =
    let a : length (field place_word place) ≤ 7 = field-length place_word place 0 (omega arith) in
    let b : length (field rows_word rows) ≤ 8 = field-length rows_word rows 1 (omega arith) in
    let e : length (field replaced_word count) ≤ 13 = field-length replaced_word count 2 (omega arith) in
    rw (length-append (field place_word place), length-append (field rows_word rows), length-append (field replaced_word count)) (omega arith)

head-line-short : (n : ℕ) (cells : List Cell) → every good_cell cells ≡ true → n ≤ 8 → length (head_line (entries_of (take n cells))) ≤ 93
unfolding head_line
head-line-short n cells g h = rw (length-append (entries_text (entries_of (take n cells)))) (omega (arith, first_short n cells g h))

module _ (schema : List ℕ) (few : length schema ≤ 8) (narrow : (i : ℕ) → get_or schema i 0 ≤ 8) where
  -- of good rows
  rows_short : (rs : List ℕ) (cells : List Cell) → good_rows schema rs cells ≡ true → length (rows_text (rows_of schema rs cells)) ≤ 94 * length rs
  unfolding rows_text rows_of flat_map row_line
  rows_short [] cells good = omega arith
  rows_short (r ∷ rs) cells good =
      let w : ℕ = get_or schema r 0 in
      let parts = row-parts schema r (take 8 cells) (rows-first schema r rs cells good) in
      let used : every good_cell (take w (take 8 cells)) ≡ true = used-good w good_cell blank_cell (take 8 cells) parts.1 in
      let cut : take w (take 8 cells) ≡ take w cells = take-take w 8 cells (narrow r) in
      let a : length (field row_word r) ≤ 5 = field-length row_word r 0 (omega (arith, parts.0)) in
      let b : length (entries_text (entries_of (take w cells))) ≤ 11 * length (take w cells) =
      entries-short (take w cells) (subst (λ (cs : List Cell). every good_cell cs ≡ true) cut used) in
      let rest : length (rows_text (rows_of schema rs (drop 8 cells))) ≤ 94 * length rs = rows_short rs (drop 8 cells) (rows-rest schema r rs cells good) in
      let line : List ℕ = field row_word r ++ (entries_text (entries_of (take w cells)) ++ newline) in
      rw (length-append line, length-append (field row_word r), length-append (entries_text (entries_of (take w cells))))
      (omega (arith, length-take w cells, narrow r))

images-short : (image : ℕ → theory.Entry) (test : ℕ → Bool) (start n : ℕ) → start + n ≤ 96 → ((v : ℕ) → length (entry_text (image v)) ≤ 10)
    → length (images_text image (numbers_where test start n)) ≤ 15 * n
unfolding images_text numbers_where flat_map image_text
images-short image test start zero h short = omega arith
images-short image test start (suc n) h short = go (test start) (images-short image test (suc start) n (omega arith) short)
  where
    a : length (field next_word start) ≤ 4
    a = field-length next_word start 1 (omega arith)

    go : (t : Bool) → length (images_text image (numbers_where test (suc start) n)) ≤ 15 * n
        → length (images_text image (cond t (start ∷ numbers_where test (suc start) n) (numbers_where test (suc start) n))) ≤ 15 * suc n
    go true rest = rw (length-append (field next_word start ++ (equals ++ entry_text (image start))), length-append (field next_word start))
        (omega (arith, a, short start))
    go false rest = omega arith

image-short : (images : List Cell) → every good_cell images ≡ true → (v : ℕ) → length (entry_text (images_of images v)) ≤ 10
unfolding every
image-short [] g v = entry-short (Constant 0) refl
image-short (c ∷ cs) g zero = entry-short c.entry (and_left (good_cell c) (every good_cell cs) g)
image-short (c ∷ cs) g (suc v) = image-short cs (and_right (good_cell c) (every good_cell cs) g) v

-- ---- the text of a place

module _ (relations : ℕ) (widths : List ℕ) (known : good_relations relations widths ≡ true) where
  abbrev schema : List ℕ
  schema = take relations widths

  result-rows-short : (q : Query) → good_query schema q ≡ true → q.size ≤ length q.relations → length (rows_text (query_of schema q).rows) ≤ 94 * q.size
  result-rows-short q good long =
      let rs : List ℕ = take q.size q.relations in
      let few : length schema ≤ 8 = omega (arith, length-take relations widths, relations-bounds relations widths known) in
      let l : length (rows_text (query_of schema q).rows) ≤ 94 * length rs =
      rows_short schema few (width-le relations widths known) rs q.cells (good-query 12 schema q good).rows in
      omega (arith, length-take-le q.size q.relations long)

  map-short : (q : Query) (images : List Cell) → good_query schema q ≡ true → every good_cell images ≡ true
      → length (map_line (images_of images) (occurring (query_of schema q))) ≤ 1444
  unfolding map_line occurring
  map-short q images good images-good =
      let vs : List ℕ = theory.variables (query_of schema q) in
      let test : ℕ → Bool = λ v. theory.member v vs in
      let b : least_above vs ≤ 96 = variables-bound (query_of schema q) (variables-below 12 schema (width-le relations widths known) q good) in
      let l : length (images_text (images_of images) (numbers_where test 0 (least_above vs))) ≤ 15 * least_above vs =
      images-short (images_of images) test 0 (least_above vs) (omega arith) (image-short images images-good) in
      rw (length-append (images_text (images_of images) (numbers_where test 0 (least_above vs)))) (omega arith)

  module _ (place : ℕ) (source result : Query) (count : ℕ) (images : List Cell) where
    abbrev rows : ℕ
    rows = length (query_of schema source).rows

    abbrev kept : ℕ
    kept = length (query_of schema result).rows

    -- by the cases of a result: the bounds of its lines give that of the text
    lines-short : (t : Bool) → result.size ≤ 12 → length (place_line place rows kept count) ≤ 37 → length (never_line place rows count) ≤ 35
        → length (head_line (query_of schema result).head) ≤ 93 → length (rows_text (query_of schema result).rows) ≤ 94 * result.size
        → length (map_line (images_of images) (occurring (query_of schema source))) ≤ 1444
        → length
        (cond t (never_line place rows count)
        (place_line place rows kept count
        ++ (head_line (query_of schema result).head ++
        (rows_text (query_of schema result).rows ++ map_line (images_of images) (occurring (query_of schema source))))))
        ≤ place_room
    lines-short true size line never head below map = omega arith
    lines-short false size line never head below map =
        rw (
          length-append (place_line place rows kept count),
          length-append (head_line (query_of schema result).head),
          length-append
              (rows_text (query_of schema result).rows),
        )
        (omega arith)

    -- The text of a place is at most as long as its room
    pub place_short : place < 8 → good_query schema source ≡ true → good_query schema result ≡ true → source.size ≤ length source.relations
        → result.size ≤ length result.relations → count < 256 → every good_cell images ≡ true
        → length (place_text place (query_of schema source) (query_of schema result) count (images_of images)) ≤ place_room
    unfolding place_text
    place_short low source-good result-good source-long result-long small images-good =
        let good = good-query 12 schema result result-good in
        let m : rows ≤ 12 = rw (row_count schema source source-long) (good-query 12 schema source source-good).size in
        let k : kept ≤ 12 = rw (row_count schema result result-long) good.size in
        lines-short (eqb kept 0) good.size (place-line-short place rows kept count low m k small) (never-line-short place rows count low m small)
        (head-line-short result.arity result.head (head-cells 12 schema result result-good) good.arity)
        (result-rows-short result result-good result-long) (map-short source images source-good images-good)
