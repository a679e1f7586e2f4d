-- Where rows begin: 1. each row in its place, 2. the rows as they are read, 3. those of the relation that is tested. Assumes nothing.
use mathlib.Core.Path.{◌≡◌, refl, sym, ◌∙◌, ap, subst}
use mathlib.Core.Logic.{⊎_elim}
use mathlib.Core.Bool.{true}
use mathlib.Core.List.{List, []}
use Prim.Native.Nat.{ℕ, zero, suc, ◌+◌, ◌≤◌, ◌<◌}
use native.Mathlib.Numerals.{add-one}
use native.Mathlib.Omega.{arith}
use lib.ListN.{length, take, drop, get_or, length-drop, length-take, drop_of_length-le, get_or-eq_default}
use Rattle.lists.proofs.Positions.{get_or-in}
use Rattle.lists.proofs.Tests.{below-or-past}
use Rattle.theory.specs.Query.{Row, column, FitsSchema}
use Rattle.theory.specs.Database.{Database}
use Rattle.words.specs.Words.{rows_from, spells_rows, database_of}
use Rattle.words.specs.Broken.{nth_row}
use Rattle.words.specs.internal.Rows.{span_read, row_at, row_read, Next}
use Rattle.words.proofs.Spelling.{next_row, rows-spelled}
use Rattle.grouping.specs.internal.Walked.{RowBegins}
use Rattle.grouping.proofs.Passing.{placed-start, placed-next, placed_row, placed_read}
use Rattle.join_lookup.specs.declared.Index.{Index}
use Rattle.theory.specs.Codes.{CodePair}
use Rattle.theory.specs.Codes.{read_code}
use Rattle.words.specs.Words.{database_read}
use Rattle.words.proofs.Reading.{read-length}
use Rattle.words.proofs.Reading.{read-sound}
use Rattle.words.proofs.Columns.{span-value}
use Rattle.join_lookup.specs.internal.Starts.{end_of, start_of, row_count, row_of, row_with, Of, Known}

-- ---- 1. rows in their places

-- A later row begins later
pub start-less : (schema words : List ℕ) (p q : ℕ) → p < q → start_of schema words p < start_of schema words q
unfolding start_of
start-less schema words p zero h = absurd (omega arith)
start-less schema words p (suc q) h =
    ⊎_elim (λ l. let i : start_of schema words p < start_of schema words q = start-less schema words p q l in omega arith)
    (λ l. let e : p ≡ q = omega arith in let i : start_of schema words p ≡ start_of schema words q = ap (start_of schema words) e in omega arith)
    (below-or-past p q)

-- so no two rows begin at one word
pub start-one : (schema words : List ℕ) (p q : ℕ) → start_of schema words p ≡ start_of schema words q → p ≡ q
start-one schema words p q e =
    ⊎_elim (λ l. absurd (let i = start-less schema words p q l in omega arith))
    (λ l. ⊎_elim (λ m. absurd (let i = start-less schema words q p m in omega arith)) (λ m. omega arith) (below-or-past q p)) (below-or-past p q)

module _ (schema words : List ℕ) (good : spells_rows schema words ≡ true) where
  D : Database
  D = database_of schema words

  -- Where a row is left the words go on
  placed-inside : (at p : ℕ) → RowBegins schema words at p → p < row_count schema words → at < length words
  unfolding rows_from
  placed-inside at p b h =
      ⊎_elim (λ l. l)
      (λ l.
      let none : drop p (database_of schema words) ≡ [] =
      b.read ∙ ap (λ (w : List ℕ). database_of schema w) (drop_of_length-le words {i = at} l) in
      let z : length (drop p (database_of schema words)) ≡ 0 = ap length none in
      absurd (omega (arith, length-drop p (database_of schema words)))) (below-or-past at (length words))

  next-from : (at p : ℕ) → RowBegins schema words at p → p < row_count schema words → Next schema words at (end_of schema words at)
  next-from at p b h = next_row schema words at (placed-inside at p b h) (end_of schema words at) b.from.good refl

  -- Each row begins where it does
  pub begins : (p : ℕ) → p ≤ row_count schema words → RowBegins schema words (start_of schema words p) p
  unfolding start_of
  begins zero h = placed-start schema words good
  begins (suc p) h =
      let b = begins p (omega arith) in
      subst (λ (n : ℕ). RowBegins schema words (end_of schema words (start_of schema words p)) n) (add-one p)
      (placed-next schema words (start_of schema words p) (end_of schema words (start_of schema words p)) p b (next-from (start_of schema words p) p b (omega arith)))

  pub start-inside : (p : ℕ) → p < row_count schema words → start_of schema words p < length words
  start-inside p h = placed-inside (start_of schema words p) p (begins p (omega arith)) h

  pub start-next : (p : ℕ) → p < row_count schema words → Next schema words (start_of schema words p) (start_of schema words (suc p))
  unfolding start_of
  start-next p h = next-from (start_of schema words p) p (begins p (omega arith)) h

  -- The row as it is written
  pub start-written : (p : ℕ) → p < row_count schema words → nth_row (database_of schema words) p ≡ row_at schema words (start_of schema words p)
  start-written p h = placed_row schema words (start_of schema words p) (start_of schema words (suc p)) p (begins p (omega arith)) (start-next p h)

  -- After the last row the words end
  pub start-end : start_of schema words (row_count schema words) ≡ length words
  start-end =
      let n : ℕ = row_count schema words in
      let b = begins n (omega arith) in
      ⊎_elim
      (λ l.
      let next = next_row schema words (start_of schema words n) l (end_of schema words (start_of schema words n)) b.from.good refl in
      let some : length (drop n (database_of schema words)) ≡ suc (length (database_of schema (drop (end_of schema words (start_of schema words n)) words))) =
      ap length (b.read ∙ next.read) in
      absurd (omega (arith, length-drop n (database_of schema words))))
      (λ l. omega (arith, b.from.inside)) (below-or-past (start_of schema words n) (length words))

  pub start-le : (p : ℕ) → p ≤ row_count schema words → start_of schema words p ≤ length words
  start-le p h = (begins p h).from.inside

  pub inside-start : (p : ℕ) → p ≤ row_count schema words → start_of schema words p < length words → p < row_count schema words
  inside-start p h less =
      ⊎_elim (λ l. l)
      (λ l.
      let e : p ≡ row_count schema words = omega arith in
      let same : start_of schema words p ≡ length words = ap (start_of schema words) e ∙ start-end in
      absurd (omega arith)) (below-or-past p (row_count schema words))

  pub outside-start : (p : ℕ) → p ≤ row_count schema words → length words ≤ start_of schema words p → p ≡ row_count schema words
  outside-start p h past =
      ⊎_elim (λ l. absurd (let i = start-inside p l in omega arith)) (λ l. omega arith) (below-or-past p (row_count schema words))

-- ---- 2. rows as they are read

module _ (codes : List CodePair) (schema words : List ℕ) (good : spells_rows schema words ≡ true) where
  pub start-row : (p : ℕ) → p < row_count schema words → row_of codes schema words p ≡ row_read codes schema words (start_of schema words p)
  start-row p h =
      placed_read schema words codes (start_of schema words p) (start_of schema words (suc p)) p (begins schema words good p (omega arith))
      (start-next schema words good p h)

  -- The first word of a row is its relation
  pub start-relation : (p : ℕ) → p < row_count schema words → (row_of codes schema words p).relation ≡ get_or words (start_of schema words p) 0
  start-relation p h = ap (λ (r : Row ℕ). r.relation) (start-row p h)

  pub row_fits : (p : ℕ) → p < row_count schema words → FitsSchema schema (row_of codes schema words p)
  row_fits p h =
      read-sound codes schema (database_of schema words) (rows-spelled schema words good).1 (row_of codes schema words p)
      (get_or-in (database_read codes schema words) p (record { relation = 0; values = [] }) (omega (arith, h, read-length codes (database_of schema words))))

  -- ---- 3. rows of the relation

  module _ (x : Index) (k : Known schema x) (p : ℕ) (h : p < row_count schema words) (of : Of codes schema words x p) where
    of_width : get_or schema (get_or words (start_of schema words p) 0) 0 ≡ x.width
    of_width = ap (λ (r : ℕ). get_or schema r 0) (sym (start-relation p h) ∙ of) ∙ sym k.width

    pub of_room : start_of schema words p + 1 + x.width ≤ length words
    of_room = let n = start-next schema words good p h in let e : start_of schema words (suc p) ≡ start_of schema words p + 1 + x.width =
        n.place ∙ ap (λ (w : ℕ). start_of schema words p + 1 + w) of_width in omega (arith, n.fits)

    pub of_row : row_of codes schema words p ≡ span_read codes x.width words (start_of schema words p)
    of_row = start-row p h ∙ ap (λ (w : ℕ). span_read codes w words (start_of schema words p)) of_width

    pub of_length : length (row_of codes schema words p).values ≡ x.width
    of_length = (row_fits p h).1 ∙ ap (λ (r : ℕ). get_or schema r 0) of ∙ sym k.width

    pub of_values : (row_of codes schema words p).values ≡ (span_read codes x.width words (start_of schema words p)).values
    of_values = ap (λ (r : Row ℕ). r.values) of_row

    pub of-column : (c : ℕ) → c < x.width → column 0 (row_of codes schema words p) c ≡ read_code codes (get_or words (start_of schema words p + 1 + c) 0)
    of-column c l = ap (λ (r : Row ℕ). column 0 r c) of_row ∙ span-value codes x.width words (start_of schema words p) c l of_room

    pub of-past : (c : ℕ) → x.width ≤ c → column 0 (row_of codes schema words p) c ≡ 0
    of-past c l = get_or-eq_default (row_of codes schema words p).values 0 (omega (arith, of_length))

-- A column past the width of the relation has no value
pub with-past : (x : Index) (values : List ℕ) (c : ℕ) → x.width ≤ c → column 0 (row_with x values) c ≡ 0
with-past x values c l = get_or-eq_default (take x.width values) 0 (omega (arith, length-take x.width values))
