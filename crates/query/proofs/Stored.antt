-- What the fields of a good query and a good dependency are for the theory, for every width, row count and arity:
--   1. members of lists, 2. entries within the limits, 3. rows, 4. the stored query as a query of the theory, 5. dependencies, 6. cells by position.
-- A law that needs an array to be long enough asks it, since the lengths of arrays are the types'.
use mathlib.Core.Path.{◌≡◌, refl, sym, ap, subst, ◌∙◌}
use mathlib.Core.Logic.{⊎_elim}
use mathlib.Core.Bool.{Bool, true, false, cond}
use mathlib.Core.List.Memᴰ
use mathlib.Core.List.{List, [], ◌∷◌, ◌++◌}
use Prim.Native.Nat.{ℕ, zero, suc, ◌+◌, ◌*◌, ◌/◌, ◌%◌, ◌^◌, ◌≤◌, ◌<◌}
use native.Mathlib.Nat.{le_of_suc-le-suc, not-suc-le-zero, two-pow-succ}
use native.Mathlib.Omega.{arith}
use lib.Dec.{eqb, ltb}
use lib.ListN.{length, take, drop, get_or, length-take, length-drop, length-map}
use lib.Seq.{get_or-take, take-add, take-take, drop-drop, length-take-le}
use borrow.Author.Tests.{leb-true, ltb-true, eqb-true}
use Rattle.theory.specs.Query as theory
use Rattle.theory.specs.Query.{variables_of, row_entries, WellFormed, FitsSchema, ◌∈◌}
use Rattle.theory.specs.Containment.{ConstantsBelow}
use Rattle.query.specs.declared.Entry.{Entry}
use Rattle.query.specs.declared.Entry.TheVariants.{Constant, Variable}
use Rattle.query.specs.declared.Cell.{Cell}
use Rattle.query.specs.Types.{Query}
use Rattle.query.specs.View.{entry_of, entries_of, rows_of, query_of, columns_from}
use Rattle.lists.specs.Tests.{every, in_use}
use Rattle.query.specs.Rule.{good_entry, good_cell, blank_entry, blank_cell, good_row, good_rows, head_in_use, good_up_to, head_safe}
use Rattle.theory.proofs.Lists.{subset-true}
use Rattle.lists.proofs.Tests.{and_left, and_right, and_both, every_append, used-whole, every_take, used_all, used-good}
use Rattle.query.proofs.Good.{good-query}

-- ---- 1. members of lists

-- A variable of some entries is one of the entries
pub variable-in : (es : List theory.Entry) {v : ℕ} → v ∈ variables_of es → theory.variable v ∈ es
unfolding variables_of
variable-in [] {v = v} at = elim at [ ]
variable-in (theory.constant n ∷ es) at = Memᴰ.tail (variable-in es at)
variable-in (theory.variable w ∷ es) at =
    ⊎_elim (λ p. Memᴰ.head (ap theory.variable p)) (λ m. Memᴰ.tail (variable-in es m)) (Memᴰ.cases_cons at)

-- ---- 2. entries within the limits

-- A constant below 2,147,483,648 or a variable below 96
abbrev pub Within : theory.Entry → Type 0
Within (theory.constant n) = n < 2147483648
Within (theory.variable v) = v < 96

pub entry-within : (e : Entry) → good_entry e ≡ true → Within (entry_of e)
entry-within (Constant n) e = let h : n ≤ 2147483647 = leb-true n 2147483647 e in omega arith
entry-within (Variable v) e = let h : v ≤ 95 = leb-true v 95 e in omega arith

-- Good cells stand for entries within the limits
pub cells-within : (cells : List Cell) {e : theory.Entry} → every good_cell cells ≡ true → e ∈ entries_of cells → Within e
unfolding every
cells-within [] {e = e} g x'' = elim x'' [ ]
cells-within (c ∷ cs) g (Memᴰ.head p) = subst Within (sym p) (entry-within c.entry (and_left (good_cell c) (every good_cell cs) g))
cells-within (c ∷ cs) g (Memᴰ.tail at) = cells-within cs (and_right (good_cell c) (every good_cell cs) g) at

pub blank-good : (e : Entry) → blank_entry e ≡ true → good_entry e ≡ true
blank-good (Constant n) e = rw (eqb-true n 0 e)
blank-good (Variable v) e = let z : ◌≡◌ {A = ℕ} 0 1 = ap (λ (t : Bool). cond {A = ℕ} t 1 0) e in absurd (omega arith)

-- ---- 3. rows

-- A good row names a known relation, and its cells are good and blank
pub row-parts : (schema : List ℕ) (relation : ℕ) (cells : List Cell) → good_row schema relation cells ≡ true
    → (relation < length schema) × (in_use (get_or schema relation 0) good_cell blank_cell cells ≡ true)
row-parts schema relation cells e =
    let a : Bool = ltb relation (length schema) in
    let b : Bool = in_use (get_or schema relation 0) good_cell blank_cell cells in
    (ltb-true relation (length schema) (and_left a b e), and_right a b e)

-- Of good rows the first is good, and so are the others
pub rows-first : (schema : List ℕ) (k : ℕ) (rs : List ℕ) (cells : List Cell) → good_rows schema (k ∷ rs) cells ≡ true → good_row schema k (take 8 cells) ≡ true
unfolding good_rows
rows-first schema k rs cells e = and_left (good_row schema k (take 8 cells)) (good_rows schema rs (drop 8 cells)) e

pub rows-rest : (schema : List ℕ) (k : ℕ) (rs : List ℕ) (cells : List Cell) → good_rows schema (k ∷ rs) cells ≡ true → good_rows schema rs (drop 8 cells) ≡ true
unfolding good_rows
rows-rest schema k rs cells e = and_right (good_row schema k (take 8 cells)) (good_rows schema rs (drop 8 cells)) e

-- Of good rows each is good: row i has the cells from 8 * i on
pub row_at : (schema rs : List ℕ) (cells : List Cell) (i : ℕ) → good_rows schema rs cells ≡ true → i < length rs
    → good_row schema (get_or rs i 0) (take 8 (drop (8 * i) cells)) ≡ true
row_at schema [] cells i e h = absurd (not-suc-le-zero h)
row_at schema (k ∷ rs) cells zero e h = rows-first schema k rs cells e
row_at schema (k ∷ rs) cells (suc i) e h =
    let next : 8 + 8 * i ≡ 8 * suc i = omega arith in
    subst (λ (cs : List Cell). good_row schema (get_or rs i 0) (take 8 cs) ≡ true) (drop-drop (8 * i) 8 cells ∙ ap (λ (n : ℕ). drop n cells) next)
    (row_at schema rs (drop 8 cells) i (rows-rest schema k rs cells e) (le_of_suc-le-suc h))

-- And where each is good, all are
pub rows_made : (schema rs : List ℕ) (cells : List Cell)
    → ((i : ℕ) → i < length rs → good_row schema (get_or rs i 0) (take 8 (drop (8 * i) cells)) ≡ true) → good_rows schema rs cells ≡ true
unfolding good_rows
rows_made schema [] cells at = refl
rows_made schema (k ∷ rs) cells at =
    and_both (good_row schema k (take 8 cells)) (good_rows schema rs (drop 8 cells)) (at 0 (omega arith))
    (rows_made schema rs (drop 8 cells)
    (λ i h.
    let next : 8 * suc i ≡ 8 + 8 * i = omega arith in
    subst (λ (cs : List Cell). good_row schema (get_or rs i 0) (take 8 cs) ≡ true)
    (ap (λ (n : ℕ). drop n cells) next ∙ sym (drop-drop (8 * i) 8 cells)) (at (suc i) (omega arith))))

module _ (schema : List ℕ) (narrow : (i : ℕ) → get_or schema i 0 ≤ 8) where
  -- The rows of good rows fit the schema
  pub rows_fit : (rs : List ℕ) (cells : List Cell) {r : theory.Row theory.Entry} → 8 * length rs ≤ length cells
      → good_rows schema rs cells ≡ true → r ∈ rows_of schema rs cells → FitsSchema schema r
  unfolding rows_of
  rows_fit [] cells {r = r} long good x3 = elim x3 [ ]
  rows_fit (k ∷ rs) cells long good (Memᴰ.head p) =
      let wide : get_or schema k 0 ≤ length cells = omega (arith, narrow k) in
      subst (FitsSchema schema) (sym p) (
        (row-parts schema k (take 8 cells) (rows-first schema k rs cells good)).0,
        length-map (take (get_or schema k 0) cells) (λ (c : Cell). entry_of c.entry) ∙ length-take-le (get_or schema k 0) cells wide,
      )
  rows_fit (k ∷ rs) cells long good (Memᴰ.tail at) =
      rows_fit rs (drop 8 cells) (rw length-drop (omega arith)) (rows-rest schema k rs cells good) at

  -- The entries of good rows are within the limits
  pub rows-within : (rs : List ℕ) (cells : List Cell) {e : theory.Entry} → good_rows schema rs cells ≡ true → e ∈ row_entries (rows_of schema rs cells) → Within e
  unfolding rows_of row_entries
  rows-within [] cells {e = e} good at = elim at [ ]
  rows-within (k ∷ rs) cells good at =
      let w : ℕ = get_or schema k 0 in
      let used : every good_cell (take w (take 8 cells)) ≡ true =
      used-good w good_cell blank_cell (take 8 cells) (row-parts schema k (take 8 cells) (rows-first schema k rs cells good)).1
      in
      let here : every good_cell (take w cells) ≡ true = subst (λ (cs : List Cell). every good_cell cs ≡ true) (take-take w 8 cells (narrow k)) used in
      ⊎_elim (cells-within (take w cells) here) (λ m. rows-within rs (drop 8 cells) (rows-rest schema k rs cells good) m)
      (Memᴰ.append_cases (entries_of (take w cells)) at)

-- ---- 4. the stored query as a query of the theory

module _ (most : ℕ) (schema : List ℕ) (narrow : (i : ℕ) → get_or schema i 0 ≤ 8) (q : Query) (good : good_up_to most schema q ≡ true) where
  head-used : every good_cell (take q.arity q.head) ≡ true
  head-used =
      every_take good_cell q.arity q.head
      (used_all (head_in_use q) good_cell blank_cell q.head (λ c. blank-good c.entry) (good-query most schema q good).head)

  -- Its entries are within the limits
  pub head-within : {e : theory.Entry} → e ∈ (query_of schema q).head → Within e
  head-within at = cells-within (take q.arity q.head) head-used at

  pub entries-within : {e : theory.Entry} → e ∈ row_entries (query_of schema q).rows → Within e
  entries-within at = rows-within schema narrow (take q.size q.relations) q.cells (good-query most schema q good).rows at

  -- Its constants are below 2,147,483,648
  pub constants-below : ConstantsBelow 2147483648 (query_of schema q)
  constants-below = record { of-head = λ n at. head-within at; of-rows = λ n at. entries-within at }

  -- Its variables are below 96
  pub variables-below : (v : ℕ) → v ∈ theory.variables (query_of schema q) → v < 96
  variables-below v at =
      ⊎_elim head-within entries-within
      (Memᴰ.append_cases (query_of schema q).head (variable-in ((query_of schema q).head ++ row_entries (query_of schema q).rows) at))

  -- It is well-formed
  pub well-formed : 8 * q.size ≤ length q.cells → head_safe schema q ≡ true → WellFormed schema (query_of schema q)
  unfolding head_safe
  well-formed long safe =
      record {
        rows_fit = λ r at. rows_fit schema narrow (take q.size q.relations) q.cells (rw length-take (omega arith)) (good-query most schema q good).rows at;
        head-safe = λ v at. subset-true (variables_of (query_of schema q).head) (variables_of (row_entries (query_of schema q).rows)) safe v at;
      }

-- ---- 5. dependencies

-- A mask below 2 ^ k has no columns past k
pub no-columns : (start n : ℕ) → columns_from start n 0 ≡ []
unfolding columns_from
no-columns start zero = refl
no-columns start (suc n) = no-columns (suc start) n

pub columns-below : (start n mask k : ℕ) {c : ℕ} → mask < 2 ^ k → c ∈ columns_from start n mask → c < start + k
unfolding columns_from
columns-below start n mask zero {c} h at =
    let none : mask ≡ 0 = omega arith in
    absurd (Memᴰ.not-nil (subst (λ (cs : List ℕ). c ∈ cs) (no-columns start n) (subst (λ (m : ℕ). c ∈ columns_from start n m) none at)))
columns-below start zero mask (suc k) {c = c} h at = elim at [ ]
columns-below start (suc n) mask (suc k) {c} h at =
    let half : mask / 2 < 2 ^ k = omega (arith, two-pow-succ k) in
    go (eqb (mask % 2) 1) at (columns-below (suc start) n (mask / 2) k half)
  where
    go : (t : Bool) → c ∈ cond t (start ∷ columns_from (suc start) n (mask / 2)) (columns_from (suc start) n (mask / 2))
        → (c ∈ columns_from (suc start) n (mask / 2) → c < suc start + k) → c < start + suc k
    go true m rest = ⊎_elim (λ p. omega arith) (λ l. let h : c < suc start + k = rest l in omega arith) (Memᴰ.cases_cons m)
    go false m rest = let h : c < suc start + k = rest m in omega arith

-- ---- 6. cells by position

module _ (most : ℕ) (schema : List ℕ) (q : Query) (good : good_up_to most schema q ≡ true) (i : ℕ) (h : i < q.size) (long : q.size ≤ length q.relations) where
  -- Row i names a known relation, and of its 8 cells those of the relation's columns are good and the others blank
  pub row-good : (get_or q.relations i 0 < length schema)
      × (in_use (get_or schema (get_or q.relations i 0) 0) good_cell blank_cell (take 8 (drop (8 * i) q.cells)) ≡ true)
  row-good =
      let inside : i < length (take q.size q.relations) = rw (length-take-le q.size q.relations long) h in
      let read : get_or (take q.size q.relations) i 0 ≡ get_or q.relations i 0 = get_or-take q.size q.relations i 0 h in
      row-parts schema (get_or q.relations i 0) (take 8 (drop (8 * i) q.cells))
      (ap (λ (k : ℕ). good_row schema k (take 8 (drop (8 * i) q.cells))) (sym read)
      ∙ row_at schema (take q.size q.relations) q.cells i (good-query most schema q good).rows inside)

-- All cells of good rows are good, those that are not in use too
pub rows-cells : (schema rs : List ℕ) (cells : List Cell) → good_rows schema rs cells ≡ true → every good_cell (take (8 * length rs) cells) ≡ true
unfolding every
rows-cells schema [] cells e = refl
rows-cells schema (k ∷ rs) cells e =
    let more : 8 * length (k ∷ rs) ≡ 8 + 8 * length rs = omega arith in
    ap (λ (n : ℕ). every good_cell (take n cells)) more ∙ ap (every good_cell) (take-add 8 (8 * length rs) cells)
    ∙ every_append good_cell (take 8 cells) (take (8 * length rs) (drop 8 cells))
    (used_all (get_or schema k 0) good_cell blank_cell (take 8 cells) (λ c. blank-good c.entry)
    (row-parts schema k (take 8 cells) (rows-first schema k rs cells e)).1)
    (rows-cells schema rs (drop 8 cells) (rows-rest schema k rs cells e))

module _ (most : ℕ) (schema : List ℕ) (q : Query) (good : good_up_to most schema q ≡ true) where
  -- Every cell of the head, and every cell of the rows, in use or not, is good
  pub head-cells : every good_cell q.head ≡ true
  head-cells = used_all (head_in_use q) good_cell blank_cell q.head (λ c. blank-good c.entry) (good-query most schema q good).head

  pub all-cells : q.size ≤ length q.relations → every good_cell q.cells ≡ true
  all-cells long =
      let rows : length (take q.size q.relations) ≡ q.size = length-take-le q.size q.relations long in
      let used : every good_cell (take (8 * q.size) q.cells) ≡ true =
      ap (λ (n : ℕ). every good_cell (take (8 * n) q.cells)) (sym rows)
      ∙ rows-cells schema (take q.size q.relations) q.cells (good-query most schema q good).rows
      in
      used_all (8 * q.size) good_cell blank_cell q.cells (λ c. blank-good c.entry)
      (used-whole (8 * q.size) good_cell blank_cell q.cells used (good-query most schema q good).cells)
