-- Laws of the wide rows: a column is a cell, whose code tells its entry; agreement on columns by codes; and the test of a pair by its parts.
-- Assumes nothing.
use mathlib.Core.Path.{◌≡◌, refl, sym, ◌∙◌, ap}
use mathlib.Core.Bool.{true, false}
use mathlib.Core.List.{List, [], ◌∷◌}
use mathlib.Core.List.Memᴰ
use Prim.Native.Nat.{ℕ, ◌+◌, ◌*◌, ◌<◌}
use native.Mathlib.Decide.{ℕ_discrete}
use native.Mathlib.Omega.{arith}
use borrow.Author.Tests.{eq-eqb, ne_eqb, leb-true}
use lib.Dec.{eqb}
use lib.ListN.{take, drop, get_or, get_or-map}
use lib.Seq.{get_or-take, get_or-drop}
use Rattle.query.specs.declared.Entry as stored
use Rattle.query.specs.declared.Entry.TheVariants.{Constant, Variable}
use Rattle.query.specs.declared.Cell.{Cell}
use Rattle.query.specs.declared.Dependency.{Dependency}
use Rattle.query.specs.View.{entry_of, columns_of, dependency_of}
use Rattle.query.specs.Rule.{no_cell, good_entry, good_cell}
use Rattle.lists.specs.Tests.{every}
use Rattle.lists.proofs.Positions.{every-get_or-else}
use Rattle.first_step.specs.internal.Wide.{row_at, row_in}
use Rattle.query.specs.internal.Code.{code_of}
use Rattle.tableaux.specs.internal.Codes.{codes_of, same_on}
use Rattle.tableaux.proofs.Columns.{columns-range}
use Rattle.theory.specs.Query.{◌∈◌, constant, column, same_entry}
use Rattle.theory.specs.Chase.{agree, breaks}
use Rattle.theory.proofs.Lists.{bool_cases}

-- Column c of row i is cell 8 i + c
pub wide-column : (relation : ℕ) (cells : List Cell) (i c : ℕ) → c < 8 → column (constant 0) (row_at relation cells i) c ≡ entry_of
    (get_or cells (8 * i + c) no_cell).entry
wide-column relation cells i c h =
    get_or-map (λ (x : Cell). entry_of x.entry) (take 8 (drop (8 * i) cells)) c no_cell
    ∙ ap (λ (x : Cell). entry_of x.entry) (get_or-take 8 (drop (8 * i) cells) c no_cell h ∙ get_or-drop (8 * i) cells c no_cell)

-- Entries within the limits have the same code exactly when they are the same
pub code-tells : (a b : stored.Entry) → good_entry a ≡ true → good_entry b ≡ true → same_entry (entry_of a) (entry_of b) ≡ eqb (code_of a) (code_of b)
unfolding same_entry
code-tells (Constant m) (Constant n) good good' = refl
code-tells (Constant m) (Variable w) good good' = sym (ne_eqb m (2147483648 + w) (λ e. omega (arith, e, leb-true m 2147483647 good)))
code-tells (Variable v) (Constant n) good good' = sym (ne_eqb (2147483648 + v) n (λ e. omega (arith, e, leb-true n 2147483647 good')))
code-tells (Variable v) (Variable w) good good' = go (ℕ_discrete v w)
  where
    go : Dec (v ≡ w) → eqb v w ≡ eqb (2147483648 + v) (2147483648 + w)
    go (yes e) = rw (eq-eqb v w e, eq-eqb (2147483648 + v) (2147483648 + w) (omega (arith, e)))
    go (no other) = rw (ne_eqb v w other, ne_eqb (2147483648 + v) (2147483648 + w) (λ e. other (omega (arith, e))))

-- An entry that is read from good cells is good
pub good-read : (cells : List Cell) (k : ℕ) (e : stored.Entry) → e ≡ (get_or cells k no_cell).entry → every good_cell cells ≡ true → good_entry e ≡ true
good-read cells k e is good = rw is (every-get_or-else good_cell cells k no_cell good refl)

-- so two rows have the same entry in a column exactly when they have the same code there
module _ (cells : List Cell) (codes : List ℕ) (good : every good_cell cells ≡ true) (coded : codes ≡ codes_of cells) where
  code-at : (k : ℕ) → get_or codes k 0 ≡ code_of (get_or cells k no_cell).entry
  code-at k = ap (λ l. get_or l k 0) coded ∙ get_or-map (λ (x : Cell). code_of x.entry) cells k no_cell

  pub wide-same : (m n i j c : ℕ) → c < 8
      → same_entry (column (constant 0) (row_at m cells i) c) (column (constant 0) (row_at n cells j) c) ≡ eqb (get_or codes (8 * i + c) 0) (get_or codes (8 * j + c) 0)
  wide-same m n i j c h =
      rw (wide-column m cells i c h, wide-column n cells j c h, code-at (8 * i + c), code-at (8 * j + c))
      (code-tells (get_or cells (8 * i + c) no_cell).entry (get_or cells (8 * j + c) no_cell).entry
      (good-read cells (8 * i + c) _ refl good) (good-read cells (8 * j + c) _ refl good))

  -- and rows agree on columns exactly when their codes do
  agree-codes : (i j : ℕ) (columns : List ℕ) → ((c : ℕ) → c ∈ columns → c < 8)
      → every (λ c. eqb (get_or codes (8 * i + c) 0) (get_or codes (8 * j + c) 0)) columns ≡ agree columns (row_at 0 cells i) (row_at 0 cells j)
  unfolding agree every
  agree-codes i j [] low = refl
  agree-codes i j (c ∷ cs) low = rw (wide-same 0 0 i j c (low c (Memᴰ.head refl)), agree-codes i j cs (λ d at. low d (Memᴰ.tail at)))

  pub agree_same : (set i j : ℕ) → same_on codes set i j ≡ agree (columns_of set) (row_at 0 cells i) (row_at 0 cells j)
  agree_same set i j = agree-codes i j (columns_of set) (λ c at. (columns-range 0 8 set at).1)

-- Agreement does not look at the relations
pub agree-relations : (m n : ℕ) (cells : List Cell) (i j : ℕ) (columns : List ℕ)
    → agree columns (row_at 0 cells i) (row_at 0 cells j) ≡ agree columns (row_at m cells i) (row_at n cells j)
unfolding agree
agree-relations m n cells i j [] = refl
agree-relations m n cells i j (c ∷ cs) = rw (agree-relations m n cells i j cs)

-- ---- the test of a pair

module _ (relations : List ℕ) (cells : List Cell) (d : Dependency) (i j : ℕ) where
  pub breaks-other-first : (get_or relations i 0 ≡ d.relation → ⊥) → breaks (dependency_of d) (row_in relations cells i) (row_in relations cells j) ≡ false
  unfolding breaks
  breaks-other-first other = rw (ne_eqb _ _ other)

  module _ (first : get_or relations i 0 ≡ d.relation) where
    pub breaks-other-second : (get_or relations j 0 ≡ d.relation → ⊥) → false ≡ breaks (dependency_of d) (row_in relations cells i) (row_in relations cells j)
    unfolding breaks
    breaks-other-second other = rw (eq-eqb _ _ first, ne_eqb _ _ other)

    -- Two rows of the relation are judged by what they have in the right column, and by the left ones
    module _ (second : get_or relations j 0 ≡ d.relation) where
      pub breaks-same : same_entry (column (constant 0) (row_in relations cells i) d.right) (column (constant 0) (row_in relations cells j) d.right) ≡ true
          → false ≡ breaks (dependency_of d) (row_in relations cells i) (row_in relations cells j)
      unfolding breaks
      breaks-same same =
          rw (eq-eqb _ _ first, eq-eqb _ _ second, same)
          (bool_cases (agree (columns_of d.left) (row_in relations cells i) (row_in relations cells j)) (λ e. rw e) (λ e. rw e))

      pub breaks-differ : same_entry (column (constant 0) (row_in relations cells i) d.right) (column (constant 0) (row_in relations cells j) d.right)
          ≡ false
          → agree (columns_of d.left) (row_at 0 cells i) (row_at 0 cells j) ≡ breaks (dependency_of d) (row_in relations cells i) (row_in relations cells j)
      unfolding breaks
      breaks-differ differ =
          rw (
            eq-eqb _ _ first,
            eq-eqb _ _ second,
            ← agree-relations (get_or relations i 0) (get_or relations j 0) cells i j (columns_of d.left),
            differ,
          )
          (bool_cases (agree (columns_of d.left) (row_at 0 cells i) (row_at 0 cells j)) (λ e. rw e) (λ e. rw e))
