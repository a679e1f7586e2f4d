-- The images of a mapping as they are read: what a loop over them makes, and that the variables in the rows of a good query are all its variables.
-- Assumes nothing.
use mathlib.Core.Path.{◌≡◌, refl, sym, ap, ap₂, ◌∙◌}
use mathlib.Core.Bool.{Bool, true, false, cond}
use mathlib.Core.List.{List, [], ◌∷◌, ◌++◌}
use Prim.Native.Nat.{ℕ, zero, suc, ◌+◌, ◌≤◌, ◌<◌}
use Rattle.std.proofs.Common.{not-suc-le-zero, le_of_suc-le-suc, zero-add, ⊎_elim}
use native.Mathlib.Numerals.{add-one}
use native.Mathlib.Omega.{arith}
use lib.ListN.{length, get_or, set}
use Rattle.query.specs.declared.Cell.{Cell}
use Rattle.query.specs.View.{entry_of, entries_of}
use mathlib.Core.List.Memᴰ
use Rattle.theory.specs.Query.{Entry, Query, variables_of, row_entries, variables, member, WellFormed}
use Rattle.theory.proofs.Lists.{member-mem, mem-member, member-not-mem, not-mem-member}
use Rattle.theory.proofs.Entries.{variables_of-mem, mem-variables_of}
use Rattle.theory.specs.Codes.{CodePair, read_entry}
use Rattle.codes.specs.internal.Codes.{read_cell}
use Rattle.comparison.specs.internal.Images.{image_read}
use Rattle.codes.proofs.Reading.{entry-read}
use Rattle.comparison.specs.Comparison.{read_images}

module _ (ps : List CodePair) (among : List ℕ) where
  -- The first k of some images read, the first being that of variable v
  unfoldable pub read_first : ℕ → ℕ → List Cell → List Cell
  read_first v zero cells = cells
  read_first v (suc k) [] = []
  read_first v (suc k) (c ∷ cells) = image_read ps among v c ∷ read_first (suc v) k cells

  first-more : (v k : ℕ) (cells : List Cell) (d : Cell) → k < length cells
      → set (read_first v k cells) k (image_read ps among (v + k) (get_or cells k d)) ≡ read_first v (suc k) cells
  unfolding read_first
  first-more v k [] d h = absurd (not-suc-le-zero h)
  first-more v zero (c ∷ cells) d h = ap (λ (n : ℕ). image_read ps among n c ∷ cells) (omega arith)
  first-more v (suc k) (c ∷ cells) d h =
      ap (λ (l : List Cell). image_read ps among v c ∷ l)
      (ap (λ (n : ℕ). set (read_first (suc v) k cells) k (image_read ps among n (get_or cells k d))) (omega arith) ∙ first-more (suc v) k cells d (le_of_suc-le-suc h))

  first-here : (v k : ℕ) (cells : List Cell) (d : Cell) → get_or (read_first v k cells) k d ≡ get_or cells k d
  unfolding read_first
  first-here v zero cells d = refl
  first-here v (suc k) [] d = refl
  first-here v (suc k) (c ∷ cells) d = first-here (suc v) k cells d

  -- Nothing is read at first
  pub images-none : (cells : List Cell) → cells ≡ read_first 0 0 cells
  unfolding read_first
  images-none cells = refl

  -- One more is read
  pub images-more : (k : ℕ) (cells all : List Cell) (y d : Cell) → k < length cells → all ≡ read_first 0 k cells
      → y ≡ image_read ps among k (get_or all k d) → set all k y ≡ read_first 0 (k + 1) cells
  images-more k cells all y d h was e =
      let same : get_or all k d ≡ get_or cells k d = ap (λ (l : List Cell). get_or l k d) was ∙ first-here 0 k cells d in
      ap₂ (λ (l : List Cell) (c : Cell). set l k c) was
      (e ∙ ap (image_read ps among k) same ∙ sym (ap (λ (n : ℕ). image_read ps among n (get_or cells k d)) (zero-add k)))
      ∙ first-more 0 k cells d h ∙ ap (λ (n : ℕ). read_first 0 n cells) (sym (add-one k))

  -- At the end all are
  all-read : (v : ℕ) (cells : List Cell) (k : ℕ) → length cells ≤ k → entries_of (read_first v k cells) ≡ read_images ps among v (entries_of cells)
  unfolding read_first read_images
  all-read v [] zero h = refl
  all-read v [] (suc k) h = refl
  all-read v (c ∷ cells) zero h = absurd (not-suc-le-zero h)
  all-read v (c ∷ cells) (suc k) h =
      ap₂ (λ (e : Entry) (es : List Entry). e ∷ es) (one (member v among)) (all-read (suc v) cells k (le_of_suc-le-suc h))
    where
      one : (b : Bool) → entry_of (cond b (read_cell ps c) c).entry ≡ cond b (read_entry ps (entry_of c.entry)) (entry_of c.entry)
      one true = entry-read ps c.entry
      one false = refl

  pub images-done : (k : ℕ) (cells all : List Cell) → length cells ≤ k → all ≡ read_first 0 k cells → entries_of all ≡ read_images ps among 0 (entries_of cells)
  images-done k cells all h was = ap entries_of was ∙ all-read 0 cells k h

-- ---- the variables

-- The variables in the rows of a query with a safe head are all that it has
same-variables : (widths : List ℕ) (q : Query) → WellFormed widths q → (v : ℕ) → member v (variables_of (row_entries q.rows)) ≡ member v (variables q)
same-variables widths q formed v = by-test (member v (variables_of (row_entries q.rows))) refl where
  by-test : (b : Bool) → member v (variables_of (row_entries q.rows)) ≡ b → member v (variables_of (row_entries q.rows)) ≡ member v (variables q)
  by-test true e =
      e
      ∙ sym (mem-member v (variables q)
      (mem-variables_of v (q.head ++ row_entries q.rows)
      (Memᴰ.append_right q.head (variables_of-mem v (row_entries q.rows) (member-mem v (variables_of (row_entries q.rows)) e)))))
  by-test false e =
      e
      ∙ sym (not-mem-member v (variables q)
      (λ at.
      member-not-mem v (variables_of (row_entries q.rows)) e
      (⊎_elim (λ h. formed.head-safe v (mem-variables_of v q.head h)) (mem-variables_of v (row_entries q.rows))
      (Memᴰ.append_cases q.head (variables_of-mem v (q.head ++ row_entries q.rows) at)))))

-- What is read is the same by lists of the same variables
images-among : (ps : List CodePair) (among others : List ℕ) → ((v : ℕ) → member v among ≡ member v others) → (v : ℕ) (es : List Entry)
    → read_images ps among v es ≡ read_images ps others v es
unfolding read_images
images-among ps among others same v [] = refl
images-among ps among others same v (e ∷ es) =
    ap₂ (λ (b : Bool) (rest : List Entry). cond b (read_entry ps e) e ∷ rest) (same v) (images-among ps among others same (suc v) es)

pub images-read : (ps : List CodePair) (widths : List ℕ) (q : Query) (es : List Entry) → WellFormed widths q
    → read_images ps (variables_of (row_entries q.rows)) 0 es ≡ read_images ps (variables q) 0 es
images-read ps widths q es formed = images-among ps (variables_of (row_entries q.rows)) (variables q) (same-variables widths q formed) 0 es
