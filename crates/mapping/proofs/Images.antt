-- How images are collected: column by column of a row, then row by row.
-- Assumes nothing.
use mathlib.Core.Path.{◌≡◌, refl, sym, ◌∙◌, ap, subst}
use mathlib.Core.Logic.{◌⊎◌, inl, inr, ⊎_elim}
use mathlib.Core.List.{List}
use Prim.Native.Nat.{ℕ, ◌+◌, ◌-◌, ◌%◌, ◌≤◌, ◌<◌}
use native.Mathlib.Nat.{not-suc-le-zero}
use native.Mathlib.Decide.{ℕ_discrete}
use native.Mathlib.Omega.{arith}
use borrow.Author.Count.{below_more}
use lib.ListN.{get_or, length, set, replicate, get_or-replicate}
use lib.Seq.{get_or-set_same, get_or-set_other}
use Rattle.theory.specs.Query.{Entry}
use Rattle.query.specs.declared.Entry as stored
use Rattle.query.specs.declared.Entry.TheVariants.{Constant, Variable}
use Rattle.query.specs.View.{entry_of}
use Rattle.query.specs.declared.Cell.{Cell}
use Rattle.query.specs.internal.Code.{decoded}
use Rattle.query.proofs.Codes.{code-variable}
use Rattle.query.specs.Rule.{no_cell}
use Rattle.candidates.specs.internal.Candidates.{row_start, image_start}
use Rattle.mapping.specs.internal.Lines.{RowAssigned, Assigned}

-- The variable of a code that a good query has
pub variable-small : (code v : ℕ) → code < 2147483744 → decoded code ≡ Variable v → (v < 96) × (code ≡ 2147483648 + v)
variable-small code v small is =
    let parts = code-variable code v is in
    let large : 2147483648 ≤ code = parts.0 in
    let number : (code - 2147483648) % 256 ≡ v = parts.1 in
    (omega arith, omega arith)

-- ---- one row

pub row-start : (before : List Cell) (source : List ℕ) (target : List Cell) (row image : ℕ) → RowAssigned before source target row image 0 before
row-start before source target row image v h = inl ((λ i l. absurd (not-suc-le-zero l)), refl)

module _ (before : List Cell) (source : List ℕ) (target : List Cell) (row image i : ℕ) (out : List Cell)
    (was : RowAssigned before source target row image i out) where
  -- A column with a constant
  pub row-skip : get_or source (row + i) 0 < 2147483648 → RowAssigned before source target row image (i + 1) out
  row-skip small v h =
      ⊎_elim
      (λ w. inl (
        below_more (λ (k : ℕ). get_or source (row + k) 0 ≡ 2147483648 + v → ⊥) i w.0
            (λ e. let z : get_or source (row + i) 0 ≡ 2147483648 + v = e in omega arith),
        w.1,
      ))
      (λ w. let l : w.0 < i = w.1 in inr (w.0, omega arith, w.2, w.3))
      (was v h)

  -- A column with a variable
  pub row-store : (x : ℕ) → x < 96 → length out ≡ 96 → get_or source (row + i) 0 ≡ 2147483648 + x
      → RowAssigned before source target row image (i + 1) (set out x (get_or target (image + i) no_cell))
  row-store x small long here v h = go (ℕ_discrete v x)
    where
      go : Dec (v ≡ x)
          → (((k : ℕ) → k < i + 1 → get_or source (row + k) 0 ≡ 2147483648 + v → ⊥)
          × (get_or (set out x (get_or target (image + i) no_cell)) v no_cell ≡ get_or before v no_cell))
          ⊎ ((k : ℕ) × (k < i + 1) × (get_or source (row + k) 0 ≡ 2147483648 + v)
          × (get_or (set out x (get_or target (image + i) no_cell)) v no_cell ≡ get_or target (image + k) no_cell))
      go (yes same) =
          inr (
            i,
            omega arith,
            (here ∙ ap (λ (y : ℕ). 2147483648 + y) (sym same)),
            (ap (λ (y : ℕ). get_or (set out x (get_or target (image + i) no_cell)) y no_cell) same
                ∙ get_or-set_same out x (get_or target (image + i) no_cell) no_cell (omega arith)),
          )
      go (no other) =
          let kept : get_or (set out x (get_or target (image + i) no_cell)) v no_cell ≡ get_or out v no_cell =
          get_or-set_other out x v (get_or target (image + i) no_cell) no_cell other
          in
          ⊎_elim
          (λ w.
          inl (
            below_more (λ (k : ℕ). get_or source (row + k) 0 ≡ 2147483648 + v → ⊥) i w.0
                (λ e. let z : get_or source (row + i) 0 ≡ 2147483648 + v = e in other (omega arith)),
            kept ∙ w.1,
          ))
          (λ w. let l : w.0 < i = w.1 in inr (w.0, omega arith, w.2, kept ∙ w.3))
          (was v h)

-- ---- all rows

pub rows_start : (source : List ℕ) (target : List Cell) (size : ℕ) (choice : ℕ → ℕ) → Assigned source target size choice 0 (replicate 96 no_cell)
rows_start source target size choice v h = inl ((λ r i l. absurd (not-suc-le-zero l)), get_or-replicate 96 v no_cell no_cell h)

-- One row more
pub rows_more : (source : List ℕ) (target : List Cell) (size : ℕ) (choice : ℕ → ℕ) (n row image : ℕ) (before out : List Cell)
    → row ≡ row_start size n → image ≡ image_start size n (choice n)
    → Assigned source target size choice n before → RowAssigned before source target row image 8 out
    → Assigned source target size choice (n + 1) out
rows_more source target size choice n row image before out at_row at-image was now v h =
    ⊎_elim
    (λ w.
    ⊎_elim
    (λ u.
    inl (
      (λ r i l k.
          below_more (λ (r : ℕ). (i : ℕ) → i < 8 → get_or source (row_start size r + i) 0 ≡ 2147483648 + v → ⊥) n (λ r' l' i'. u.0 r' i' l')
          (subst (λ (s : ℕ). (i : ℕ) → i < 8 → get_or source (s + i) 0 ≡ 2147483648 + v → ⊥) at_row w.0) r l i k),
      w.1 ∙ u.1,
    ))
    (λ u. let l : u.0 < n = u.2 in inr (u.0, u.1, omega arith, u.3, u.4, w.1 ∙ u.5))
    (was v h))
    (λ w.
    inr (
      n,
      w.0,
      omega arith,
      w.1,
      subst (λ (s : ℕ). get_or source (s + w.0) 0 ≡ 2147483648 + v) at_row w.2,
      subst (λ (s : ℕ). get_or out v no_cell ≡ get_or target (s + w.0) no_cell) at-image w.3,
    ))
    (now v h)

-- ---- stored entries and what they stand for

entry-same : (a b : stored.Entry) → entry_of a ≡ entry_of b → a ≡ b
entry-same (Constant m) (Constant n) e = cc
entry-same (Constant m) (Variable w) e = absurd (cc)
entry-same (Variable v) (Constant n) e = absurd (cc)
entry-same (Variable v) (Variable w) e = cc

-- Where two stored entries differ, so do the entries that they stand for
pub entries-apart : (a b : stored.Entry) (e : Entry) → entry_of a ≡ e → (a ≡ b → ⊥) → e ≡ entry_of b → ⊥
entries-apart a b e is apart same = apart (entry-same a b (is ∙ same))
