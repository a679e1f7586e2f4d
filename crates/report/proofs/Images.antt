-- The images that a reduction returns are good entries: the image of a variable that occurs is an entry of the result, any other is constant 0.
-- Assumes nothing.
use mathlib.Core.Path.{◌≡◌, refl, sym, subst}
use mathlib.Core.Logic.{◌≢◌, ◌⊎◌, inl, inr, ⊎_elim}
use mathlib.Core.Bool.{true}
use mathlib.Core.List.Memᴰ
use mathlib.Core.List.{List, [], ◌∷◌, ◌++◌}
use Prim.Native.Nat.{ℕ, ◌≤◌, ◌<◌}
use native.Mathlib.Omega.{arith}
use lib.ListN.{get_or, replicate}
use borrow.Author.Tests.{le-leb}
use Rattle.theory.specs.Query as theory
use Rattle.theory.specs.Query.{variables, row_entries, map_row, ◌∈◌}
use Rattle.theory.specs.Answer.{value_of, IsMapping}
use Rattle.theory.proofs.Lists.{mem-dec}
use Rattle.theory.proofs.Entries.{variables_of-mem, row-row_entries}
use Rattle.theory.proofs.Members.{row-of-entry}
use Rattle.query.specs.declared.Entry.{Entry}
use Rattle.query.specs.declared.Entry.TheVariants.{Constant, Variable}
use Rattle.query.specs.declared.Cell.{Cell}
use Rattle.query.specs.Types.{Query}
use Rattle.query.specs.View.{entry_of, query_of, images_of}
use Rattle.lists.specs.Tests.{every}
use Rattle.query.specs.Rule.{good_entry, good_cell, good_query, no_cell}
use Rattle.lists.proofs.Tests.{every_made, every-replicate}
use Rattle.query.proofs.Stored.{Within, head-within, entries-within}

-- An entry within the limits is good
within-good : (e : Entry) → Within (entry_of e) → good_entry e ≡ true
within-good (Constant n) h = le-leb n 2147483647 (omega arith)
within-good (Variable v) h = le-leb v 95 (omega arith)

module _ (schema : List ℕ) (narrow : (i : ℕ) → get_or schema i 0 ≤ 8) (q : Query) (good : good_query schema q ≡ true)
    (S : theory.Query) (f : ℕ → theory.Entry) (mapping : IsMapping S (query_of schema q) f) where
  of-head : (v : ℕ) → theory.variable v ∈ S.head → Within (f v)
  of-head v at =
      head-within 12 schema narrow q good (subst (λ (es : List theory.Entry). f v ∈ es) mapping.carries.to-head (Memᴰ.map (value_of theory.constant f) at))

  of-rows : (v : ℕ) → theory.variable v ∈ row_entries S.rows → Within (f v)
  of-rows v at =
      let found = row-of-entry S.rows at in
      entries-within 12 schema narrow q good
      (row-row_entries (query_of schema q).rows (map_row (value_of theory.constant f) found.0) (f v) (mapping.carries.to-rows found.0 found.1)
      (Memᴰ.map (value_of theory.constant f) found.2))

  -- Every image is within the limits
  image-within : (v : ℕ) → Within (f v)
  image-within v =
      ⊎_elim
      (λ at. ⊎_elim (of-head v) (of-rows v) (Memᴰ.append_cases S.head (variables_of-mem v (S.head ++ row_entries S.rows) at)))
      (λ out. subst Within (sym (mapping.elsewhere v out)) zero-within)
      (mem-dec v (variables S))
    where
      zero-within : 0 < 2147483648
      zero-within = omega arith

-- A list is empty or not
empty-or-not : {A : Type 0} (xs : List A) → (xs ≡ []) ⊎ (xs ≢ [])
empty-or-not [] = inl refl
empty-or-not (x ∷ xs) = inr (λ e. let z : ◌≡◌ {A = ℕ} 0 1 = cc in omega arith)

-- The images are good, whether they are a mapping or there is none
pub images-good : (schema : List ℕ) → ((i : ℕ) → get_or schema i 0 ≤ 8) → (q : Query) → good_query schema q ≡ true → (S : theory.Query) (images : List Cell)
    → ((query_of schema q).rows ≢ [] → IsMapping S (query_of schema q) (images_of images)) → ((query_of schema q).rows ≡ [] → images ≡ replicate 96 no_cell)
    → every good_cell images ≡ true
images-good schema narrow q good S images mapping blank =
    ⊎_elim
    (λ none. subst (λ (cells : List Cell). every good_cell cells ≡ true) (sym (blank none)) (every-replicate good_cell 96 no_cell refl))
    (λ some.
    every_made good_cell images no_cell
    (λ i h. within-good (get_or images i no_cell).entry (image-within schema narrow q good S (images_of images) (mapping some) i)))
    (empty-or-not (query_of schema q).rows)
