-- Rows that have some values in the columns of a set. Assumes nothing.
use mathlib.Core.Path.{◌≡◌, sym, ◌∙◌, ap}
use mathlib.Core.Logic.{⊎_elim}
use mathlib.Core.Bool.{true}
use mathlib.Core.List.{List}
use Prim.Native.Nat.{ℕ, ◌+◌, ◌≤◌, ◌<◌}
use native.Mathlib.Omega.{arith}
use lib.ListN.{length, get_or}
use lib.Seq.{get_or-take}
use Rattle.lists.proofs.Tests.{below-or-past}
use Rattle.theory.specs.Query.{column}
use Rattle.words.specs.Words.{spells_rows}
use Rattle.join_lookup.specs.declared.Index.{Index}
use Rattle.join_lookup.specs.internal.Starts.{BeginsAt, row_of, row_with, Has, Known}
use Rattle.join_lookup.proofs.Starting.{start-inside, start-relation, of_room, of-column, of-past, with-past}
use Rattle.theory.specs.Codes.{CodePair}
use Rattle.theory.specs.Codes.{read_code}
use Rattle.join_lookup.proofs.Bits.{BitOf, column-bit, bit-column}

-- A column of values
pub with-column : (x : Index) (values : List ℕ) (c : ℕ) → c < x.width → column 0 (row_with x values) c ≡ get_or values c 0
with-column x values c l = get_or-take x.width values c 0 l

module _ (codes : List CodePair) (schema words : List ℕ) (good : spells_rows schema words ≡ true) (x : Index) (k : Known schema x) (at p : ℕ)
    (b : BeginsAt schema words at p) where
  pub begins-inside : at < length words
  begins-inside = omega (arith, b.0, start-inside schema words good p b.1)

  module _ (relation : get_or words at 0 ≡ x.relation) where
    begins-of : (row_of codes schema words p).relation ≡ x.relation
    begins-of = start-relation codes schema words good p b.1 ∙ ap (λ (n : ℕ). get_or words n 0) (sym b.0) ∙ relation

    pub begins-room : at + 1 + x.width ≤ length words
    begins-room = omega (arith, b.0, of_room codes schema words good x k p b.1 begins-of)

    pub begins-column : (c : ℕ) → c < x.width → column 0 (row_of codes schema words p) c ≡ read_code codes (get_or words (at + 1 + c) 0)
    begins-column c l =
        of-column codes schema words good x k p b.1 begins-of c l ∙ ap (λ (n : ℕ). read_code codes (get_or words (n + 1 + c) 0)) (sym b.0)

    pub made-has : (columns : ℕ) (values : List ℕ) → columns < 256
        → ((c : ℕ) → c < x.width → BitOf columns c → read_code codes (get_or words (at + 1 + c) 0) ≡ get_or values c 0)
        → Has codes schema words x columns values p
    made-has columns values small same = (
      begins-of,
      λ c there. ⊎_elim
          (λ l. begins-column c l ∙ same c l (column-bit columns c small there) ∙ sym (with-column x values c l))
          (λ l. of-past codes schema words good x k p b.1 begins-of c l ∙ sym (with-past x values c l)) (below-or-past c x.width),
    )

  pub other-relation : (columns : ℕ) (values : List ℕ) → (get_or words at 0 ≡ x.relation → ⊥) → Has codes schema words x columns values p → ⊥
  other-relation columns values other h =
      other (ap (λ (n : ℕ). get_or words n 0) b.0 ∙ sym (start-relation codes schema words good p b.1) ∙ h.0)

  pub other-column : (columns : ℕ) (values : List ℕ) (c : ℕ) → columns < 256 → c < x.width → BitOf columns c
      → (read_code codes (get_or words (at + 1 + c) 0) ≡ get_or values c 0 → ⊥) → Has codes schema words x columns values p → ⊥
  other-column columns values c small l bit other h =
      other (ap (λ (n : ℕ). read_code codes (get_or words (n + 1 + c) 0)) b.0 ∙ sym (of-column codes schema words good x k p b.1 h.0 c l)
      ∙ h.1 c (bit-column columns c small bit) ∙ with-column x values c l)
