-- Each row linked to the one before, row after row. Assumes nothing.
use mathlib.Core.Path.{◌≡◌, sym, ap, ◌∙◌}
use mathlib.Core.Bool.{true}
use mathlib.Core.Logic.{⊎_elim}
use mathlib.Core.List.{List}
use Prim.Native.Nat.{ℕ, suc, ◌+◌, ◌*◌, ◌-◌, ◌≤◌, ◌<◌}
use native.Mathlib.Omega.{arith}
use lib.ListN.{length, get_or, set, length-set}
use lib.Seq.{get_or-set_same, get_or-set_other}
use Rattle.lists.proofs.Tests.{below-or-past}
use Rattle.words.specs.Words.{spells_rows}
use Rattle.join_lookup.specs.internal.Starts.{start_of, row_count}
use Rattle.join_lookup.proofs.Starting.{start-less, start-next, inside-start}

-- The rows before position `row`, of which the next begins at word `at`, have their links
pub record Linked (schema words old nodes : List ℕ) (at : ℕ) : Type 0 where
  pub row : ℕ
  pub place : at ≡ start_of schema words row
  pub inside : row ≤ row_count schema words
  pub size : length nodes ≡ length old
  pub prior : (q : ℕ) → q < row → get_or nodes (6 * (start_of schema words (suc q) - 1)) 0 ≡ start_of schema words q

module _ (schema words : List ℕ) (good : spells_rows schema words ≡ true) (old nodes : List ℕ) (at : ℕ) (l : Linked schema words old nodes at) where
  pub linked-inside : at < length words → l.row < row_count schema words
  linked-inside h = inside-start schema words good l.row l.inside (omega (arith, l.place))

  pub linked-after : at < length words → (after : ℕ) → after ≡ at + 1 + get_or schema (get_or words at 0) 0 → after ≡ start_of schema words (suc l.row)
  linked-after h after e =
      e ∙ ap (λ (n : ℕ). n + 1 + get_or schema (get_or words n 0) 0) l.place ∙ sym (start-next schema words good l.row (linked-inside h)).place

  pub linked-next : at < length words → (after : ℕ) → after ≡ start_of schema words (suc l.row) → 6 * (after - 1) < length nodes
      → Linked schema words old (set nodes (6 * (after - 1)) at) after
  linked-next h after e room =
      record {
        row = suc l.row;
        place = e;
        inside = linked-inside h;
        size = length-set nodes (6 * (after - 1)) at ∙ l.size;
        prior =
            λ q low. ⊎_elim
            (λ less.
            let before = start-less schema words (suc q) (suc l.row) (omega arith) in
            let more = start-less schema words q (suc q) (omega arith) in
            get_or-set_other nodes (6 * (after - 1)) (6 * (start_of schema words (suc q) - 1)) at 0 (λ same. omega (arith, e)) ∙ l.prior q less)
            (λ past.
            let same : q ≡ l.row = omega arith in
            ap (λ (n : ℕ). get_or (set nodes (6 * (after - 1)) at) (6 * (n - 1)) 0) (ap (λ (n : ℕ). start_of schema words (suc n)) same ∙ sym e)
            ∙ get_or-set_same nodes (6 * (after - 1)) at 0 room ∙ l.place ∙ ap (start_of schema words) (sym same)) (below-or-past q l.row);
      }
