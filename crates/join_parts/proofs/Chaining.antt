-- The chains of the parts, row after row. Assumes nothing.
use mathlib.Core.Path.{◌≡◌, sym, ◌∙◌, ap, subst}
use mathlib.Core.Logic.{⊎_elim}
use mathlib.Core.List.{List}
use Prim.Native.Nat.{ℕ, suc, ◌+◌, ◌≤◌, ◌<◌}
use native.Mathlib.Decide.{ℕ_discrete}
use native.Mathlib.Omega.{arith}
use lib.ListN.{length, get_or, set}
use lib.Seq.{get_or-set_same, get_or-set_other}
use Rattle.lists.proofs.Tests.{below-or-past}
use Rattle.join_lookup.specs.internal.Starts.{start_of, row_of, Of}
use Rattle.join_lookup.proofs.Starting.{start-less}
use Rattle.join_parts.specs.declared.Partition.{Partition}
use Rattle.theory.specs.Codes.{CodePair}
use Rattle.join_parts.specs.internal.Parts.{part_of, InPart, Last, Chained}

module _ (codes : List CodePair) (schema words : List ℕ) (x : Partition) where
  -- No row
  pub chained-none : (heads links : List ℕ) → ((b : ℕ) → b < x.index.buckets → get_or heads b 0 ≡ 0) → Chained codes schema words x 0 heads links
  chained-none heads links empty =
      record {
        head = λ b low. record { rows = 0; inside = omega arith; links = empty b low; passed = λ p l m. absurd (omega arith) };
        link = λ p low. absurd (omega arith);
      }

  module _ (p : ℕ) where
    -- A row that is not in the part
    last-more : (b r : ℕ) → (InPart codes schema words x b p → ⊥) → Last codes schema words x b p r → Last codes schema words x b (suc p) r
    last-more b r out l =
        record {
          rows = l.rows;
          inside = omega (arith, l.inside);
          links = l.links;
          passed =
              λ q low high. ⊎_elim (λ less. l.passed q low less)
              (λ past. let e : p ≡ q = omega arith in λ in_part. out (subst (InPart codes schema words x b) (sym e) in_part)) (below-or-past q p);
        }

    module _ (heads links : List ℕ) (c : Chained codes schema words x p heads links) where
      -- The row is of another relation
      pub chained-other : (Of codes schema words x.index p → ⊥) → Chained codes schema words x (suc p) heads links
      chained-other other =
          record {
            head = λ b low. last-more b (get_or heads b 0) (λ in_part. other in_part.0) (c.head b low);
            link =
                λ q low b in_part. ⊎_elim (λ less. c.link q less b in_part)
                (λ past. let e : q ≡ p = omega arith in absurd (other (subst (Of codes schema words x.index) e in_part.0))) (below-or-past q p);
          }

      -- The row is at the head of its part's chain
      pub chained-in : (of : Of codes schema words x.index p) (b : ℕ) → b ≡ part_of x (row_of codes schema words p).values → b < x.index.buckets
          → x.index.buckets ≤ length heads → start_of schema words p < length links
          → Chained codes schema words x (suc p) (set heads b (start_of schema words p + 1)) (set links (start_of schema words p) (get_or heads b 0))
      chained-in of b is low room inside = record { head = λ d hd. go d hd (ℕ_discrete d b); link = linked }
        where
          go : (d : ℕ) → d < x.index.buckets → Dec (d ≡ b) → Last codes schema words x d (suc p) (get_or (set heads b (start_of schema words p + 1)) d 0)
          go d hd (yes e) =
              record {
                rows = suc p;
                inside = omega arith;
                links = (
                  ap (λ (n : ℕ). get_or (set heads b (start_of schema words p + 1)) n 0) e
                      ∙ get_or-set_same heads b (start_of schema words p + 1) 0 (omega arith),
                  (of, sym is ∙ sym e),
                );
                passed = λ q l m. absurd (omega arith);
              }
          go d hd (no other) =
              subst (Last codes schema words x d (suc p)) (sym (get_or-set_other heads b d (start_of schema words p + 1) 0 (λ same. other same)))
              (last-more d (get_or heads d 0) (λ in_part. other (sym in_part.1 ∙ sym is)) (c.head d hd))

          linked : (q : ℕ) → q < suc p → (d : ℕ) → InPart codes schema words x d q
              → Last codes schema words x d q (get_or (set links (start_of schema words p) (get_or heads b 0)) (start_of schema words q) 0)
          linked q hq d in_part =
              ⊎_elim
              (λ less.
              let before = start-less schema words q p less in
              subst (Last codes schema words x d q)
              (sym (get_or-set_other links (start_of schema words p) (start_of schema words q) (get_or heads b 0) 0 (λ same. omega arith)))
              (c.link q less d in_part))
              (λ past.
              let e : p ≡ q = omega arith in
              let d_is : b ≡ d = is ∙ ap (λ (n : ℕ). part_of x (row_of codes schema words n).values) e ∙ in_part.1 in
              subst (λ (n : ℕ). Last codes schema words x d n (get_or (set links (start_of schema words p) (get_or heads b 0)) (start_of schema words n) 0)) e
              (subst (Last codes schema words x d p) (sym (get_or-set_same links (start_of schema words p) (get_or heads b 0) 0 inside))
              (subst (λ (n : ℕ). Last codes schema words x n p (get_or heads b 0)) d_is (c.head b low))))
              (below-or-past q p)
