-- The candidates of each row that are left: what solves the search over them solves that over all, and goes to rows that are left; and the other way round.
-- Assumes nothing.
use mathlib.Core.Path.{◌≡◌, sym, ap, ◌∙◌, subst}
use mathlib.Core.List.{List}
use Prim.Native.Nat.{ℕ, ◌+◌, ◌<◌}
use native.Mathlib.Decide.{dec_lt}
use native.Mathlib.Omega.{arith}
use lib.ListN.{get_or}
use lib.Bits.{bit_and}
use Rattle.consistency.specs.internal.Solution.{Bit, Solution}
use Rattle.consistency.proofs.Masks.{bit-and, bit-and-left, bit-and-right}
use Rattle.folding.specs.internal.Folding.{FoldsInto, Among}

module _ (domain table all : List ℕ) (size left : ℕ) (among : Among domain size left all) where
  pub among-solution : (f : ℕ → ℕ) → Solution (size + 1) all table f → FoldsInto domain table size (Bit left)
  among-solution f s = (
    f,
    record { below = s.below; held = λ r h. held r h (dec_lt r size); joined = s.joined },
    (λ r h. bit-and-right (get_or domain r 0) left (f r) (both r h)),
  )
    where
      both : (r : ℕ) → r < size → Bit (bit_and (get_or domain r 0) left) (f r)
      both r h = subst (λ (m : ℕ). Bit m (f r)) (among.rows r h) (s.held r (omega arith))

      held : (r : ℕ) → r < size + 1 → Dec (r < size) → Bit (get_or domain r 0) (f r)
      held r h (yes l) = bit-and-left (get_or domain r 0) left (f r) (both r l)
      held r h (no l) =
          let last : r ≡ size = omega arith in
          subst (λ (m : ℕ). Bit m (f r)) (ap (λ (k : ℕ). get_or all k 0) last ∙ among.head ∙ ap (λ (k : ℕ). get_or domain k 0) (sym last)) (s.held r h)

  pub solution-among : (w : FoldsInto domain table size (Bit left)) → Solution (size + 1) all table w.0
  solution-among w = record { below = w.1.below; held = λ r h. held r h (dec_lt r size); joined = w.1.joined }
    where
      held : (r : ℕ) → r < size + 1 → Dec (r < size) → Bit (get_or all r 0) (w.0 r)
      held r h (yes l) =
          subst (λ (m : ℕ). Bit m (w.0 r)) (sym (among.rows r l)) (bit-and (get_or domain r 0) left (w.0 r) (w.1.held r h) (w.2 r l))
      held r h (no l) =
          let last : r ≡ size = omega arith in
          subst (λ (m : ℕ). Bit m (w.0 r)) (ap (λ (k : ℕ). get_or domain k 0) last ∙ sym among.head ∙ ap (λ (k : ℕ). get_or all k 0) (sym last))
          (w.1.held r h)
