-- Why the search may go on as it does: the candidates of a row that are still to be tried, and what a failed test of choices says.
-- Assumes nothing.
use mathlib.Core.Path.{◌≡◌, subst}
use mathlib.Core.List.{List}
use Prim.Native.Nat.{ℕ, ◌+◌, ◌<◌, ◌≤◌}
use native.Mathlib.Omega.{arith}
use native.Mathlib.Decide.{dec_lt, ℕ_discrete}
use lib.ListN.{get_or}
use lib.Bits.{bit_or}
use Rattle.consistency.specs.internal.Solution.{Bit, together, Solution}
use Rattle.consistency.specs.internal.Consistent.{NoBit, HasChosen, Left}
use Rattle.consistency.proofs.Masks.{bit_or_left, bit_or_right}
use Rattle.consistency.proofs.Steps.{apart, agrees-part}
use Rattle.search.specs.internal.Invariant.{IsFirst, Excluded}

-- ---- the candidates of a row, from c on

module _ (rows : ℕ) (domain table : List ℕ) (placed blame : ℕ) (chosen : List ℕ) (row left c d : ℕ) (is : IsFirst left c d)
    (bits : Left rows domain table placed blame chosen row left)
    (from : (f : ℕ → ℕ) → Solution rows domain table f → HasChosen placed blame chosen f → c ≤ f row) where
  -- no candidate is left out before d
  pub reaches : (f : ℕ → ℕ) → Solution rows domain table f → HasChosen placed blame chosen f → d ≤ f row
  reaches f sol ag = go (dec_lt (f row) d)
    where
      go : Dec (f row < d) → d ≤ f row
      go (yes less) = absurd (is.first (f row) (from f sol ag) less (bits f sol ag))
      go (no more) = omega arith

  module _ (m : ℕ) (excluded : (f : ℕ → ℕ) → Solution rows domain table f → HasChosen placed m chosen f → f row ≡ d → ⊥) where
    pub left-next : Left rows domain table placed (bit_or blame m) chosen row left
    left-next f sol ag = bits f sol (agrees-part placed blame (bit_or blame m) chosen f (λ q b. bit_or_left blame m q b) ag)

    pub from_next : (f : ℕ → ℕ) → Solution rows domain table f → HasChosen placed (bit_or blame m) chosen f → d + 1 ≤ f row
    from_next f sol ag = go (ℕ_discrete (f row) d)
      where
        far : d ≤ f row
        far = reaches f sol (agrees-part placed blame (bit_or blame m) chosen f (λ q b. bit_or_left blame m q b) ag)

        go : Dec (f row ≡ d) → d + 1 ≤ f row
        go (yes e) = absurd (excluded f sol (agrees-part placed m (bit_or blame m) chosen f (λ q b. bit_or_right blame m q b) ag) e)
        go (no n) = omega (arith, far)

-- ---- choices in no solution
module _ (rows : ℕ) (domain table chosen : List ℕ) (m r : ℕ) (h : r < rows) (own : Bit m r) where
  -- row r and row q do not go together
  pub excluded-two : (q : ℕ) → q < rows → Bit m q → NoBit (together table r (get_or chosen r 0) q) (get_or chosen q 0) → Excluded rows domain table m chosen
  excluded-two q k other n f sol ag =
      let goes : Bit (together table r (get_or chosen r 0) q) (f q) =
      subst (λ (x : ℕ). Bit (together table r x q) (f q)) (ag r h own) (sol.joined r q h k) in
      apart (together table r (get_or chosen r 0) q) (f q) (get_or chosen q 0) goes n (ag q k other)
