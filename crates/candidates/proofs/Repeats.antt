-- Rows of a target that are the same as earlier ones: each row is the same as one that repeats none.
-- Assumes nothing.
use mathlib.Core.Path.{◌≡◌, refl, ◌∙◌}
use mathlib.Core.Logic.Dec
use mathlib.Core.List.{List}
use Prim.Native.Nat.{ℕ, zero, suc, ◌+◌, ◌*◌, ◌≤◌, ◌<◌}
use native.Mathlib.Nat.{not-suc-le-zero}
use native.Mathlib.Decide.{ℕ_discrete}
use native.Mathlib.Omega.{arith}
use lib.ListN.{get_or}
use Rattle.lists.proofs.Positions.{below_each, below-some}
use Rattle.candidates.specs.internal.Candidates.{SameRow, Repeats}

repeats-or-not : (target offered : List ℕ) (d : ℕ) → Dec (Repeats target offered d)
repeats-or-not target offered d =
    go
    (below-some Like
    (λ e.
    Dec.and (ℕ_discrete (get_or offered e 0) (get_or offered d 0))
    (below_each (λ (i : ℕ). get_or target (8 * e + i) 0 ≡ get_or target (8 * d + i) 0)
    (λ i. ℕ_discrete (get_or target (8 * e + i) 0) (get_or target (8 * d + i) 0)) 8))
    d)
  where
    Like : ℕ → Type 0
    Like e = (get_or offered e 0 ≡ get_or offered d 0) × SameRow target (8 * e) (8 * d)

    go : Dec ((e : ℕ) × (e < d) × Like e) → Dec (Repeats target offered d)
    go (yes w) = yes (w.0, w.1, w.2.0, w.2.1)
    go (no out) = no (λ w. out (w.0, w.1, (w.2, w.3)))

-- A row that is the same as row d and repeats no earlier one
pub record FirstLike (target offered : List ℕ) (d : ℕ) : Type 0 where
  pub at : ℕ
  pub within : at ≤ d
  pub relation : get_or offered at 0 ≡ get_or offered d 0
  pub same : SameRow target (8 * at) (8 * d)
  pub fresh : Repeats target offered at → ⊥

first-like-below : (target offered : List ℕ) (n d : ℕ) → d < n → FirstLike target offered d
first-like-below target offered zero d h = absurd (not-suc-le-zero h)
first-like-below target offered (suc n) d h = go (repeats-or-not target offered d) (first-like-below target offered n)
  where
    go : Dec (Repeats target offered d) → ((e : ℕ) → e < n → FirstLike target offered e) → FirstLike target offered d
    go (no out) earlier = record { at = d; within = omega arith; relation = refl; same = λ i k. refl; fresh = out }
    go (yes w) earlier =
        let less : w.0 < d = w.1 in
        let x = earlier w.0 (omega arith) in
        let l : x.at ≤ w.0 = x.within in
        record { at = x.at; within = omega arith; relation = x.relation ∙ w.2; same = λ i k. x.same i k ∙ w.3 i k; fresh = x.fresh }

pub first-like : (target offered : List ℕ) (d : ℕ) → FirstLike target offered d
first-like target offered d = first-like-below target offered (suc d) d (omega arith)
