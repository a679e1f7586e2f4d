-- `search::consistent` leaves the solutions as they are: a settled state in which no row is placed has every candidate of a solution. Assumes nothing.
use mathlib.Core.Path.{◌≡◌, sym, ◌∙◌, subst, subst⁻¹}
use mathlib.Core.List.{List}
use Prim.Native.Nat.{ℕ, ◌≤◌, ◌<◌}
use native.Mathlib.Omega.{arith}
use lib.ListN.{get_or}
use lib.Bits.{bit_and}
use Rattle.consistency.specs.internal.Solution.{Bit, Solution}
use Rattle.consistency.specs.internal.Consistent.{Accounted}
use Rattle.consistency.proofs.Masks.{bit-and, bit-and-left, bit-zero}
use Rattle.search.proofs.consistent.Goals as goal

module _ (rows : ℕ) (few : rows ≤ 13) (domain current all table : List ℕ) (each : (j : ℕ) → j < 13 → get_or all j 0 ≡ bit_and (get_or domain j 0) (get_or current j 0))
    (f : ℕ → ℕ) where
  -- A solution over all candidates has those that are left, where the settled state has them
  fewer : ((q : ℕ) → q < rows → Solution rows domain table f → Bit (get_or current q 0) (f q)) → Solution rows domain table f → Solution rows all table f
  fewer left s = record {
    below = s.below;
    held = λ r h.
        subst (λ (m : ℕ). Bit m (f r)) (sym (each r (omega arith))) (bit-and (get_or domain r 0) (get_or current r 0) (f r) (s.held r h) (left r h s));
    joined = s.joined;
  }

  more : Solution rows all table f → Solution rows domain table f
  more s = record {
    below = s.below;
    held = λ r h. bit-and-left (get_or domain r 0) (get_or current r 0) (f r) (subst (λ (m : ℕ). Bit m (f r)) (each r (omega arith)) (s.held r h));
    joined = s.joined;
  }

pub returns : goal.returns
returns c f =
    let a = c.args in
    let l = c.loop-r in
    let first = c.start in
    let t = c.settled-state in
    let each : (j : ℕ) → j < 13 → get_or l.mask-items j 0 ≡ bit_and (get_or a.domain.now j 0) (get_or t.result.current j 0) =
    λ j h. l.invariant.1 j (let end : 13 ≤ l.r = c.loop-r-test.false in omega arith)
    in
    let sound : Accounted a.rows a.domain.now a.table.now first.result =
    λ q h f sol ag. subst⁻¹ (λ (m : List ℕ). Bit (get_or m q 0) (f q)) first.ensures.1 (sol.held q h)
    in
    let left : (q : ℕ) → q < a.rows → Solution a.rows a.domain.now a.table.now f → Bit (get_or t.result.current q 0) (f q) =
    λ q h sol.
    t.ensures.sound a.domain.now sound q h f sol
    (λ p at. absurd (bit-zero p (subst (λ (m : ℕ). Bit m p) (t.ensures.placed ∙ first.ensures.0) at)))
    in (
      fewer a.rows c.requires a.domain.now t.result.current l.mask-items a.table.now each f left,
      more a.rows c.requires a.domain.now t.result.current l.mask-items a.table.now each f,
    )
