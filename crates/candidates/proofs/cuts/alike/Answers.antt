-- `alike` has a mask for each row.
-- Assumes nothing.
use borrow.Author.Rules.{rules}
use borrow.Author.Count.{below_more}
use mathlib.Core.Path.{◌≡◌, subst⁻¹}
use Prim.Native.Nat.{ℕ, ◌+◌, ◌*◌}
use native.Mathlib.Omega.{arith}
use Rattle.std.proofs.Common.{tests}
use lib.ListN.{get_or, set}
use lib.Seq.{get_or-set_same, get_or-set_other}
use Rattle.candidates.specs.internal.Candidates.{Marks}
use Rattle.candidates.proofs.Masks.{marks-tested}
use Rattle.candidates.proofs.cuts.alike.Goals as goal

pub loop-d-preserved : goal.loop-d-preserved
loop-d-preserved c =
    let a = c.args in
    let l = c.loop-d in
    let m = c.marks_where.result in
    let P : ℕ → ℕ → Type 0 = λ k e. get_or a.target.now (8 * e + a.j) 0 ≡ get_or a.target.now (8 * k + a.i) 0 in (
      search rules,
      below_more (λ k. Marks a.count (get_or (set l.mask-items l.d m) k 0) (P k)) l.d
          (λ k h. subst⁻¹ (λ (x : ℕ). Marks a.count x (P k)) (get_or-set_other l.mask-items l.d k m 0 (omega arith)) (l.invariant.1 k h))
          (subst⁻¹ (λ (x : ℕ). Marks a.count x (P l.d)) (get_or-set_same l.mask-items l.d m 0 (search rules))
          (marks-tested _ (P l.d) a.count m (λ e b h k. search (rules, tests)) c.marks_where.ensures)),
    )
