-- `cut_pair` cuts the masks of one row for the candidates of another.
-- Assumes nothing.
use borrow.Author.Rules.{rules}
use mathlib.Core.Path.{◌≡◌, sym, subst, subst⁻¹, subst₂}
use mathlib.Core.Logic.{◌↔◌}
use Prim.Native.Nat.{ℕ, ◌+◌, ◌<◌}
use native.Mathlib.Nat.{le_trans}
use native.Mathlib.Omega.{arith}
use lib.ListN.{get_or}
use Rattle.consistency.specs.internal.Solution.{Bit}
use Rattle.candidates.specs.internal.Candidates.{candidates_of}
use Rattle.candidates.specs.internal.Sharing.{Meets}
use Rattle.candidates.proofs.Candidates.{row-candidates, row-image}
use Rattle.candidates.proofs.Cutting.{cut-none, cut-more, cut-one}
use Rattle.candidates.proofs.cuts.cut_pair.Goals as goal

pub loop-d-init : goal.loop-d-init
loop-d-init c = cut-none c.args.size c.args.count _ c.args.table.now (λ r d q e hr hd hq he none. absurd (omega arith))

pub loop-d-preserved : goal.loop-d-preserved
loop-d-preserved c =
    let a = c.args in
    let l = c.loop-d in
    let g = c.requires.laid in
    let P : ℕ → ℕ → ℕ → ℕ → Type 0 = λ r d q e. Meets a.target.now a.size a.i a.j r d q e in
    let within : l.d < candidates_of a.size a.count a.r = subst⁻¹ (λ (n : ℕ). l.d < n) (row-candidates a.size a.count a.r c.if-r-size.true) c.loop-d-test.true in
    let is : (e : ℕ) → e < candidates_of a.size a.count a.q → (Bit (get_or c.in-Some.masks l.d 0) e ↔ P a.r l.d a.q e) =
    λ e h.
    subst₂
    (λ (x y : ℕ). Bit (get_or c.in-Some.masks l.d 0) e ↔ (get_or a.target.now (x + a.j) 0 ≡ get_or a.target.now (y + a.i) 0))
    (sym (row-image a.size a.q e c.if-q-size.true))
    (sym (row-image a.size a.r l.d c.if-r-size.true))
    ((c.requires.alike c.in-Some.masks c.in-Some.is l.d c.loop-d-test.true).1 e
    (subst (λ (n : ℕ). e < n) (row-candidates a.size a.count a.q c.if-q-size.true) h))
    in
    cut-more a.size a.count (λ r d q. d) (λ r d q e. q ≡ a.q → r ≡ a.r → P r d q e) l.d a.table.now l.table _ l.invariant
    (cut-one a.size a.count g.1 g.2 P l.table (search rules) a.r l.d a.q (get_or c.in-Some.masks l.d 0) g.5 within g.6 is)

pub returns-in-Some : goal.returns-in-Some
returns-in-Some c r d q e hr hd hq he =
    let a = c.args in
    let cut = c.loop-d.invariant r d q e hr hd hq he in (
      (λ at.
          let m = cut.0 at in (
            m.0,
            (λ s t.
                let mine : d < a.count =
                subst (λ (n : ℕ). d < n) (row-candidates a.size a.count a.r c.if-r-size.true) (subst (λ (x : ℕ). d < candidates_of a.size a.count x) t hd)
                in
                m.1 (le_trans mine c.loop-d-test.false) s t),
          )),
      (λ w. cut.1 (w.0, (λ h. w.1))),
    )

pub loop-d-2-preserved : goal.loop-d-2-preserved
loop-d-2-preserved c =
    let a = c.args in
    let l = c.loop-d-2 in
    let g = c.requires.laid in
    let P : ℕ → ℕ → ℕ → ℕ → Type 0 = λ r d q e. Meets a.target.now a.size a.i a.j r d q e in
    let within : l.d < candidates_of a.size a.count a.r = subst (λ (n : ℕ). l.d < n) c.candidates-d-end.ensures.0 c.loop-d-2-test.true in (
      search rules,
      cut-more a.size a.count (λ r d q. d) (λ r d q e. q ≡ a.q → r ≡ a.r → P r d q e) l.d a.table.now l.table _ l.invariant.1
          (cut-one a.size a.count g.1 g.2 P l.table (search rules) a.r l.d a.q c.with_code.result g.5 within g.6 (search rules)),
    )
