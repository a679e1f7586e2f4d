-- `locate` walks to a position.
-- Assumes nothing.
use mathlib.Core.Path.{◌≡◌, sym, ap, subst, ◌∙◌}
use Prim.Native.Nat.{ℕ}
use native.Mathlib.Omega.{arith}
use Rattle.words.proofs.Walking.{stepped, ended}
use Rattle.words.specs.declared.Position.{Position}
use Rattle.grouping.specs.internal.Walked.{RowBegins}
use Rattle.grouping.proofs.Passing.{placed-next, all-placed}
use Rattle.grouping.proofs.locate.Goals as goal

pub loop-row-preserved : goal.loop-row-preserved
loop-row-preserved c =
    let a = c.args in
    let l = c.loop-row in
    let p = l.row-iterator.place in
    let step = stepped l.invariant.0 l.invariant.1 c.in-Some.ensures.steps in
    let other : p.number ≡ a.number → ⊥ = λ h. c.if-row-number.false (ap (λ (r : Position). r.number) step.row ∙ h) in (
      step.schema-same,
      step.words-same,
      subst (λ (n : ℕ). RowBegins a.schema.now a.words.now c.next.new.self.place.at n) (sym step.number)
          (placed-next a.schema.now a.words.now p.at c.next.new.self.place.at p.number l.invariant.2 step.next),
      omega (arith, step.number, l.invariant.3),
    )

pub returns : goal.returns
returns c =
    let l = c.loop-row in
    let all = all-placed c.args.schema.now c.args.words.now l.row-iterator.place.at l.row-iterator.place.number l.invariant.2
    (ended l.invariant.0 l.invariant.1 c.in-None.ensures.steps) in
    omega (arith, all, l.invariant.3)
