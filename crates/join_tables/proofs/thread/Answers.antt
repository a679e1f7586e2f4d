-- `thread` walks over the rows. Assumes nothing.
use mathlib.Core.Path.{◌≡◌, refl, sym, ap, subst}
use Prim.Native.Nat.{ℕ, ◌*◌, ◌-◌}
use native.Mathlib.Omega.{arith}
use lib.ListN.{set}
use Rattle.words.specs.declared.Position.{Position}
use Rattle.words.specs.internal.Found.{From}
use Rattle.words.proofs.Walking.{stepped, ended}
use Rattle.join_lookup.specs.internal.Starts.{start_of, row_count}
use Rattle.join_lookup.proofs.Starting.{outside-start}
use Rattle.join_tables.proofs.Threading.{Linked, linked-after, linked-next}
use Rattle.join_tables.proofs.thread.Goals as goal

pub loop-row-init : goal.loop-row-init
unfolding start_of
loop-row-init c =
    let e = c.each_row-rows.ensures in
    let place : c.each_row-rows.result.place.at ≡ 0 = ap (λ (p : Position). p.at) e.2 in
    let number : c.each_row-rows.result.place.number ≡ 0 = ap (λ (p : Position). p.number) e.2 in (
      e.0,
      e.1,
      subst (λ (p : Position). From c.args.schema.now c.args.words.now p.at p.number) (sym e.2)
          (record { inside = omega arith; counted = omega arith; good = c.requires.0 }),
      record { row = 0; place = place; inside = omega arith; size = refl; prior = λ q low. absurd (omega arith) },
    )

pub loop-row-preserved : goal.loop-row-preserved
loop-row-preserved c =
    let a = c.args in
    let l = c.loop-row in
    let S = a.schema.now in
    let W = a.words.now in
    let at = l.rows.place.at in
    let q = c.next.new.self.place in
    let k = l.invariant.3 in
    let step = stepped l.invariant.0 l.invariant.1 c.in-Some.ensures.steps in
    let good = c.requires.0 in (
      step.schema-same,
      step.words-same,
      record { inside = step.next.fits; counted = omega (arith, step.next.place, step.number, l.invariant.2.counted); good = step.next.good },
      subst (λ (n : ℕ). Linked S W a.nodes.now (set l.nodes (6 * (q.at - 1)) n) q.at) (ap (λ (p : Position). p.at) (sym step.row))
          (linked-next S W good a.nodes.now l.nodes at k step.inside q.at
          (linked-after S W good a.nodes.now l.nodes at k step.inside q.at step.next.place)
          (omega (arith, step.next.place, step.next.fits, c.requires.1, k.size))),
    )

pub returns-clause-threaded : goal.returns-clause-threaded
returns-clause-threaded c =
    let l = c.loop-row in
    let v = l.invariant.3 in
    let end = ended l.invariant.0 l.invariant.1 c.in_default.ensures.steps in
    let all : v.row ≡ row_count c.args.schema.now c.args.words.now =
    outside-start c.args.schema.now c.args.words.now c.requires.0 v.row v.inside (omega (arith, v.place, end)) in
    record { prior = λ p h. v.prior p (omega arith) }
