-- `skip` finds a row before which none is the first of a broken pair, and may see a key.
-- Assumes nothing.
use mathlib.Core.Path.{◌≡◌, refl, sym, ap, subst, ◌∙◌}
use Prim.Native.Nat.{ℕ, ◌<◌}
use native.Mathlib.Omega.{arith}
use lib.ListN.{length, get_or}
use Rattle.std.proofs.lemmas.Grind.{common_steps}
use Rattle.words.specs.declared.Position.{Position}
use Rattle.words.specs.declared.Rows.{Rows}
use Rattle.words.proofs.Walking.{stepped, ended}
use Rattle.grouping.specs.internal.Walked.{Walked, SkipsTo, end_at, Ends}
use Rattle.grouping.specs.declared.End.{End}
use Rattle.query.specs.declared.Dependency.{Dependency}
use Rattle.std.specs.Prelude.{Option, None, Some}
use mathlib.Core.List.{List}
use Rattle.theory.specs.Codes.{CodePair}
use Rattle.codes.specs.internal.Codes.{codes_in}
use Rattle.grouping.proofs.Passing.{rows_few, walked_start, walked-next, walked-none, walked-key, skips-start, skips-located}
use Rattle.grouping.proofs.skip.Goals as goal

-- What is said of a row, or of none, is said of the end at it
ends_at : (codes : List CodePair) (schema words : List ℕ) (d : Dependency) (r : Option Position) (e : End Position) → e ≡ end_at r
    → SkipsTo codes schema words d r → Ends codes schema words d e
ends_at codes schema words d None e is h = subst (Ends codes schema words d) (sym is) h
ends_at codes schema words d (Some p) e is h = subst (Ends codes schema words d) (sym is) h

pub returns-then-is_empty : goal.returns-then-is_empty
returns-then-is_empty c =
    let a = c.args in
    let C = codes_in a.codes.now in
    let r = c.each_row.result in
    ends_at C a.schema.now a.words.now a.d c.next.result c.end_at.result c.end_at.ensures
    (skips-start C a.schema.now a.words.now a.d c.requires.words_value r.schema.now r.words.now c.next.new.self.schema.now c.next.new.self.words.now
    r.place c.next.new.self.place c.next.result c.each_row.ensures.1 c.each_row.ensures.2 c.next.ensures.steps)

pub loop-row-init : goal.loop-row-init
loop-row-init c =
    let a = c.args in
    let C = codes_in a.codes.now in
    let heads = c.fill.new.self in
    let it = c.into_iter-row-iterator.ensures.into_iter_gives in
    let place : c.into_iter-row-iterator.result.place ≡ record { at = 0; number = 0 } = ap (λ (r : Rows). r.place) it ∙ c.each_row-row-items.ensures.2 in
    let some : 0 < length heads = grind (arith, common_steps, c.fill.ensures.len, c.min-buckets.ensures, c.if-is_empty.ensures) in
    let zeros : (b : ℕ) → b < length heads → get_or heads b 0 ≡ 0 = λ b h. c.fill.ensures.clones b 0 (omega (arith, c.fill.ensures.len)) refl in (
      ap (λ (r : Rows). r.schema.now) it ∙ c.each_row-row-items.ensures.0,
      ap (λ (r : Rows). r.words.now) it ∙ c.each_row-row-items.ensures.1,
      subst (λ (p : Position). Walked C a.schema.now a.words.now a.d p (record { count = 0; least = length a.words.now; key = _ }) heads a.nodes.now)
          (sym place)
          (walked_start C a.schema.now a.words.now a.d heads a.nodes.now c.requires.words_value some zeros),
      refl,
      refl,
    )

pub loop-row-preserved : goal.loop-row-preserved
loop-row-preserved c =
    let a = c.args in
    let C = codes_in a.codes.now in
    let l = c.loop-row in
    let q = c.next-in-loop-row.new.self.place in
    let step = stepped l.invariant.0 l.invariant.1 c.in-Some.ensures.steps in (
      step.schema-same,
      step.words-same,
      walked-next C a.schema.now a.words.now a.d l.row-iterator.place c.in-Some.row q c.step-walk.result c.step-walk.new.heads c.step-walk.new.nodes
          step.row step.next step.number c.step-walk.ensures,
      c.step-walk.auto.heads ∙ l.invariant.3,
      c.step-walk.auto.nodes ∙ l.invariant.4,
    )

pub returns-then-walk : goal.returns-then-walk
returns-then-walk c =
    let a = c.args in
    let C = codes_in a.codes.now in
    let l = c.loop-row in
    let end = ended l.invariant.0 l.invariant.1 c.in-None.ensures.steps in
    let few = rows_few a.schema.now 0 a.words.now in (
      walked-none C a.schema.now a.words.now a.d l.row-iterator.place l.walk l.used l.nodes l.invariant.2 end
          (omega (arith, few, (l.invariant.2.key c.if-walk.true).0)),
      walked-key C a.schema.now a.words.now a.d l.row-iterator.place l.walk l.used l.nodes l.invariant.2 end c.if-walk.true,
    )

pub returns-then-walk-words : goal.returns-then-walk-words
returns-then-walk-words c =
    let a = c.args in
    let C = codes_in a.codes.now in
    let l = c.loop-row in
    let few = rows_few a.schema.now 0 a.words.now in
    walked-none C a.schema.now a.words.now a.d l.row-iterator.place l.walk l.used l.nodes l.invariant.2
    (ended l.invariant.0 l.invariant.1 c.in-None.ensures.steps) (omega (arith, few, c.if-walk-words.true))

pub returns : goal.returns
returns c =
    let a = c.args in
    let C = codes_in a.codes.now in
    let l = c.loop-row in
    ends_at C a.schema.now a.words.now a.d c.locate.result c.end_at-2.result c.end_at-2.ensures
    (skips-located C a.schema.now a.words.now a.d l.row-iterator.place l.walk l.used l.nodes l.invariant.2
    (ended l.invariant.0 l.invariant.1 c.in-None.ensures.steps) c.locate.result c.locate.ensures)
