-- `rest_blank` tells whether the other variables have constant 0. The invariant: those passed have it.
-- Assumes nothing.
use Rattle.std.proofs.Common.{rules, tests}
use borrow.Author.Count.{below_more}
use mathlib.Core.Path.{◌≡◌, refl, sym, ◌∙◌}
use lib.ListN.{get_or}
use Rattle.theory.specs.Query.{constant}
use Rattle.query.specs.declared.Entry.TheVariants.{Constant}
use Rattle.query.specs.View.{images_of}
use Rattle.query.specs.Rule.{no_cell}
use Rattle.mapping.proofs.Images.{entries-apart}
use mathlib.Core.Bool.{false≢true}
use native.Mathlib.Omega.{arith}
use Rattle.lists.proofs.Positions.{tells-true, tells-false}
use Rattle.mapping.proofs.carry.rest_blank.Goals as goal
use Rattle.mapping.proofs.carry.rest_blank.Goals.{else-ne-via-then-ne+else-not-stands, else-ne-via-else-ne}

pub returns-then-not-stands : goal.returns-then-not-stands
returns-then-not-stands c =
    tells-false
    (λ p.
    apart (p c.loop-v.v c.loop-v-test.true (λ s. false≢true (sym c.if-not-stands.true ∙ c.stands.ensures.1 s))))
  where
    apart : images_of c.args.images.now c.loop-v.v ≡ constant 0 → ⊥
    apart e = let a : (get_or c.args.images.now c.loop-v.v no_cell).entry ≡ Constant 0 → ⊥ = search (rules, tests) in entries-apart (get_or c.args.images.now c.loop-v.v no_cell).entry (Constant 0) _ refl a e

pub loop-v-preserved : goal.loop-v-preserved
loop-v-preserved c = below_more _ _ c.loop-v.invariant
    (elim c.else-ne.branch [
      | else-ne-via-then-ne+else-not-stands w ↦ λ out. absurd (out (w.stands.ensures.0 w.if-not-stands.false))
      | else-ne-via-else-ne w ↦ λ out. search (rules, tests)
    ])

pub returns : goal.returns
returns c = tells-true (λ w h. c.loop-v.invariant w (omega arith))
