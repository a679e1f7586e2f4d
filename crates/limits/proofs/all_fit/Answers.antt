-- `all_fit` meets its contract: the first pair is taken off, and decides or leaves it to the rest. Assumes nothing.
use mathlib.Core.Path.{◌≡◌, sym, ap, ◌∙◌}
use mathlib.Core.Bool.{true, false}
use mathlib.Core.List.{List, [], ◌∷◌}
use native.Mathlib.Omega.{arith}
use Rattle.std.proofs.lemmas.Grind.{common_steps}
use Rattle.query.specs.declared.CodePair.{CodePair}
use Rattle.query.specs.Rule.{pair_fits, all_fit}
use Rattle.limits.proofs.all_fit.Goals as goal

first-fails : (p : CodePair) (ps : List CodePair) → pair_fits ps p ≡ false → all_fit (p ∷ ps) ≡ false
unfolding all_fit
first-fails p ps e = rw e

first-passes : (p : CodePair) (ps : List CodePair) → pair_fits ps p ≡ true → all_fit (p ∷ ps) ≡ all_fit ps
unfolding all_fit
first-passes p ps e = rw e

pub returns-then-not-pair_fits : goal.returns-then-not-pair_fits
returns-then-not-pair_fits c =
    sym (c.loop-p.invariant ∙ ap all_fit c.in-Some.ensures.cases.0
    ∙ first-fails c.in-Some.p.now c.in-Some.others.now (sym c.pair_fits.ensures ∙ c.if-not-pair_fits.true))

pub loop-p-preserved : goal.loop-p-preserved
loop-p-preserved c =
    c.loop-p.invariant ∙ ap all_fit c.in-Some.ensures.cases.0
    ∙ first-passes c.in-Some.p.now c.in-Some.others.now (sym c.pair_fits.ensures ∙ c.if-not-pair_fits.false)

pub returns : goal.returns
unfolding all_fit
returns c =
    let none_left : c.loop-p.rest.now ≡ [] = grind (arith, common_steps, c.in_default.ensures.cases) in
    sym (c.loop-p.invariant ∙ ap all_fit none_left)
