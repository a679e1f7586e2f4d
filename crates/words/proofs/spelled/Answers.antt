-- `spelled` answers whether the words spell rows.
-- Assumes nothing.
use mathlib.Core.Path.{◌≡◌, sym, ap, ◌∙◌}
use mathlib.Core.List.{[]}
use native.Mathlib.Omega.{arith}
use lib.ListN.{get_or}
use Rattle.std.proofs.lemmas.Grind.{common_steps}
use Rattle.words.specs.Words.{spells_rows, spells_rows_from}
use Rattle.words.proofs.Spelling.{unknown-first, cut-first, after-first}
use Rattle.words.proofs.spelled.Goals as goal

pub returns-in_default-get : goal.returns-in_default-get
returns-in_default-get c =
    let S = c.args.schema.now in
    sym (c.loop-relation.invariant ∙ ap (spells_rows S) c.in-Some.ensures.cases.0
    ∙ unknown-first S c.in-Some.relation.now c.in-Some.values.now c.in_default-get.ensures.lookup.3)

pub returns-then-values-width : goal.returns-then-values-width
returns-then-values-width c =
    let S = c.args.schema.now in
    let width : c.in-Some-get.width.now ≡ get_or S c.in-Some.relation.now 0 = c.in-Some-get.ensures.lookup.4 (omega arith) 0 in
    sym (c.loop-relation.invariant ∙ ap (spells_rows S) c.in-Some.ensures.cases.0
    ∙ cut-first S c.in-Some.relation.now c.in-Some.values.now (omega arith))

pub loop-relation-preserved : goal.loop-relation-preserved
loop-relation-preserved c =
    let S = c.args.schema.now in
    let values = c.in-Some.values.now in
    let width : c.in-Some-get.width.now ≡ get_or S c.in-Some.relation.now 0 = c.in-Some-get.ensures.lookup.4 (omega arith) 0 in
    let step = c.loop-relation.invariant ∙ ap (spells_rows S) c.in-Some.ensures.cases.0
    ∙ after-first S c.in-Some.relation.now values c.in-Some-get.ensures.lookup.3.0 (omega arith) in
    grind (arith, common_steps, step)

pub returns : goal.returns
unfolding spells_rows_from
returns c =
    let none_left : c.loop-relation.rest.now ≡ [] = grind (arith, common_steps, c.in_default.ensures.cases) in
    sym (c.loop-relation.invariant ∙ ap (spells_rows c.args.schema.now) none_left)
