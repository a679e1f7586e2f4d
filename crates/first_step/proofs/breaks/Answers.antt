-- `first_step::breaks` meets its contract: the theory's test by its parts, in the order of the code. Assumes nothing.
use mathlib.Core.Path.{◌∙◌}
use borrow.Author.Tests.{eq-eqb, ne_eqb}
use lib.ListN.{get_or}
use Rattle.first_step.proofs.Columns.{wide-same, agree_same, breaks-other-second, breaks-same, breaks-differ}
use Rattle.first_step.proofs.breaks.Goals as goal

pub returns-then-relations-j : goal.returns-then-relations-j
returns-then-relations-j c cells good coded =
    let start = c in
    let a = start.args in
    breaks-other-second a.relations.now cells a.d a.i a.j start.requires.first_of c.if-relations-j.true

pub returns-then-codes-i : goal.returns-then-codes-i
returns-then-codes-i c cells good coded =
    let start = c in
    let a = start.args in
    breaks-same a.relations.now cells a.d a.i a.j start.requires.first_of c.if-relations-j.false
    (wide-same cells a.codes.now good coded (get_or a.relations.now a.i 0) (get_or a.relations.now a.j 0) a.i a.j a.d.right start.requires.right-fits
    ∙ eq-eqb _ _ c.if-codes-i.true)

pub returns : goal.returns
returns c cells good coded =
    let start = c in
    let a = start.args in
    c.same_on.ensures ∙ agree_same cells a.codes.now good coded a.d.left a.i a.j
    ∙ breaks-differ a.relations.now cells a.d a.i a.j start.requires.first_of c.if-relations-j.false
    (wide-same cells a.codes.now good coded (get_or a.relations.now a.i 0) (get_or a.relations.now a.j 0) a.i a.j a.d.right start.requires.right-fits
    ∙ ne_eqb _ _ c.if-codes-i.false)
