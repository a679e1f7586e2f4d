-- `assign` gives the variables of all rows their images. The invariant: those of the rows passed have them.
-- Assumes nothing.
use mathlib.Core.Path.{◌≡◌, ap, ◌∙◌}
use Prim.Native.Nat.{◌+◌, ◌<◌}
use native.Mathlib.Omega.{arith}
use lib.ListN.{length-take}
use lib.Seq.{get_or-take}
use Rattle.candidates.specs.internal.Candidates.{image_start}
use Rattle.mapping.specs.internal.Lines.{choice_of}
use Rattle.mapping.proofs.Images.{rows_start, rows_more}
use Rattle.mapping.proofs.assign.assign.Goals as goal
use Rattle.mapping.proofs.assign.assign.Goals.{After-from}

pub loop-r-init : goal.loop-r-init
loop-r-init c = rows_start c.args.source.now c.args.target.now c.args.size (choice_of c.args.chosen)

-- The number that is gone through is the row's choice
inside : (c : After-from) → c.loop-r.r < c.args.size + 1
inside c = omega (arith, length-take (c.args.size + 1) c.args.chosen, c.loop-r-test.true)

chosen-is : (c : After-from) → c.from.result ≡ choice_of c.args.chosen c.loop-r.r
chosen-is c = c.from.ensures ∙ get_or-take (c.args.size + 1) c.args.chosen c.loop-r.r 0 (inside c)

pub loop-r-preserved : goal.loop-r-preserved
loop-r-preserved c =
    let a = c.args in
    let at = (goal.at.loop-r-preserved c).After-from in
    rows_more a.source.now a.target.now a.size (choice_of a.chosen) c.loop-r.r c.row_at.result c.image_at-image.result c.loop-r.images
    c.assign_row-next.result c.row_at.ensures.0 (c.image_at-image.ensures.0 ∙ ap (image_start a.size c.loop-r.r) (chosen-is at)) c.loop-r.invariant
    c.assign_row-next.ensures
