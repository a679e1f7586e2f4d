-- `marks_where` asks the numbers from the last to the first.
-- Assumes nothing.
use Rattle.candidates.proofs.Masks.{tested-down, tested-end}
use Rattle.candidates.proofs.marks.marks_where.Goals as goal

pub loop-e-preserved : goal.loop-e-preserved
loop-e-preserved g c =
    let l = c.loop-e in
    rw c.from.ensures
    (tested-down (λ i b. goal.F-post g c.args.test i b) c.args.n l.e l.mask c.test.result c.loop-e-test.true l.auto.e c.test.ensures l.invariant)

pub returns : goal.returns
returns g c = tested-end (λ i b. goal.F-post g c.args.test i b) c.args.n c.loop-e.e c.loop-e.mask c.loop-e-test.false c.loop-e.invariant
