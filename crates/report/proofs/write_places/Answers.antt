-- `report::write_places` meets its contract. Invariant: the lines of the filled places below `place` are written. Assumes nothing.
use Rattle.report.proofs.Joined.{part-started, part-more}
use borrow.Author.Rules.{rules}
use Rattle.report.proofs.write_places.Goals as goal

pub loop-place-init : goal.loop-place-init
loop-place-init c = (search rules, part-started c.args.given 0 c.args.buffer.now 0)

pub loop-place-preserved : goal.loop-place-preserved
loop-place-preserved c = (
  search rules,
  part-more c.args.given _ _ _ _ c.loop-place.invariant.1 c.requires.0
      c.loop-place-test.true _ _
      c.write_place-next.ensures,
)
