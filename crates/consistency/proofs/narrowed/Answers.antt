-- `consistency::narrowed` meets its contract. The loop's invariant: the choice is made, and each row passed is narrowed by it.
-- Assumes nothing.
use borrow.Author.Rules.{rules}
use native.Mathlib.Omega.{arith}
use Rattle.consistency.proofs.Masks.{shifted}
use Rattle.consistency.proofs.Steps.{passed-row, passed-narrowed}
use Rattle.consistency.proofs.narrowed.Goals as goal
use Rattle.consistency.proofs.narrowed.Goals.{then-left-old, else-left-old}

pub loop-q-preserved : goal.loop-q-preserved
loop-q-preserved c = elim c.if-left-old.branch [
  | then-left-old w ↦
      rw (w.state-is) (
        omega arith,
        search rules,
        search rules,
        c.loop-q.invariant.3,
        c.loop-q.invariant.4,
        passed-narrowed c.args.table.now c.args.state.now c.loop-q.state c.args.r c.args.d c.loop-q.q _ (omega arith) (omega arith)
            (shifted c.args.r (omega arith)) c.loop-q.invariant.5,
      )
  | else-left-old w ↦
      rw (w.state-is) (
        omega arith,
        c.loop-q.invariant.1,
        c.loop-q.invariant.2,
        c.loop-q.invariant.3,
        c.loop-q.invariant.4,
        passed-row c.args.table.now c.args.state.now c.loop-q.state c.args.r c.args.d c.loop-q.q w.if-left-old.false c.loop-q.invariant.5,
      )
]
