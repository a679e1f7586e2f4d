-- `lands` tells whether a row is carried to one of the target's. The invariant: to none of those passed.
-- Assumes nothing.
use borrow.Author.Count.{below_more}
use mathlib.Core.Path.{sym, ◌∙◌}
use mathlib.Core.Bool.{false≢true}
use Prim.Native.Nat.{◌<◌}
use lib.ListN.{length}
use native.Mathlib.Omega.{arith}
use Rattle.lists.proofs.Positions.{tells-true, tells-false}
use Rattle.mapping.proofs.carry.lands.Goals as goal
use Rattle.mapping.proofs.carry.lands.Goals.{else-relation-named-via-then-relation-named+else-carries, else-relation-named-via-else-relation-named}

pub returns-then-carries : goal.returns-then-carries
returns-then-carries c = tells-true (c.loop-d.d, c.loop-d-test.true, sym c.if-relation-named.true, c.carries.ensures.0 c.if-carries.true)

pub loop-d-preserved : goal.loop-d-preserved
loop-d-preserved c = below_more _ _ c.loop-d.invariant
    (elim c.else-relation-named.branch [
      | else-relation-named-via-then-relation-named+else-carries w ↦ λ e p. false≢true (sym w.if-carries.false ∙ w.carries.ensures.1 p)
      | else-relation-named-via-else-relation-named w ↦ λ e p. w.if-relation-named.false (sym e)
    ])

pub returns : goal.returns
returns c = tells-false (λ w. c.loop-d.invariant w.0 (let h : w.0 < length c.args.offered.now = w.1 in omega arith) w.2 w.3)
