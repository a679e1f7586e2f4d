-- `arrange` swaps the set that is closest to those before it into each place. Assumes nothing.
use native.Mathlib.Omega.{arith}
use Rattle.join_order.proofs.Swapping.{arranged_swap}
use Rattle.join_order.proofs.arrange.Goals as goal

pub loop-i-preserved : goal.loop-i-preserved
loop-i-preserved c =
    let v = c.loop-i.invariant in
    let e = c.closest-l.ensures in
    arranged_swap c.args.j c.loop-i.arranged c.args.first c.loop-i.i c.closest-l.result c.swap.new.self v (omega arith)
    (omega (arith, c.loop-i-test.true)) (omega (arith, e.0)) (omega (arith, e.1, v.count)) c.requires.1 c.swap.ensures.after
