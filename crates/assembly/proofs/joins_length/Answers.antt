-- `joins_length` meets its contract. Assumes nothing.
use mathlib.Core.Path.{◌≡◌, ap}
use Prim.Native.Nat.{◌<◌}
use native.Mathlib.Omega.{arith}
use lib.ListN.{length, take, get_or, length-take}
use lib.Seq.{get_or-take}
use borrow.Author.Tests.{leb-true}
use borrow.Author.Rules.{rules}
use Rattle.lists.proofs.Tests.{every-get_or}
use Rattle.limits.proofs.Sets.{past_join}
use Rattle.assembly.specs.internal.Pieces.{few_sets}
use Rattle.assembly.proofs.Joins.{joins-some, joins-next, joins-end}
use Rattle.assembly.proofs.joins_length.Goals as goal

pub join_length-sum-requires : goal.join_length-sum-requires
join_length-sum-requires c =
    let n = c.args.joined in
    let i = c.loop-j.j-index in
    let four : length c.args.list ≡ 4 = search rules in
    let low : i < n = omega (arith, length-take n c.args.list, c.loop-j-test.true) in
    let same : get_or (take n c.args.list) i past_join ≡ get_or c.args.list i past_join = get_or-take n c.args.list i past_join low in
    rw same (leb-true _ 4 (every-get_or few_sets c.args.list i past_join c.requires.1 (omega (arith, c.requires.0))))

pub loop-j-preserved : goal.loop-j-preserved
loop-j-preserved c =
    let e = joins-next (take c.args.joined c.args.list) c.loop-j.j-index c.loop-j-test.true in
    (omega (arith, c.join_length-sum.ensures.1, c.loop-j.invariant.0), omega (arith, e, c.join_length-sum.ensures.0, c.loop-j.invariant.1))

pub returns : goal.returns
returns c =
    let e = joins-end (take c.args.joined c.args.list) c.loop-j.j-index c.loop-j-test.false in
    let all = ap length (joins-some c.args.joined c.args.list c.if-joined-eq0.false) in
    (omega (arith, e, all, c.loop-j.invariant.1), omega (arith, c.requires.0, length-take c.args.joined c.args.list, c.loop-j.invariant.0))
