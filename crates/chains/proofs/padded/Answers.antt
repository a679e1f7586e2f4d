-- `padded` puts the elements one by one. Assumes nothing.
use Rattle.std.proofs.Common.{◌≡◌, ◌++◌, ◌-◌, length, replicate, set, ap, ap₂, ◌∙◌, arith}
use lib.Seq.{take-length}
use Rattle.lists.proofs.Loops.{filled_to, filled_next, get_or_any}
use Rattle.chains.proofs.padded.Goals as goal

pub loop-i-preserved : goal.loop-i-preserved
loop-i-preserved g c =
    let xs = c.args.xs.now in
    let i = c.loop-i.i in
    ap₂ (λ all x. set all i x) c.loop-i.invariant (c.index-xs-i.is ∙ get_or_any xs i c.index-xs-i.result c.args.blank c.loop-i-test.true)
    ∙ filled_next g.row.N c.args.blank xs i c.loop-i-test.true (omega (arith, c.requires))

pub returns : goal.returns
returns g c =
    let xs = c.args.xs.now in
    let all : c.loop-i.i ≡ length xs = omega arith in
    c.loop-i.invariant ∙ ap (filled_to g.row.N c.args.blank xs) all
    ∙ ap (λ put. put ++ replicate (g.row.N - length xs) c.args.blank) (take-length xs)
