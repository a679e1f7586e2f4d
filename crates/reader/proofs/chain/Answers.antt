use borrow.Author.Rules.{rules}
use mathlib.Core.Path.{sym, ◌∙◌}
use native.Mathlib.Nat.{sub-zero}
use native.Mathlib.Omega.{arith}
use Rattle.format.proofs.Stretches.{chained-turns, chained-breaks, chained-ends}
use Rattle.reader.proofs.chain.Goals as goal

pub loop-k-init : goal.loop-k-init
loop-k-init c =
    (omega arith, omega (arith, c.requires.0), rw sub-zero)

pub returns-then-offset-due : goal.returns-then-offset-due
returns-then-offset-due c =
    sym (c.loop-k.invariant.2 ∙ chained-breaks c.args.file.now c.args.n c.loop-k.due c.loop-k.k
    c.loop-k-test.true (λ e. c.if-offset-due.true (c.word16-offset.ensures.0 ∙ e)))

pub loop-k-preserved : goal.loop-k-preserved
loop-k-preserved c = (
  search rules,
  omega (arith, c.word16-size.ensures.1),
  c.loop-k.invariant.2 ∙ chained-turns c.args.file.now c.args.n c.loop-k.due c.loop-k.k
      c.loop-k-test.true c.word16-size.result (sym c.word16-offset.ensures.0 ∙ c.if-offset-due.false)
      c.word16-size.ensures.0,
)

pub returns : goal.returns
returns c =
    sym (c.loop-k.invariant.2 ∙ chained-ends c.args.file.now c.args.n c.loop-k.due c.loop-k.k c.loop-k-test.false)
