-- `read_row` reads value by value. Assumes nothing.
use native.Mathlib.Omega.{arith}
use borrow.Author.Rules.{rules}
use Rattle.codes.specs.internal.Codes.{codes_in}
use Rattle.words.proofs.Columns.{read-more, read-all}
use Rattle.words.proofs.read_row.Goals as goal

pub loop-c-init : goal.loop-c-init
loop-c-init c = record { size = search rules; done = λ d low. absurd (omega arith) }

pub loop-c-preserved : goal.loop-c-preserved
loop-c-preserved c =
    let a = c.args in
    let l = c.loop-c in
    read-more (codes_in a.codes.now) a.words.now a.at l.row l.c c.value.result l.invariant (omega (arith, c.loop-c-test.true, c.requires.1)) c.value.ensures

pub returns : goal.returns
returns c =
    let a = c.args in
    let l = c.loop-c in
    read-all (codes_in a.codes.now) a.words.now a.at l.row l.c a.width l.invariant (omega (arith, c.loop-c-test.false)) c.requires.1 c.requires.0
