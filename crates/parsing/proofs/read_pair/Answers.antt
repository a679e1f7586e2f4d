-- `read_pair` meets its contract. Assumes nothing.
use Rattle.parsing.proofs.Values.{to_end}
use Rattle.parsing.proofs.Codes.{pair-short, pair-found}
use Rattle.parsing.proofs.read_pair.Goals as goal

pub returns-then-s-lt8 : goal.returns-then-s-lt8
returns-then-s-lt8 c = pair-short c.args.s.now c.if-s-lt8.true

pub returns : goal.returns
returns c =
    pair-found c.args.s.now c.if-s-lt8.false (record { old = c.word32.result; current = c.word32-2.result })
    (λ i. record { old = c.word32.ensures i; current = c.word32-2.ensures i }) _ (to_end 8 c.args.s.now)
