-- `read_entry` meets its contract. Assumes nothing.
use Rattle.std.proofs.Common.{get_or, arith}
use Rattle.parsing.proofs.Values.{to_end}
use Rattle.parsing.proofs.Positions.{entry-short, constant-bad, variable-bad, tag-bad, no-entry, constant-entry, variable-entry}
use Rattle.parsing.proofs.read_entry.Goals as goal
use Rattle.parsing.proofs.read_entry.Goals.{in_default-via-in-0+else-n-le2147483647, in_default-via-in-1+else-n-le95, in_default-via-in_default-1}

pub returns-then-s-lt5 : goal.returns-then-s-lt5
returns-then-s-lt5 c = entry-short c.args.s.now c.if-s-lt5.true

pub returns-in-0 : goal.returns-in-0
returns-in-0 c =
    constant-entry c.args.s.now c.word32-n.result c.if-s-lt5.false c.word32-n.ensures _ (to_end 5 c.args.s.now) c.in-0.is c.if-n-le2147483647.true

pub returns-in-1 : goal.returns-in-1
returns-in-1 c = variable-entry c.args.s.now c.word32-n.result c.if-s-lt5.false c.word32-n.ensures _ (to_end 5 c.args.s.now) c.in-1.is c.if-n-le95.true

pub returns-in_default : goal.returns-in_default
returns-in_default c =
    no-entry c.args.s.now c.word32-n.result c.if-s-lt5.false c.word32-n.ensures
    (elim c.in_default.branch [
      | in_default-via-in-0+else-n-le2147483647 w ↦ constant-bad _ c.word32-n.result w.in-0.is w.if-n-le2147483647.false
      | in_default-via-in-1+else-n-le95 w ↦ variable-bad _ c.word32-n.result w.in-1.is w.if-n-le95.false
      | in_default-via-in_default-1 w ↦ tag-bad (get_or c.args.s.now 0 0) c.word32-n.result (λ z. omega arith) (λ z. omega arith)
    ])
