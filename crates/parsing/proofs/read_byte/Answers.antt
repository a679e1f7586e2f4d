-- `read_byte` meets its contract. Assumes nothing.
use Rattle.std.proofs.Common.{ap, ◌∙◌}
use Rattle.lists.specs.Tests.{between}
use Rattle.parsing.specs.internal.Read.{reading_of}
use Rattle.parsing.proofs.Positions.{within, below, above, no-byte, byte-bad, byte-good}
use Rattle.parsing.proofs.read_byte.Goals as goal
use Rattle.parsing.proofs.read_byte.Goals.{else-low-byte-via-then-low-byte+else-byte-high, else-low-byte-via-else-low-byte}

pub returns-in_err-byte : goal.returns-in_err-byte
returns-in_err-byte c = ap reading_of c.from_residual.ensures ∙ no-byte (between c.args.low c.args.high) c.args.s.now c.in_err-byte.ensures.cases

pub returns-then-byte-high : goal.returns-then-byte-high
returns-then-byte-high c =
    byte-good (between c.args.low c.args.high) _ _ _ c.in_ok-byte.ensures.cases.0 (within _ _ _ c.if-low-byte.true c.if-byte-high.true)

pub returns-else-low-byte : goal.returns-else-low-byte
returns-else-low-byte c =
    byte-bad (between c.args.low c.args.high) _ _ _ c.in_ok-byte.ensures.cases.0
    (elim c.else-low-byte.branch [
      | else-low-byte-via-then-low-byte+else-byte-high w ↦ above _ _ _ w.if-byte-high.false
      | else-low-byte-via-else-low-byte w ↦ below _ _ _ w.if-low-byte.false
    ])
