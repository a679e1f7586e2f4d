-- `word16` meets its contract. Assumes nothing.
use native.Mathlib.Omega.{arith}
use Rattle.parsing.proofs.Words.{number-two}
use Rattle.parsing.proofs.word16.Goals as goal

pub returns : goal.returns
returns c =
    (omega (arith, number-two c.args.s.now c.args.at, c.from.ensures, c.from_le_bytes.ensures), omega (arith, c.from.ensures))
