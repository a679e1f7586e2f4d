-- `word32` meets its contract. Assumes nothing.
use Rattle.std.proofs.Common.{◌≡◌, ℕ, ◌+◌, get_or, ap}
use native.Mathlib.Omega.{arith}
use Rattle.parsing.proofs.Words.{number-two, number-four}
use Rattle.parsing.proofs.word32.Goals as goal

pub returns : goal.returns
returns c =
    let s = c.args.s.now in
    let at = c.args.at in
    let last : get_or s (at + 2 + 1) 0 ≡ get_or s (at + 3) 0 = ap (λ (k : ℕ). get_or s k 0) (omega arith) in
    omega (arith, number-four s at, number-two s at, number-two s (at + 2), c.from_le_bytes.ensures)
