-- `Codes::read`. Invariant: the number is read by all pairs as by those that are left. Assumes nothing.
use Rattle.std.proofs.Common.{◌≡◌}
use Rattle.theory.specs.Codes.{read_code}
use Rattle.codes.specs.internal.Codes.{codes_in}
use Rattle.codes.proofs.Found.{read_from}
use Rattle.codes.proofs.pairs.Codes.read.Given as goal

abbrev pub invariant-loop-p : goal.invariant-loop-p
invariant-loop-p l = read_code (codes_in l.self) l.n ≡ read_from l.p-items l.p-index l.n
