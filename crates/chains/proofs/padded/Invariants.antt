-- `padded` puts the elements one by one. Invariant: the first i of them are put, and blanks stand after them. Assumes nothing.
use Rattle.std.proofs.Common.{◌≡◌}
use Rattle.lists.proofs.Loops.{filled_to}
use Rattle.chains.proofs.padded.Given as goal

abbrev pub invariant-loop-i : goal.invariant-loop-i
invariant-loop-i g l = l.all ≡ filled_to g.row.N l.fn.blank l.xs l.i
