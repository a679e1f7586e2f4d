-- `enter` goes from row to row before. Invariant: the rows from the one at `at` on are in the table. Assumes nothing.
use Rattle.join_tables.proofs.Filling.{Entered}
use Rattle.codes.specs.internal.Codes.{codes_in}
use Rattle.join_tables.proofs.enter.Given as goal

abbrev pub invariant-loop-at : goal.invariant-loop-at
invariant-loop-at l = Entered (codes_in l.codes) l.schema l.words l.x l.t l.columns l.set l.initial.heads l.initial.nodes l.heads l.nodes l.at

abbrev pub decreases-loop-at : goal.decreases-loop-at
decreases-loop-at l = l.at
