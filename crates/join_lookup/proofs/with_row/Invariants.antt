-- `with_row` puts in the columns of a set one by one. Invariant: those before column c are put in, and nothing else is changed.
-- Assumes nothing.
use Rattle.join_lookup.proofs.Putting.{PutIn}
use Rattle.codes.specs.internal.Codes.{codes_in}
use Rattle.join_lookup.proofs.with_row.Given as goal

abbrev pub invariant-loop-c : goal.invariant-loop-c
invariant-loop-c l = PutIn (codes_in l.codes) l.words l.at l.set l.initial.row l.row l.c
