-- `clear` goes through the buckets of a table. Invariant: those before b are empty, and nothing else is changed. Assumes nothing.
use Rattle.join_tables.proofs.Clearing.{Cleared}
use Rattle.join_tables.proofs.clear.Given as goal

abbrev pub invariant-loop-b : goal.invariant-loop-b
invariant-loop-b l = Cleared l.t l.end l.initial.heads l.heads l.b
