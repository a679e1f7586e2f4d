-- `table` cuts a table of all candidates. The invariant: it is cut for the pairs of columns passed.
-- Assumes nothing.
use Rattle.candidates.specs.internal.Sharing.{Cut}
use Rattle.candidates.proofs.Cutting.{Passed}
use Rattle.candidates.proofs.table.table.Given as goal

abbrev pub invariant-loop-k : goal.invariant-loop-k
invariant-loop-k l = Cut l.size l.count (Passed l.source l.target l.size l.count l.k) l.initial.table l.table
