-- `shared_columns` marks columns that share a variable. The invariant: those of the codes passed are marked, and the columns of each variable passed are seen.
-- Assumes nothing.
use Rattle.candidates.proofs.Columns.{Marked}
use Rattle.candidates.proofs.shared.shared_columns.Given as goal

abbrev pub invariant-loop-k : goal.invariant-loop-k
invariant-loop-k l = Marked l.source l.columns l.seen l.k
