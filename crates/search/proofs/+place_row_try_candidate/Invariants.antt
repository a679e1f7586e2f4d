-- The measure of both functions of the cycle {place_row, try_candidate} is the work left.
use Rattle.search.proofs.+place_row_try_candidate.Given as goal

abbrev pub decreases-place_row : goal.decreases-place_row
decreases-place_row l = l.work

abbrev pub decreases-try_candidate : goal.decreases-try_candidate
decreases-try_candidate l = l.work
