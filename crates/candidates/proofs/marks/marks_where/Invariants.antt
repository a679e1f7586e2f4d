-- `marks_where` asks the numbers from the last to the first. Invariant: the bits of those asked say what the test answers.
-- Assumes nothing.
use Prim.Native.Nat.{◌+◌, ◌-◌}
use Rattle.candidates.specs.internal.Candidates.{Tested}
use Rattle.candidates.proofs.marks.marks_where.Given as goal

abbrev pub invariant-loop-e : goal.invariant-loop-e
invariant-loop-e g l = Tested (λ i. goal.F-post g l.test (l.e + i)) (l.n - l.e) l.mask
