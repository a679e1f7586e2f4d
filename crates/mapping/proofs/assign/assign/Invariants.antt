-- `assign` gives the variables of all rows their images. The invariant: those of the rows passed have them.
-- Assumes nothing.
use Rattle.mapping.specs.internal.Lines.{choice_of}
use Rattle.mapping.specs.internal.Lines.{Assigned}
use Rattle.mapping.proofs.assign.assign.Given as goal

abbrev pub invariant-loop-r : goal.invariant-loop-r
invariant-loop-r l = Assigned l.source l.target l.size (choice_of l.fn.chosen) l.r l.images
