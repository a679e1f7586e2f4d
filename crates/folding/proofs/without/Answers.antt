-- `folding::without` marks the rows that are left but one. Assumes nothing.
use Rattle.std.proofs.Common.{rules, tests}
use Rattle.folding.specs.internal.Folding.{LeftBut}
use Rattle.candidates.proofs.Masks.{marks-tested}
use Rattle.folding.proofs.without.Goals as goal

pub returns : goal.returns
returns c =
    marks-tested _ (LeftBut c.args.left c.args.i) c.args.size c.marks_where.result (λ e b h k. search (rules, tests)) c.marks_where.ensures
