-- `distinct` marks the rows that are no repeats. Assumes nothing.
use Rattle.std.proofs.Common.{rules, tests, ℕ}
use Rattle.candidates.specs.internal.Candidates.{Repeats}
use Rattle.candidates.proofs.Masks.{marks-tested}
use Rattle.candidates.proofs.table.distinct.Goals as goal

pub returns : goal.returns
returns c =
    let P : ℕ → Type 0 = λ d. Repeats c.args.target.now c.args.offered d → ⊥ in
    marks-tested _ P c.args.count c.marks_where.result (λ e b h k. search (rules, tests)) c.marks_where.ensures
