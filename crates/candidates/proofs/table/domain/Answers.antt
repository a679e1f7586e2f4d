-- `domain` marks the possible candidates of a row.
-- Assumes nothing.
use Rattle.std.proofs.Common.{rules, tests, ℕ, subst}
use Rattle.candidates.specs.internal.Candidates.{Marks, Possible}
use Rattle.candidates.proofs.Masks.{marks-tested}
use Rattle.candidates.proofs.table.domain.Goals as goal

pub returns : goal.returns
returns c =
    let a = c.args in
    let P : ℕ → Type 0 = Possible a.source.now a.target.now a.named a.offered a.size a.r in
    subst (λ (n : ℕ). Marks n c.marks_where.result P) c.candidates.ensures.0
    (marks-tested _ P c.candidates.result c.marks_where.result (λ e b h k. search (rules, tests)) c.marks_where.ensures)
