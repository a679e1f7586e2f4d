-- `with_code` marks the candidates of a row with a code in a column.
-- Assumes nothing.
use Rattle.std.proofs.Common.{rules, tests, ◌≡◌, ℕ, ◌+◌, get_or, subst}
use Rattle.candidates.specs.internal.Candidates.{Marks, image_start}
use Rattle.candidates.proofs.Masks.{marks-tested}
use Rattle.candidates.proofs.cuts.with_code.Goals as goal

pub returns : goal.returns
returns c =
    let a = c.args in
    let P : ℕ → Type 0 = λ e. get_or a.target.now (image_start a.size a.q e + a.j) 0 ≡ a.code in
    subst (λ (n : ℕ). Marks n c.marks_where.result P) c.candidates.ensures.0
    (marks-tested _ P c.candidates.result c.marks_where.result (λ e b h k. search (rules, tests)) c.marks_where.ensures)
