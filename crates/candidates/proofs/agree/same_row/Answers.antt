-- `same_row` tells whether two rows are the same.
-- Assumes nothing.
use Rattle.std.proofs.Common.{◌≡◌, Bool, true, false, refl, sym, ◌∙◌}
use mathlib.Core.Logic.{◌↔◌}
use Rattle.std.specs.Cmp.Lexicographic.{same_text, other_text}
use Rattle.candidates.specs.internal.Candidates.{SameRow}
use Rattle.candidates.proofs.Chained.{part, same-parts}
use Rattle.candidates.proofs.agree.same_row.Goals as goal

pub returns : goal.returns
returns c = ((λ r. same.0 (same_text _ _ (sym r ∙ c.eq.ensures))), (λ rows. go rows c.eq.result refl))
  where
    same : (part c.args.a 8 c.args.target.now ≡ part c.args.b 8 c.args.target.now) ↔ SameRow c.args.target.now c.args.a c.args.b
    same = same-parts c.args.a c.args.b 8 c.args.target.now c.args.target.now 0 c.requires.0 c.requires.1

    go : SameRow c.args.target.now c.args.a c.args.b → (r : Bool) → c.eq.result ≡ r → c.eq.result ≡ true
    go rows true e = e
    go rows false e = absurd (other_text _ _ (sym e ∙ c.eq.ensures) (same.1 rows))
