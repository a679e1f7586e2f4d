-- `folding::tried` lets a row go where the query can be mapped into the others. Assumes nothing.
use Rattle.std.proofs.Common.{refl}
use mathlib.Core.Logic.{inl, inr}
use Rattle.candidates.proofs.Masks.{has-below}
use Rattle.folding.proofs.Left.{among-solution, solution-among}
use Rattle.folding.proofs.tried.Goals as goal

pub returns-in-Some : goal.returns-in-Some
returns-in-Some c =
    let a = c.args in
    inr (c.without-rest.ensures, among-solution a.domain.now a.pairs.now c.among-narrowed.result a.size c.without-rest.result c.among-narrowed.ensures _ c.in-Some.ensures.some)

pub returns-in-None : goal.returns-in-None
returns-in-None c =
    let a = c.args in
    let marks = c.without-rest.ensures in
    inl (
      refl,
      (λ at w.
          c.in-None.ensures.none refl w.0
          (solution-among a.domain.now a.pairs.now c.among-narrowed.result a.size c.without-rest.result c.among-narrowed.ensures
          (w.0, w.1, λ r h. (marks.1 (w.0 r) (has-below a.size a.state.left (w.0 r) c.requires.2 (w.2 r h).0)).1 (w.2 r h)))),
    )
