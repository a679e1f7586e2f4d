-- `replacement::resolve` meets its contract: the survivor by keys. Assumes nothing.
use mathlib.Core.Path.{sym, ◌∙◌, ap}
use native.Mathlib.Omega.{arith}
use Rattle.query.specs.View.{as_query, entry_of}
use Rattle.replacement.specs.internal.Replacement.{head_holds}
use Rattle.replacement.proofs.Keys.{replace-first, replace-second, both-clash}
use Rattle.theory.specs.Chase.{replace}
use Rattle.replacement.proofs.resolve.Goals as goal
use Rattle.replacement.proofs.resolve.Goals.{then-key, else-key}

pub returns-in-Constant : goal.returns-in-Constant
returns-in-Constant c =
    let a = c.args in
    let n = c.in-Constant.field-0 in
    let shown = head_holds (as_query a.t.now) in
    let sized = c.from.ensures in
    elim c.if-key.branch [
      | then-key w ↦ (both-clash shown a.a a.b c.requires.1 c.requires.2 n (ap (λ p. p.1) (sym w.survivor-is) ∙ c.in-Constant.is)
          (omega (arith, w.if-key, rw sized at c.key.ensures, rw sized at c.key-2.ensures))).0
      | else-key w ↦ (both-clash shown a.b a.a c.requires.2 c.requires.1 n (ap (λ p. p.1) (sym w.survivor-is) ∙ c.in-Constant.is)
          (omega (arith, w.if-key, rw sized at c.key.ensures, rw sized at c.key-2.ensures))).1
    ]

pub returns-in-Variable : goal.returns-in-Variable
returns-in-Variable c =
    let a = c.args in
    let v = c.in-Variable.v in
    let shown = head_holds (as_query a.t.now) in
    let sized = c.from.ensures in
    elim c.if-key.branch [
      | then-key w ↦ ap (λ p. replace v (entry_of p.0)) w.survivor-is ∙ replace-first shown a.a a.b c.requires.1 c.requires.2 v (ap (λ p. p.1) (sym w.survivor-is) ∙ c.in-Variable.is)
          (omega (arith, w.if-key, rw sized at c.key.ensures, rw sized at c.key-2.ensures))
      | else-key w ↦ ap (λ p. replace v (entry_of p.0)) w.survivor-is ∙ replace-second shown a.b a.a c.requires.2 c.requires.1 v (ap (λ p. p.1) (sym w.survivor-is) ∙ c.in-Variable.is)
          (omega (arith, w.if-key, rw sized at c.key.ensures, rw sized at c.key-2.ensures))
    ]
