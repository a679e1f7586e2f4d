-- `replacement::key` meets its contract: what `stands` says is whether the variable is in the head. Assumes nothing.
use mathlib.Core.Path.{◌≡◌, sym, ◌∙◌}
use mathlib.Core.Bool.{true, false}
use Rattle.replacement.specs.internal.Replacement.{stands_in}
use Rattle.replacement.proofs.key.Goals as goal

pub returns-then-stands : goal.returns-then-stands
returns-then-stands c =
    let shown : stands_in c.args.head.now c.in-Variable.v ≡ true = sym c.stands.ensures ∙ c.if-stands.true in
    rw (c.in-Variable.is, shown, c.from.ensures) (cc)

pub returns-else-stands : goal.returns-else-stands
returns-else-stands c =
    let shown : stands_in c.args.head.now c.in-Variable.v ≡ false = sym c.stands.ensures ∙ c.if-stands.false in
    rw (c.in-Variable.is, shown, c.from-else-stands.ensures) (cc)
