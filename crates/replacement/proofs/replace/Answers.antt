-- `replacement::replace` meets its contract: field by field. Assumes nothing.
use mathlib.Core.Path.{ap, ap₂, ◌∙◌}
use mathlib.Core.List.{List, ◌++◌}
use Prim.Native.Nat.{◌*◌}
use lib.ListN.{drop}
use Rattle.query.specs.declared.Cell.{Cell}
use Rattle.replacement.proofs.Steps.{substitute-used}
use Rattle.replacement.proofs.replace.Goals as goal

pub returns : goal.returns
returns c =
    let t = c.args.t in
    let r = c.args.replacement in
    ap₂
    (λ head cells. record { arity = t.arity; size = t.size; head = head; relations = t.relations; cells = cells })
    c.substitute_all.ensures
    (ap (λ (cells : List Cell). cells ++ drop (8 * c.from.result) t.cells) c.substitute_all-2.ensures
    ∙ substitute-used r.variable r.entry (8 * c.from.result) t.cells (rw c.from.ensures c.requires.1))
