-- `from_query` meets its contract: a query's arrays have no room for more than they hold. Assumes nothing.
use Rattle.std.proofs.Common.{◌∙◌, ap, ap₂, ◌++◌, replicate, rules}
use Rattle.std.proofs.lemmas.List.{take_all}
use Rattle.query.specs.Rule.{no_cell}
use Rattle.tableaux.proofs.from_query.Goals as goal

pub returns : goal.returns
returns c =
    let q = c.args.q in
    c.with_room.ensures
    ∙ ap₂
    (λ relations cells. record { arity = q.arity; size = q.size; head = q.head; relations = relations; cells = cells })
    (ap (λ l. l ++ replicate 12 0) (take_all 24 q.relations (search rules)))
    (ap (λ l. l ++ replicate 96 no_cell) (take_all 192 q.cells (search rules)))
