-- `row_good` meets its contract. Assumes nothing.
use Rattle.std.proofs.Common.{◌≡◌, length, arith, rules}
use Rattle.query.proofs.Relations.{known-relation, relations-bounds}
use Rattle.limits.proofs.schema.Schema.row_good.Goals as goal

pub returns-then-relation-self : goal.returns-then-relation-self
returns-then-relation-self c =
    let fits : length c.args.self.widths ≡ 8 = search rules in
    rw (
      known-relation c.args.self.relations c.args.self.widths c.args.relation
          (omega (arith, (relations-bounds _ _ c.args.self.good).1)) c.if-relation-self.true,
      ← c.width_of.ensures,
    ) c.cells_good.ensures
