-- `set_good` meets its contract: the shift does not wrap, since no relation has more than 8 columns. Assumes nothing.
use Rattle.std.proofs.Common.{◌≡◌, length, arith, rules}
use native.Mathlib.Nat.{lt_of_le_of_lt}
use lib.Dec.{lit<}
use Rattle.query.specs.Rule.{good_set}
use Rattle.query.proofs.Relations.{known-relation, relations-bounds, width-le}
use Rattle.lists.proofs.Tests.{shifted_one}
use Rattle.limits.proofs.schema.Schema.set_good.Goals as goal

pub overflow_shl-result : goal.overflow_shl-result
overflow_shl-result c = omega (arith, c.width_of.ensures, width-le _ _ c.args.self.good c.args.relation)

pub returns-then-relation-self : goal.returns-then-relation-self
unfolding good_set
returns-then-relation-self c =
    let fits : length c.args.self.widths ≡ 8 = search rules in
    rw (
      c.from.ensures,
      c.width_of.ensures,
      known-relation c.args.self.relations c.args.self.widths c.args.relation
          (omega (arith, (relations-bounds _ _ c.args.self.good).1)) c.if-relation-self.true,
      shifted_one 16 _ (lt_of_le_of_lt (width-le _ _ c.args.self.good c.args.relation) (lit< tt)),
    )
