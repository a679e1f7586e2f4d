-- `join_good` meets its contract: the sets that are not in use are empty, so that all four cover what those in use cover. Assumes nothing.
use Rattle.std.proofs.Common.{◌≡◌, ◌^◌, ℕ, true, ap, ◌∙◌, arith}
use lib.Dec.{ltb}
use Rattle.lists.specs.Tests.{every, in_use, is_zero}
use Rattle.query.specs.Rule.{good_join_set}
use Rattle.query.proofs.Relations.{width-le}
use Rattle.limits.specs.internal.Schema.{widths_in}
use Rattle.limits.proofs.Sets.{sets-within, covered}
use Rattle.limits.proofs.schema.Schema.join_good.Goals as goal
use Rattle.limits.proofs.schema.Schema.join_good.Goals.{then-j-le4, else-j-le4}

pub sets_cover-requires : goal.sets_cover-requires
sets_cover-requires c =
    let schema = widths_in c.args.self in
    let j = c.args.j in
    let good : in_use j.count (good_join_set schema j.relation) is_zero j.sets ≡ true =
    elim c.if-j-le4.branch [ then-j-le4 w ↦ cc | else-j-le4 w ↦ cc ]
    in (
      omega (arith, c.width_of.ensures, width-le _ _ c.args.self.good j.relation),
      ap (λ (w : ℕ). every (λ set. ltb set (2 ^ w)) j.sets) c.width_of.ensures ∙ sets-within schema j.relation j.count j.sets good,
    )

pub returns-then-sets_good : goal.returns-then-sets_good
returns-then-sets_good c =
    let schema = widths_in c.args.self in
    let j = c.args.j in
    elim c.if-j-le4.branch [
      | then-j-le4 w ↦ covered schema j (omega arith) (omega arith) (cc) c.width_of.ensures c.sets_cover.ensures
      | else-j-le4 w ↦ cc
    ]
