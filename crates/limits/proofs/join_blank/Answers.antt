-- `join_blank` meets its contract: four sets are those of a slot not in use exactly when each is 0. Assumes nothing.
use Rattle.std.proofs.Common.{length, ◌≡◌, rules, ◌∙◌, sym, ap, Bool, ◌&&◌}
use lib.Dec.{eqb}
use Rattle.limits.proofs.Sets.{zero-sets}
use Rattle.lists.proofs.Loops.{and_assoc, mapped-length}
use Rattle.limits.proofs.join_blank.Goals as goal

pub returns : goal.returns
returns c =
    let j = c.args.j in
    let long : length j.sets ≡ 4 = search (mapped-length, rules) in
    c.eq.ensures
    ∙ sym (and_assoc (eqb j.relation 0) (eqb j.count 0) _)
    ∙ ap (λ (t : Bool). (eqb j.relation 0 && eqb j.count 0) && t) (zero-sets j.sets long)
