-- `apart_from` meets its contract. Assumes nothing.
use Rattle.std.proofs.Common.{rules, tests, ◌∙◌}
use Rattle.std.proofs.lemmas.Iterator.{YieldsList-from_slice}
use Rattle.std.proofs.lemmas.Iterator.Search.{all_from_yields_List}
use Rattle.query.specs.Rule.{apart}
use Rattle.chains.proofs.Chains.{all_every}
use Rattle.limits.proofs.apart_from.Goals as goal

pub returns : goal.returns
returns c =
    all_from_yields_List (apart c.args.p) _ _ _ c.all.ensures.ran (YieldsList-from_slice c.args.others.now cc) (λ x b q k. search (rules, tests))
    ∙ all_every (apart c.args.p) c.args.others.now
