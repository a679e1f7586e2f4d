-- `pairs_blank` meets its contract. Assumes nothing.
use Rattle.std.proofs.Common.{rules, tests, ◌∙◌}
use Rattle.std.proofs.lemmas.Iterator.{YieldsList-from_slice}
use Rattle.std.proofs.lemmas.Iterator.Search.{all_from_yields_List}
use Rattle.query.specs.Rule.{blank_pair}
use Rattle.chains.proofs.Chains.{all_every}
use Rattle.limits.proofs.pairs_blank.Goals as goal

pub returns : goal.returns
returns c =
    all_from_yields_List blank_pair _ _ _ c.all.ensures.ran (YieldsList-from_slice c.args.pairs.now cc) (λ x b q k. search (rules, tests))
    ∙ all_every blank_pair c.args.pairs.now
