-- `places_good` meets its contract. Assumes nothing.
use Rattle.std.proofs.Common.{rules, tests, ◌∙◌}
use Rattle.std.proofs.lemmas.Iterator.{YieldsList-from_slice}
use Rattle.std.proofs.lemmas.Iterator.Search.{all_from_yields_List}
use Rattle.query.specs.Rule.{good_place}
use Rattle.chains.proofs.Chains.{all_every}
use Rattle.limits.specs.internal.Schema.{widths_in}
use Rattle.limits.proofs.schema.Schema.places_good.Goals as goal

pub returns : goal.returns
returns c =
    all_from_yields_List (good_place (widths_in c.args.self)) _ _ _ c.all.ensures.ran (YieldsList-from_slice c.args.places cc)
    (λ x b q k. search (rules, tests))
    ∙ all_every (good_place (widths_in c.args.self)) c.args.places
