-- `cells_have` meets its contract. Assumes nothing.
use Rattle.std.proofs.Common.{rules, tests, ◌∙◌}
use Rattle.std.proofs.lemmas.Iterator.{YieldsList-from_slice}
use Rattle.std.proofs.lemmas.Iterator.Search.{any_from_yields_List}
use Rattle.limits.specs.internal.Entries.{names_variable}
use Rattle.limits.proofs.Variables.{any-member}
use Rattle.limits.proofs.cells_have.Goals as goal

pub returns : goal.returns
returns c =
    any_from_yields_List (names_variable c.args.v) _ _ _ c.any.ensures.ran (YieldsList-from_slice c.args.cells.now cc) (λ x b q k. search (rules, tests))
    ∙ any-member c.args.v c.args.cells.now
