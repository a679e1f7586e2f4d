-- `replacement::stands` meets its contract: a cell that holds the variable is what the loop looks for. Assumes nothing.
use Rattle.std.proofs.Common.{rules, tests, ◌∙◌}
use Rattle.std.proofs.lemmas.Iterator.{YieldsList-from_slice}
use Rattle.std.proofs.lemmas.Iterator.Search.{any_from_yields_List}
use Rattle.replacement.proofs.Steps.{holds_variable, any-member}
use Rattle.replacement.proofs.stands.Goals as goal

pub returns : goal.returns
returns c =
    any_from_yields_List (holds_variable c.args.v) _ _ _ c.any.ensures.ran (YieldsList-from_slice c.args.cells.now cc) (λ x b q k. search (rules, tests))
    ∙ any-member c.args.v c.args.cells.now
