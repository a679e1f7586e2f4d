-- `join_search::some_goes` meets its contract. Assumes nothing.
use Rattle.std.proofs.Common.{refl, rules, tests, ◌∙◌}
use Rattle.std.proofs.lemmas.Iterator.{YieldsList-from_range}
use Rattle.std.proofs.lemmas.Iterator.Search.{any_from_yields_List}
use Rattle.join_search.specs.internal.Search.{row_goes}
use native.Mathlib.Nat.{sub-zero}
use Rattle.join_search.proofs.Turns.{any-some}
use Rattle.join_search.proofs.some_goes.Goals as goal

pub returns : goal.returns
returns c =
    let a = c.args in
    any_from_yields_List (row_goes a.codes.now a.relations.now a.relation a.set a.chosen) _ _ _
    c.any.ensures.ran (YieldsList-from_range 0 a.size a.size refl (sub-zero a.size)) (λ x b q k. search (rules, tests))
    ∙ any-some _ 0 a.size
