-- `join_search::goes` meets its contract. Assumes nothing.
use Rattle.std.proofs.Common.{refl, rules, tests, ◌∙◌}
use Rattle.std.proofs.lemmas.Iterator.{YieldsList-from_range}
use Rattle.std.proofs.lemmas.Iterator.Search.{all_from_yields_List}
use Prim.Native.Nat.{◌/◌, ◌%◌, ◌^◌}
use mathlib.Core.Bool.{◌||◌}
use lib.Dec.{eqb}
use Rattle.join_search.specs.internal.Search.{goes_at, goes}
use Rattle.tableaux.proofs.Columns.{columns-all}
use Rattle.join_search.proofs.goes.Goals as goal

pub returns : goal.returns
unfolding goes
returns c =
    let a = c.args in
    all_from_yields_List (λ k. eqb (a.set / 2 ^ k % 2) 0 || goes_at a.codes.now a.chosen a.i k) _ _ _
    c.all.ensures.ran (YieldsList-from_range 0 8 8 refl refl) (λ x b q k. search (rules, tests))
    ∙ columns-all _ a.set
