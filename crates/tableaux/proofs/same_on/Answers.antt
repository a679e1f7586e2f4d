-- `tableaux::same_on` meets its contract. Assumes nothing.
use Rattle.std.proofs.Common.{refl, rules, tests, ◌∙◌}
use Rattle.std.proofs.lemmas.Iterator.{YieldsList-from_range}
use Rattle.std.proofs.lemmas.Iterator.Search.{all_from_yields_List}
use Prim.Native.Nat.{◌+◌, ◌*◌, ◌/◌, ◌%◌, ◌^◌}
use mathlib.Core.Bool.{◌||◌}
use lib.Dec.{eqb}
use lib.ListN.{get_or}
use Rattle.tableaux.proofs.Columns.{columns-all}
use Rattle.tableaux.proofs.same_on.Goals as goal

pub returns : goal.returns
returns c =
    let a = c.args in
    all_from_yields_List (λ k. eqb (a.set / 2 ^ k % 2) 0 || eqb (get_or a.codes.now (8 * a.i + k) 0) (get_or a.codes.now (8 * a.e + k) 0)) _ _ _
    c.all.ensures.ran (YieldsList-from_range 0 8 8 refl refl) (λ x b q k. search (rules, tests))
    ∙ columns-all _ a.set
