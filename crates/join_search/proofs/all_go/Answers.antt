-- `join_search::all_go` meets its contract. Assumes nothing.
use Rattle.std.proofs.Common.{◌≡◌, refl, rules, tests, arith, ◌∙◌}
use Rattle.std.proofs.lemmas.Iterator.{YieldsList-from_range}
use Rattle.std.proofs.lemmas.Iterator.Search.{all_from_yields_List}
use Prim.Native.Nat.{ℕ, ◌-◌}
use lib.ListN.{length, get_or}
use Rattle.lists.proofs.Loops.{mapped-length}
use Rattle.join_search.specs.internal.Search.{some_goes}
use Rattle.join_search.proofs.Rows.{sets-all}
use Rattle.join_search.proofs.all_go.Goals as goal

pub returns : goal.returns
returns c =
    let a = c.args in
    let four : length a.j.sets ≡ 4 = search (mapped-length, rules) in
    let test = λ (set : ℕ). some_goes a.codes.now a.relations.now a.size a.j.relation set a.chosen in
    all_from_yields_List (λ m. test (get_or a.j.sets m 0)) _ _ _
    c.all.ensures.ran (YieldsList-from_range a.k a.j.count (a.j.count - a.k) refl refl) (λ x b q k. search (rules, tests))
    ∙ sets-all test a.j.count a.j.sets a.k (a.j.count - a.k) refl (omega (arith, c.requires.1))
