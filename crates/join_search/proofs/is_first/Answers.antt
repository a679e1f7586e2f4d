-- `join_search::is_first` meets its contract. Assumes nothing.
use Rattle.std.proofs.Common.{refl, sym, ap, rules, tests, ◌∙◌}
use Rattle.std.proofs.lemmas.Iterator.{YieldsList-from_range}
use Rattle.std.proofs.lemmas.Iterator.Search.{any_from_yields_List}
use mathlib.Core.Bool.{Bool, not, ◌&&◌}
use mathlib.Core.List.{List}
use Prim.Native.Nat.{ℕ}
use native.Mathlib.Nat.{sub-zero}
use borrow.Author.Tests.{eq-eqb}
use lib.Dec.{eqb}
use lib.ListN.{get_or}
use Rattle.join_search.specs.internal.Search.{some_of}
use Rattle.tableaux.specs.internal.Codes.{same_on}
use Rattle.join_search.proofs.Turns.{any-some}
use Rattle.join_search.proofs.is_first.Goals as goal

-- Whether row e is of the relation and the same as row i in the columns of a set
abbrev same : List ℕ → List ℕ → ℕ → ℕ → ℕ → ℕ → Bool
same codes relations relation set i e = eqb (get_or relations e 0) relation && same_on codes set i e

pub returns-then-relations-i : goal.returns-then-relations-i
returns-then-relations-i c =
    let a = c.args in
    let test = same a.codes.now a.relations.now a.relation a.set a.i in
    let found = any_from_yields_List test _ _ _ c.any.ensures.ran (YieldsList-from_range 0 a.i a.i refl (sub-zero a.i)) (λ x b q k. search (rules, tests))
    ∙ any-some test 0 a.i in
    ap not found ∙ ap (λ t. t && not (some_of test 0 a.i)) (sym (eq-eqb (get_or a.relations.now a.i 0) a.relation c.if-relations-i.true))
