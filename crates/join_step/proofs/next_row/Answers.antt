-- `join_step::next_row` meets its contract. The loop's invariant: nothing is found for the join dependencies before the present one. Assumes nothing.
use mathlib.Core.Path.{◌≡◌}
use mathlib.Core.Bool.{true}
use mathlib.Core.List.{List}
use Prim.Native.Nat.{ℕ, ◌<◌}
use native.Mathlib.Omega.{arith}
use lib.Dec.{leb}
use lib.ListN.{length, get_or}
use borrow.Author.Rules.{rules}
use borrow.Author.Tests.{eqb-true, leb-true}
use Rattle.lists.specs.Tests.{every}
use Rattle.lists.proofs.Tests.{every-get_or}
use Rattle.lists.proofs.Loops.{mapped-length}
use Rattle.query.specs.declared.JoinDependency.{JoinDependency}
use Rattle.query.specs.Rule.{shaped_join}
use Rattle.join_step.proofs.Next.{nothing-more, next-nothing, next_one}
use Rattle.join_step.proofs.next_row.Invariants.{past_join}
use Rattle.join_step.proofs.next_row.Goals as goal

-- Each has 4 sets
four-sets : (joins : List JoinDependency) → every shaped_join joins ≡ true → (k : ℕ) → k < length joins → length (get_or joins k past_join).sets ≡ 4
four-sets joins shaped k h = eqb-true _ _ (every-get_or shaped_join joins k past_join shaped h)

pub first_missing-requires : goal.first_missing-requires
first_missing-requires c =
    let p = c.requires in
    (p.size_fits, leb-true _ _ (every-get_or (λ j. leb j.count 4) c.args.joins.now c.loop-j.j-index past_join p.counts-fit c.loop-j-test.true))

pub returns-in-Some : goal.returns-in-Some
returns-in-Some c =
    let l = c.loop-j in
    let a = c.args in
    let four = four-sets a.joins.now c.requires.joins-shaped l.j-index c.loop-j-test.true in
    let relations : length a.t.relations ≡ 24 = search (mapped-length, rules) in
    let long : length a.t.cells ≡ 192 = search (mapped-length, rules) in
    λ schema narrow good good-joins.
    next_one a.t a.joins.now _ c.codes_of-codes.ensures relations long past_join schema narrow good good-joins l.j-index c.loop-j-test.true
    l.invariant.1 four _ (rw c.in-Some.is at c.first_missing.ensures) _ c.cells_of.ensures

pub loop-j-preserved : goal.loop-j-preserved
loop-j-preserved c =
    let a = c.args in
    let l = c.loop-j in
    let four = four-sets a.joins.now c.requires.joins-shaped l.j-index c.loop-j-test.true in
    (search rules, nothing-more _ _ _ a.joins.now past_join l.j-index l.invariant.1 four (rw c.in_default.is at c.first_missing.ensures))

pub returns : goal.returns
returns c =
    let l = c.loop-j in
    let a = c.args in
    let relations : length a.t.relations ≡ 24 = search (mapped-length, rules) in
    let long : length a.t.cells ≡ 192 = search (mapped-length, rules) in
    λ schema narrow good good-joins.
    next-nothing a.t a.joins.now _ c.codes_of-codes.ensures relations long past_join schema narrow good good-joins
    (λ e less. l.invariant.1 e (omega (arith, c.loop-j-test.false)))
