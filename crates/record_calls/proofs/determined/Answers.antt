-- `record_calls::determined` meets its contract, by `Outcomes`: the closed mask is that of the determined columns, and its ones are their number.
-- Assumes nothing.
use mathlib.Core.Path.{◌≡◌, sym, ap, ◌∙◌}
use mathlib.Core.List.{List, map}
use Prim.Native.Nat.{ℕ}
use native.Mathlib.Omega.{arith}
use lib.Seq.{length-take-le}
use mathlib.Core.Bool.{true}
use lib.ListN.{length, take}
use Rattle.query.specs.declared.Dependency.{Dependency}
use Rattle.query.specs.View.{dependency_of}
use Rattle.query.specs.Rule.{good_set}
use Rattle.closure.specs.internal.Closure.{grow_mask}
use borrow.Author.Rules.{rules}
use Rattle.record.specs.Rule.{good_record}
use Rattle.lists.proofs.Loops.{mapped-length}
use Rattle.record.proofs.Good.{good-record}
use Rattle.record_calls.proofs.Outcomes.{rights-narrow, determined-broken, determined-unfit, determined-done}
use Rattle.record_calls.proofs.determined.Goals as goal
use Rattle.record_calls.proofs.determined.Goals.{Else-not-is_good}

-- what the tests passed so far tell

good : (c : goal.Else-not-is_good) → good_record c.args.given ≡ true
good c = sym c.is_good.ensures ∙ c.if-not-is_good.false

pub returns-then-not-is_good : goal.returns-then-not-is_good
returns-then-not-is_good c =
    determined-broken c.args.given c.args.relation
    c.args.left (sym c.is_good.ensures ∙ c.if-not-is_good.true)

pub returns-then-not-set_good : goal.returns-then-not-set_good
returns-then-not-set_good c =
    determined-unfit c.args.given c.args.relation
    c.args.left (good (goal.at.returns-then-not-set_good c).Else-not-is_good) (ap (λ (schema : List ℕ). good_set schema c.args.relation c.args.left) (sym c.schema.ensures.value) ∙ sym c.set_good.ensures ∙ c.if-not-set_good.true)

pub dependencies_held-requires : goal.dependencies_held-requires
dependencies_held-requires c = (good-record c.args.given (good (goal.at.dependencies_held-requires c).Else-not-is_good)).held

pub closed_columns-mask-requires : goal.closed_columns-mask-requires
closed_columns-mask-requires c =
    rw c.dependencies_held.ensures (rights-narrow c.args.given (good (goal.at.closed_columns-mask-requires c).Else-not-is_good))

pub returns : goal.returns
returns c =
    let given = c.args.given in
    let long : length given.dependencies ≡ 32 = search (mapped-length, rules) in
    determined-done c.args.given
    c.args.relation c.args.left
    (good (goal.at.returns c).Else-not-is_good) (ap (λ (schema : List ℕ). good_set schema c.args.relation c.args.left) (sym c.schema.ensures.value) ∙ sym c.set_good.ensures ∙ c.if-not-set_good.false) long
    c.closed_columns-mask.result
    (c.closed_columns-mask.ensures
    ∙ ap (λ (ds : List Dependency). grow_mask (length ds) (map dependency_of ds) c.args.relation c.args.left) c.dependencies_held.ensures
    ∙ ap (λ (n : ℕ). grow_mask n (map dependency_of (take given.held given.dependencies)) c.args.relation c.args.left)
    (length-take-le given.held given.dependencies (omega (arith, (good-record given (good (goal.at.returns c).Else-not-is_good)).held))))
