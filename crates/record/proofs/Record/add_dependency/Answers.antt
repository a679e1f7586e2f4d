-- `record::Record::add_dependency` meets its contract, by `Outcomes`: each answer follows the test that decides it in `add_dependency`.
-- Assumes nothing.
use mathlib.Core.Path.{sym, ap, ◌∙◌}
use mathlib.Core.Option.{none}
use mathlib.Core.List.{List}
use Prim.Native.Nat.{ℕ, ◌≤◌}
use Rattle.query.specs.Rule.{good_dependency}
use native.Mathlib.Omega.{arith}
use Rattle.record.specs.declared.Record.{Record}
use Rattle.record.specs.Calls.{concluded}
use Rattle.record.proofs.Good.{good-record}
use Rattle.record.proofs.Outcomes.{add-broken, add-unfit, add-full, add_done}
use Rattle.record.proofs.Record.add_dependency.Goals as goal

pub returns-then-not-is_good : goal.returns-then-not-is_good
returns-then-not-is_good c =
    c.refused.ensures ∙ add-broken c.args.self c.args.d
    (sym c.is_good.ensures ∙ c.if-not-is_good.true)

pub returns-then-not-dependency_good : goal.returns-then-not-dependency_good
returns-then-not-dependency_good c =
    c.refused-then-not-dependency_good.ensures ∙ add-unfit c.args.self
    c.args.d
    (sym c.is_good.ensures ∙ c.if-not-is_good.false)
    (ap (λ (schema : List ℕ). good_dependency schema c.args.d) (sym c.schema.ensures.value) ∙ sym c.dependency_good.ensures ∙ c.if-not-dependency_good.true)

pub returns-then-held-eq32 : goal.returns-then-held-eq32
returns-then-held-eq32 c =
    c.refused-then-held-eq32.ensures ∙ add-full c.args.self
    c.args.d
    (sym c.is_good.ensures ∙ c.if-not-is_good.false)
    (ap (λ (schema : List ℕ). good_dependency schema c.args.d) (sym c.schema.ensures.value) ∙ sym c.dependency_good.ensures ∙ c.if-not-dependency_good.false) c.if-held-eq32.true

pub with_dependency-requires : goal.with_dependency-requires
with_dependency-requires c =
    let few : c.args.self.held ≤ 32 =
    (good-record c.args.self
    (sym c.is_good.ensures ∙ c.if-not-is_good.false)).held
    in
    omega arith

pub returns : goal.returns
returns c =
    c.done.ensures ∙ ap (λ (after : Record). concluded none after after) c.with_dependency.ensures
    ∙ add_done c.args.self
    c.args.d
    (sym c.is_good.ensures ∙ c.if-not-is_good.false)
    (ap (λ (schema : List ℕ). good_dependency schema c.args.d) (sym c.schema.ensures.value) ∙ sym c.dependency_good.ensures ∙ c.if-not-dependency_good.false) c.if-held-eq32.false
