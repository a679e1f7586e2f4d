-- `record::Record::add_join` meets its contract, by `Outcomes`: each answer follows the test that decides it in `add_join`.
-- Assumes nothing.
use mathlib.Core.Path.{sym, ap, ◌∙◌}
use mathlib.Core.Option.{none}
use mathlib.Core.List.{List}
use Prim.Native.Nat.{ℕ, ◌≤◌}
use Rattle.query.specs.Rule.{good_join}
use native.Mathlib.Omega.{arith}
use Rattle.record.specs.declared.Record.{Record}
use Rattle.record.specs.Calls.{concluded}
use Rattle.record.proofs.Good.{good-record}
use Rattle.record.proofs.Outcomes.{join-broken, join-unfit, join-full, join-done}
use Rattle.record.proofs.Record.add_join.Goals as goal

pub returns-then-not-is_good : goal.returns-then-not-is_good
returns-then-not-is_good c =
    c.refused.ensures ∙ join-broken c.args.self c.args.j
    (sym c.is_good.ensures ∙ c.if-not-is_good.true)

pub returns-then-not-join_good : goal.returns-then-not-join_good
returns-then-not-join_good c =
    c.refused-then-not-join_good.ensures ∙ join-unfit c.args.self
    c.args.j
    (sym c.is_good.ensures ∙ c.if-not-is_good.false)
    (ap (λ (schema : List ℕ). good_join schema c.args.j) (sym c.schema.ensures.value) ∙ sym c.join_good.ensures ∙ c.if-not-join_good.true)

pub returns-then-joined-eq4 : goal.returns-then-joined-eq4
returns-then-joined-eq4 c =
    c.refused-then-joined-eq4.ensures ∙ join-full c.args.self
    c.args.j
    (sym c.is_good.ensures ∙ c.if-not-is_good.false)
    (ap (λ (schema : List ℕ). good_join schema c.args.j) (sym c.schema.ensures.value) ∙ sym c.join_good.ensures ∙ c.if-not-join_good.false) c.if-joined-eq4.true

pub with_join-requires : goal.with_join-requires
with_join-requires c =
    let few : c.args.self.joined ≤ 4 =
    (good-record c.args.self
    (sym c.is_good.ensures ∙ c.if-not-is_good.false)).joined
    in
    omega arith

pub returns : goal.returns
returns c =
    c.done.ensures ∙ ap (λ (after : Record). concluded none after after) c.with_join.ensures
    ∙ join-done c.args.self
    c.args.j
    (sym c.is_good.ensures ∙ c.if-not-is_good.false)
    (ap (λ (schema : List ℕ). good_join schema c.args.j) (sym c.schema.ensures.value) ∙ sym c.join_good.ensures ∙ c.if-not-join_good.false) c.if-joined-eq4.false
