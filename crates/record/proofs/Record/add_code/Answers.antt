-- `record::Record::add_code` meets its contract, by `Outcomes`: each answer follows the test that decides it in `add_code`.
-- Assumes nothing.
use mathlib.Core.Path.{sym, ap, ◌∙◌}
use mathlib.Core.Option.{none}
use mathlib.Core.List.{List}
use Prim.Native.Nat.{◌≤◌}
use Rattle.query.specs.declared.CodePair.{CodePair}
use Rattle.query.specs.Rule.{pair_fits}
use native.Mathlib.Omega.{arith}
use Rattle.record.specs.declared.Record.{Record}
use Rattle.record.specs.Calls.{concluded}
use Rattle.record.proofs.Good.{good-record}
use Rattle.record.proofs.Outcomes.{code-broken, code-unfit, code-full, code-done}
use Rattle.record.proofs.Record.add_code.Goals as goal

pub returns-then-not-is_good : goal.returns-then-not-is_good
returns-then-not-is_good c =
    c.refused.ensures ∙ code-broken c.args.self c.args.p
    (sym c.is_good.ensures ∙ c.if-not-is_good.true)

pub returns-then-not-pair_fits : goal.returns-then-not-pair_fits
returns-then-not-pair_fits c =
    c.refused-then-not-pair_fits.ensures ∙ code-unfit c.args.self
    c.args.p
    (sym c.is_good.ensures ∙ c.if-not-is_good.false)
    (ap (λ (ps : List CodePair). pair_fits ps c.args.p) (sym c.codes_held.ensures) ∙ sym c.pair_fits.ensures ∙ c.if-not-pair_fits.true)

pub returns-then-coded-eq16 : goal.returns-then-coded-eq16
returns-then-coded-eq16 c =
    c.refused-then-coded-eq16.ensures ∙ code-full c.args.self
    c.args.p
    (sym c.is_good.ensures ∙ c.if-not-is_good.false)
    (ap (λ (ps : List CodePair). pair_fits ps c.args.p) (sym c.codes_held.ensures) ∙ sym c.pair_fits.ensures ∙ c.if-not-pair_fits.false) c.if-coded-eq16.true

pub codes_held-requires : goal.codes_held-requires
codes_held-requires c = (good-record c.args.self (sym c.is_good.ensures ∙ c.if-not-is_good.false)).coded

pub with_code-requires : goal.with_code-requires
with_code-requires c =
    let few : c.args.self.coded ≤ 16 =
    (good-record c.args.self
    (sym c.is_good.ensures ∙ c.if-not-is_good.false)).coded
    in
    omega arith

pub returns : goal.returns
returns c =
    c.done.ensures ∙ ap (λ (after : Record). concluded none after after) c.with_code.ensures
    ∙ code-done c.args.self
    c.args.p
    (sym c.is_good.ensures ∙ c.if-not-is_good.false)
    (ap (λ (ps : List CodePair). pair_fits ps c.args.p) (sym c.codes_held.ensures) ∙ sym c.pair_fits.ensures ∙ c.if-not-pair_fits.false) c.if-coded-eq16.false
