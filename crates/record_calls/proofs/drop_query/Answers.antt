-- `record_calls::drop_query` meets its contract, by `Outcomes`: each answer follows the test that decides it in `drop_query`.
-- Assumes nothing.
use mathlib.Core.Path.{◌≡◌, sym, ap, ◌∙◌}
use mathlib.Core.Bool.{true}
use mathlib.Core.Option.{none}
use native.Mathlib.Omega.{arith}
use Rattle.record.specs.declared.Record.{Record}
use Rattle.query.specs.Rule.{no_place}
use Rattle.record.specs.Rule.{good_record}
use Rattle.record.specs.Calls.{concluded, with_place}
use Rattle.refusals.specs.Refusals.{gives}
use Rattle.refusals.specs.Refusal.{number_of, reply_of}
use Rattle.record.specs.internal.Lookup.{filled_place}
use Rattle.record.proofs.Refusals.{filled_at}
use Rattle.record_calls.proofs.Outcomes.{drop-broken, drop-refused, drop-done}
use Rattle.record_calls.proofs.drop_query.Goals as goal

pub returns-then-not-is_good : goal.returns-then-not-is_good
returns-then-not-is_good c =
    c.refused.ensures ∙ drop-broken c.args.given c.args.place
    (sym c.is_good.ensures ∙ c.if-not-is_good.true)

pub returns-in_default : goal.returns-in_default
returns-in_default c =
    let given = c.args.given in
    let place = c.args.place in
    let good : good_record given ≡ true =
    sym c.is_good.ensures ∙ c.if-not-is_good.false
    in
    c.refused-in_default.ensures
    ∙ drop-refused given place good (number_of c.unwrap_err.result) (sym c.filled_place-found.ensures ∙ ap reply_of c.unwrap_err.ensures)

pub with_place-requires : goal.with_place-requires
with_place-requires c =
    let given = c.args.given in
    let place = c.args.place in
    let at = c.in-Ok.at in
    let is : filled_place given place ≡ gives at = sym c.filled_place-found.ensures ∙ ap reply_of c.in-Ok.is in
    omega (arith, (filled_at given place at is).0, (filled_at given place at is).1)

pub returns : goal.returns
returns c =
    let given = c.args.given in
    let place = c.args.place in
    let at = c.in-Ok.at in
    let is : filled_place given place ≡ gives at =
    sym c.filled_place-found.ensures ∙ ap reply_of c.in-Ok.is
    in
    let good : good_record given ≡ true =
    sym c.is_good.ensures ∙ c.if-not-is_good.false
    in
    let stored : with_place given at c.no_place.result ≡ with_place given at no_place =
    ap (with_place given at) c.no_place.ensures
    in
    c.done.ensures ∙ ap (λ (after : Record). concluded none after after) (c.with_place.ensures ∙ stored) ∙ drop-done given place good at is
