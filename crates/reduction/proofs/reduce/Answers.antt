-- `reduction::reduce` meets its contract, by `Results`: each answer follows the test that decides it. Assumes nothing.
use Rattle.std.proofs.Common.{◌≡◌, ◌<◌, true, sym, ap, ◌∙◌}
use Rattle.record.specs.Rule.{good_record}
use Rattle.refusals.specs.Refusals.{gives}
use Rattle.refusals.specs.Refusal.{number_of, reply_of}
use Rattle.record.specs.internal.Lookup.{filled_place, vacant_place}
use Rattle.record.proofs.Refusals.{place-at}
use Rattle.reduction.proofs.Results.{reduce-broken, reduce-high, reduce-source, reduce-target, reduce-done, able}
use Rattle.reduction.proofs.reduce.Goals as goal
use Rattle.reduction.proofs.reduce.Goals.{Else-not-is_good, In-Ok, In-Ok-found, In-Ok-found-2}

pub returns-then-not-is_good : goal.returns-then-not-is_good
returns-then-not-is_good c =
    let a = c.args in
    reduce-broken a.given a.source a.target c.refused.result (sym c.is_good.ensures ∙ c.if-not-is_good.true)
    c.refused.ensures

-- what the tests passed so far tell
good : (c : Else-not-is_good) → good_record c.args.given ≡ true
good c = sym c.is_good.ensures ∙ c.if-not-is_good.false

low : (c : In-Ok) → c.args.target < 8
low c =
    let a = c.args in
    (place-at a.target c.in-Ok.field-0 (sym c.place_at-found.ensures ∙ ap reply_of c.in-Ok.is)).1

at_source : (c : In-Ok-found) → filled_place c.args.given
    c.args.source ≡ gives c.in-Ok-found.from
at_source c = sym c.filled_place-found.ensures ∙ ap reply_of c.in-Ok-found.is

at_target : (c : In-Ok-found-2)
    → vacant_place c.args.given
    c.args.target ≡ gives c.in-Ok-found-2.to
at_target c = sym c.vacant_place-found.ensures ∙ ap reply_of c.in-Ok-found-2.is

pub returns-in_default : goal.returns-in_default
returns-in_default c =
    let a = c.args in
    let at = goal.at.returns-in_default c in
    reduce-high a.given a.source a.target c.refused-in_default.result (good at.Else-not-is_good) (number_of c.unwrap_err.result)
    (sym c.place_at-found.ensures ∙ ap reply_of c.unwrap_err.ensures) c.refused-in_default.ensures

pub returns-in_default-found : goal.returns-in_default-found
returns-in_default-found c =
    let a = c.args in
    let at = goal.at.returns-in_default-found c in
    reduce-source a.given a.source a.target c.refused-in_default-found.result (good at.Else-not-is_good) (low at.In-Ok) (number_of c.unwrap_err-in_default-found.result)
    (sym c.filled_place-found.ensures ∙ ap reply_of c.unwrap_err-in_default-found.ensures) c.refused-in_default-found.ensures

pub returns-in_default-found-2 : goal.returns-in_default-found-2
returns-in_default-found-2 c =
    let a = c.args in
    let at = goal.at.returns-in_default-found-2 c in
    reduce-target a.given a.source a.target c.refused-in_default-found-2.result (good at.Else-not-is_good) (low at.In-Ok) c.in-Ok-found.from (number_of c.unwrap_err-in_default-found-2.result)
    (at_source at.In-Ok-found) (sym c.vacant_place-found.ensures ∙ ap reply_of c.unwrap_err-in_default-found-2.ensures) c.refused-in_default-found-2.ensures

pub store_reduced-requires : goal.store_reduced-requires
store_reduced-requires c =
    let a = c.args in
    let at = goal.at.store_reduced-requires c in
    able a.given a.source a.target c.in-Ok-found.from c.in-Ok-found-2.to (good at.Else-not-is_good) (at_source at.In-Ok-found) (at_target c)

pub returns : goal.returns
returns c =
    let a = c.args in
    let at = goal.at.returns c in
    reduce-done a.given a.source a.target c.store_reduced.result (good at.Else-not-is_good) (low at.In-Ok) c.in-Ok-found.from c.in-Ok-found-2.to
    (at_source at.In-Ok-found) (at_target at.In-Ok-found-2) c.store_reduced.ensures
