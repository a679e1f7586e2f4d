-- `record::Record::put` meets its contract, by `Outcomes`: each answer follows the test that decides it in `put_query`.
-- Assumes nothing.
use mathlib.Core.Path.{◌≡◌, sym, ap, ◌∙◌}
use mathlib.Core.Bool.{true}
use mathlib.Core.List.{List}
use mathlib.Core.Option.{none}
use Prim.Native.Nat.{ℕ, ◌<◌}
use native.Mathlib.Omega.{arith}
use Rattle.record.specs.declared.Record.{Record}
use Rattle.record.specs.View.{schema_of}
use Rattle.record.specs.Rule.{good_record}
use Rattle.query.specs.Rule.{good_query, head_safe}
use Rattle.record.specs.Calls.{concluded}
use Rattle.refusals.specs.Refusals.{gives}
use Rattle.refusals.specs.Refusal.{number_of, reply_of}
use Rattle.record.specs.internal.Lookup.{vacant_place}
use Rattle.query.proofs.Good.{good-query}
use Rattle.record.proofs.Refusals.{place-at, vacant-at}
use Rattle.record.proofs.Outcomes.{put-broken, put-high, put-unfit, put-unsafe, put-filled, put-done}
use Rattle.record.proofs.Record.put.Goals as goal
use Rattle.record.proofs.Record.put.Goals.{Else-not-is_good, Else-not-query_good, Else-not-head_safe, In-Ok}

pub returns-then-not-is_good : goal.returns-then-not-is_good
returns-then-not-is_good c =
    c.refused.ensures ∙ put-broken c.args.self c.args.place
    c.args.q (sym c.is_good.ensures ∙ c.if-not-is_good.true)

-- what the tests passed so far tell
good : (c : goal.Else-not-is_good) → good_record c.args.self ≡ true
good c = sym c.is_good.ensures ∙ c.if-not-is_good.false

low : (c : goal.In-Ok) → c.args.place < 8
low c =
    (place-at c.args.place c.in-Ok.field-0
    (sym c.place_at-found.ensures ∙ ap reply_of c.in-Ok.is)).1

fit : (c : goal.Else-not-query_good)
    → good_query (schema_of c.args.self)
    c.args.q ≡ true
fit c = ap (λ (schema : List ℕ). good_query schema c.args.q) (sym c.schema-schema.ensures.value) ∙ sym c.query_good.ensures ∙ c.if-not-query_good.false

safe : (c : goal.Else-not-head_safe)
    → head_safe (schema_of c.args.self)
    c.args.q ≡ true
safe c = ap (λ (schema : List ℕ). head_safe schema c.args.q) (sym c.schema-schema.ensures.value) ∙ sym c.head_safe.ensures ∙ c.if-not-head_safe.false

pub returns-in_default : goal.returns-in_default
returns-in_default c =
    let self = c.args.self in
    c.refused-in_default.ensures
    ∙ put-high self c.args.place
    c.args.q (good (goal.at.returns-in_default c).Else-not-is_good) (number_of c.unwrap_err.result)
    (sym c.place_at-found.ensures ∙ ap reply_of c.unwrap_err.ensures)

pub returns-then-not-query_good : goal.returns-then-not-query_good
returns-then-not-query_good c =
    c.refused-then-not-query_good.ensures
    ∙ put-unfit c.args.self
    c.args.place
    c.args.q (good (goal.at.returns-then-not-query_good c).Else-not-is_good)
    (low (goal.at.returns-then-not-query_good c).In-Ok) (ap (λ (schema : List ℕ). good_query schema c.args.q) (sym c.schema-schema.ensures.value) ∙ sym c.query_good.ensures ∙ c.if-not-query_good.true)

pub head_safe-requires : goal.head_safe-requires
head_safe-requires c =
    let within =
    good-query 12 (schema_of c.args.self)
    c.args.q (fit (goal.at.head_safe-requires c).Else-not-query_good)
    in
    (within.arity, within.size)

pub returns-then-not-head_safe : goal.returns-then-not-head_safe
returns-then-not-head_safe c =
    c.refused-then-not-head_safe.ensures
    ∙ put-unsafe c.args.self
    c.args.place
    c.args.q
    (good (goal.at.returns-then-not-head_safe c).Else-not-is_good) (low (goal.at.returns-then-not-head_safe c).In-Ok)
    (fit (goal.at.returns-then-not-head_safe c).Else-not-query_good)
    (ap (λ (schema : List ℕ). head_safe schema c.args.q) (sym c.schema-schema.ensures.value) ∙ sym c.head_safe.ensures ∙ c.if-not-head_safe.true)

pub returns-in_default-found : goal.returns-in_default-found
returns-in_default-found c =
    let self = c.args.self in
    c.refused-in_default-found.ensures
    ∙ put-filled self
    c.args.place
    c.args.q
    (good (goal.at.returns-in_default-found c).Else-not-is_good)
    (low (goal.at.returns-in_default-found c).In-Ok) (fit (goal.at.returns-in_default-found c).Else-not-query_good)
    (safe (goal.at.returns-in_default-found c).Else-not-head_safe) (number_of c.unwrap_err-in_default-found.result)
    (sym c.vacant_place-found.ensures ∙ ap reply_of c.unwrap_err-in_default-found.ensures)

pub with_place-requires : goal.with_place-requires
with_place-requires c =
    let self = c.args.self in
    let place = c.args.place in
    let at = c.in-Ok-found.at in
    let is : vacant_place self place ≡ gives at = sym c.vacant_place-found.ensures ∙ ap reply_of c.in-Ok-found.is in
    omega (arith, (vacant-at self place at is).0, (vacant-at self place at is).1)

pub returns : goal.returns
returns c =
    let self = c.args.self in
    let place =
    c.args.place
    in
    let at = c.in-Ok-found.at in
    let is : vacant_place self place ≡ gives at =
    sym c.vacant_place-found.ensures ∙ ap reply_of c.in-Ok-found.is
    in
    c.done.ensures ∙ ap (λ (after : Record). concluded none after after) c.with_place.ensures
    ∙ put-done self place
    c.args.q
    (good (goal.at.returns c).Else-not-is_good)
    (low (goal.at.returns c).In-Ok)
    (fit (goal.at.returns c).Else-not-query_good) (safe (goal.at.returns c).Else-not-head_safe) at is
