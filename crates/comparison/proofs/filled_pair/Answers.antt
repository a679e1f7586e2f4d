-- `comparison::filled_pair` meets its contract, by `Pairs`: each answer follows the test that decides it in `pair_refusal`.
-- Assumes nothing.
use mathlib.Core.Path.{◌≡◌, sym, ap, ◌∙◌}
use mathlib.Core.Bool.{true}
use Prim.Native.Nat.{◌<◌}
use native.Mathlib.Omega.{arith}
use Rattle.record.specs.Rule.{good_record}
use Rattle.refusals.specs.Refusal.{number_of, reply_of}
use Rattle.record.proofs.Refusals.{place-at, filled_at}
use Rattle.comparison.proofs.Pairs.{pair-broken, first_above, second_above, first-vacant, second-vacant, found-differ, found-stand}
use Rattle.comparison.proofs.filled_pair.Goals as goal

pub returns-then-not-is_good : goal.returns-then-not-is_good
returns-then-not-is_good c =
    pair-broken c.args.given c.args.p c.args.q
    (sym c.is_good.ensures ∙ c.if-not-is_good.true)

pub returns-in_default : goal.returns-in_default
returns-in_default c =
    let given = c.args.given in
    let p = c.args.p in
    let q = c.args.q in
    let good : good_record given ≡ true = sym c.is_good.ensures
    ∙ c.if-not-is_good.false in
    first_above given p q good (number_of c.unwrap_err.result) (sym c.place_at-found.ensures ∙ ap reply_of c.unwrap_err.ensures)

pub returns-in_default-found : goal.returns-in_default-found
returns-in_default-found c =
    let given = c.args.given in
    let p = c.args.p in
    let q = c.args.q in
    let good : good_record given ≡ true = sym c.is_good.ensures
    ∙ c.if-not-is_good.false in
    let low-p : p < 8 = (place-at p _ (sym c.place_at-found.ensures
    ∙ ap reply_of c.in-Ok.is)).1 in
    second_above given p q good low-p (number_of c.unwrap_err-in_default-found.result) (sym c.place_at-found-2.ensures ∙ ap reply_of c.unwrap_err-in_default-found.ensures)

pub returns-in_default-found-2 : goal.returns-in_default-found-2
returns-in_default-found-2 c =
    let given = c.args.given in
    let p = c.args.p in
    let q = c.args.q in
    let good : good_record given ≡ true = sym c.is_good.ensures
    ∙ c.if-not-is_good.false in
    let low-p : p < 8 = (place-at p _ (sym c.place_at-found.ensures
    ∙ ap reply_of c.in-Ok.is)).1 in
    let low-q : q < 8 = (place-at q _ (sym c.place_at-found-2.ensures
    ∙ ap reply_of c.in-Ok-found.is)).1 in
    first-vacant given p q good low-p low-q (number_of c.unwrap_err-in_default-found-2.result) (sym c.filled_place-found.ensures ∙ ap reply_of c.unwrap_err-in_default-found-2.ensures)

pub returns-in_default-found-3 : goal.returns-in_default-found-3
returns-in_default-found-3 c =
    let given = c.args.given in
    let p = c.args.p in
    let q = c.args.q in
    let good : good_record given ≡ true = sym c.is_good.ensures ∙ c.if-not-is_good.false in
    let low-p : p < 8 = (place-at p _ (sym c.place_at-found.ensures ∙ ap reply_of c.in-Ok.is)).1 in
    let low-q : q < 8 = (place-at q _ (sym c.place_at-found-2.ensures
    ∙ ap reply_of c.in-Ok-found.is)).1 in
    let at = filled_at given p _ (sym c.filled_place-found.ensures
    ∙ ap reply_of c.in-Ok-found-2.is) in
    second-vacant given p q good low-p low-q at.2 (number_of c.unwrap_err-in_default-found-3.result) (sym c.filled_place-found-2.ensures ∙ ap reply_of c.unwrap_err-in_default-found-3.ensures)

pub stored-a-requires : goal.stored-a-requires
stored-a-requires c =
    let given = c.args.given in
    let p = c.args.p in
    let q = c.args.q in
    let at = filled_at given p _ (sym c.filled_place-found.ensures
    ∙ ap reply_of c.in-Ok-found-2.is) in
    omega (arith, at.0, at.1)

pub stored-b-requires : goal.stored-b-requires
stored-b-requires c =
    let given = c.args.given in
    let p = c.args.p in
    let q = c.args.q in
    let at = filled_at given q _ (sym c.filled_place-found-2.ensures ∙ ap reply_of c.in-Ok-found-3.is) in
    omega (arith, at.0, at.1)

pub returns-then-a-b : goal.returns-then-a-b
returns-then-a-b c =
    let given = c.args.given in
    let p = c.args.p in
    let q = c.args.q in
    let good : good_record given ≡ true = sym c.is_good.ensures
    ∙ c.if-not-is_good.false in
    found-differ given p q good _ _ (sym c.filled_place-found.ensures ∙ ap reply_of c.in-Ok-found-2.is)
    (sym c.filled_place-found-2.ensures
    ∙ ap reply_of c.in-Ok-found-3.is)
    _ _ c.stored-a.ensures c.stored-b.ensures c.if-a-b.true

pub returns : goal.returns
returns c =
    let given = c.args.given in
    let p = c.args.p in
    let q = c.args.q in
    let good : good_record given ≡ true = sym c.is_good.ensures
    ∙ c.if-not-is_good.false in
    found-stand given p q good _ _ (sym c.filled_place-found.ensures ∙ ap reply_of c.in-Ok-found-2.is)
    (sym c.filled_place-found-2.ensures
    ∙ ap reply_of c.in-Ok-found-3.is)
    _ _ c.stored-a.ensures c.stored-b.ensures c.if-a-b.false
