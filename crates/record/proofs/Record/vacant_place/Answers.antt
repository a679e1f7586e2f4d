-- `record::Record::vacant_place` meets its contract, by `Refusals`: each test taken is one of the conditions of `vacant_place`.
-- Assumes nothing.
use mathlib.Core.Path.{◌≡◌, ap, ◌∙◌}
use Prim.Native.Nat.{◌<◌}
use native.Mathlib.Omega.{arith}
use lib.ListN.{length, get_or}
use borrow.Author.Rules.{rules}
use Rattle.query.specs.declared.Place.{Place}
use Rattle.query.specs.Rule.{no_place}
use Rattle.record.specs.Calls.{is_filled}
use Rattle.lists.proofs.Loops.{mapped-length, get_or_any}
use Rattle.query.proofs.Shape.{past_place}
use Rattle.record.proofs.Refusals.{vacant-high, vacant-no, vacant-yes}
use Rattle.record.proofs.Record.vacant_place.Goals as goal

pub returns-then-place-ge8 : goal.returns-then-place-ge8
returns-then-place-ge8 c = vacant-high c.args.self c.args.place c.if-place-ge8.true

pub returns-then-self-place : goal.returns-then-self-place
returns-then-self-place c =
    let self = c.args.self in
    let place = c.args.place in
    let long : length self.places ≡ 8 = search (mapped-length, rules) in
    let below : place < 8 = search rules in
    let same : is_filled self place ≡ (get_or self.places place past_place).filled =
    ap (λ (p : Place). p.filled) (get_or_any self.places place no_place past_place (omega arith))
    in
    vacant-no self place below (same ∙ c.if-self-place.true)

pub returns-else-self-place : goal.returns-else-self-place
returns-else-self-place c =
    let self = c.args.self in
    let place = c.args.place in
    let long : length self.places ≡ 8 = search (mapped-length, rules) in
    let below : place < 8 = search rules in
    let same : is_filled self place ≡ (get_or self.places place past_place).filled =
    ap (λ (p : Place). p.filled) (get_or_any self.places place no_place past_place (omega arith))
    in
    vacant-yes self place below (same ∙ c.if-self-place.false)
