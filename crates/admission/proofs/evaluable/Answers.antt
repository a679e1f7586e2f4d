-- `evaluable` refuses in order, and then gives the place.
-- Assumes nothing.
use mathlib.Core.Path.{◌≡◌, sym, ap, ◌∙◌}
use mathlib.Core.Bool.{true}
use Prim.Native.Nat.{◌≤◌}
use borrow.Author.Rules.{rules}
use lib.ListN.{length}
use lib.Seq.{length-take-le}
use Rattle.record.specs.Rule.{good_record}
use Rattle.refusals.specs.Refusals.{gives}
use Rattle.refusals.specs.Refusal.{number_of, reply_of}
use Rattle.record.specs.internal.Lookup.{filled_place}
use Rattle.admission.proofs.Admitted.{wide, lookup-broken, lookup-elsewhere, lookup-unspelled, lookup-here}
use Rattle.admission.proofs.evaluable.Goals as goal
use Rattle.admission.proofs.evaluable.Goals.{Else-not-is_good, In-Ok}

good : (c : goal.Else-not-is_good) → good_record c.args.given ≡ true
good c = sym c.is_good.ensures ∙ c.if-not-is_good.false

placed : (c : goal.In-Ok)
    → filled_place c.args.given c.args.place ≡ gives c.in-Ok.at
placed c = sym c.filled_place-found.ensures ∙ ap reply_of c.in-Ok.is

widths : (c : goal.In-Ok) → c.args.given.relations ≤ length c.args.given.widths
widths c = wide c.args.given (sym c.is_good.ensures ∙ c.if-not-is_good.false) (search rules)

pub returns-then-not-is_good : goal.returns-then-not-is_good
returns-then-not-is_good c =
    let a = c.args in
    lookup-broken a.given a.place a.words.now (sym c.is_good.ensures ∙ c.if-not-is_good.true)

pub returns-in_default : goal.returns-in_default
returns-in_default c =
    let a = c.args in
    let told = c.in_default in
    ap reply_of told.is ∙ lookup-elsewhere a.given a.place a.words.now (number_of told.field-0) (good (goal.at.returns-in_default c).Else-not-is_good)
    (sym c.filled_place-found.ensures ∙ ap reply_of told.is)

pub slice_bounds-widths-end : goal.slice_bounds-widths-end
slice_bounds-widths-end c = widths (goal.at.slice_bounds-widths-end c).In-Ok

pub slice_bounds-spelled-end : goal.slice_bounds-spelled-end
slice_bounds-spelled-end c =
    let r = c.args.given in
    sym (length-take-le r.relations r.widths (widths (goal.at.slice_bounds-spelled-end c).In-Ok))

pub returns-else-spelled : goal.returns-else-spelled
returns-else-spelled c =
    let a = c.args in
    lookup-unspelled a.given a.place a.words.now c.in-Ok.at (good (goal.at.returns-else-spelled c).Else-not-is_good) (placed (goal.at.returns-else-spelled c).In-Ok)
    (sym c.spelled.ensures ∙ c.if-spelled.false)

pub returns-then-spelled : goal.returns-then-spelled
returns-then-spelled c =
    let a = c.args in
    lookup-here a.given a.place a.words.now c.in-Ok.at (good (goal.at.returns-then-spelled c).Else-not-is_good) (placed (goal.at.returns-then-spelled c).In-Ok)
    (sym c.spelled.ensures ∙ c.if-spelled.true)
