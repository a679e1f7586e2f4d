-- `testable` refuses in order.
-- Assumes nothing.
use mathlib.Core.Path.{◌≡◌, sym, ◌∙◌}
use mathlib.Core.Bool.{true}
use Prim.Native.Nat.{◌≤◌}
use borrow.Author.Rules.{rules}
use lib.ListN.{length}
use lib.Seq.{length-take-le}
use Rattle.record.specs.Rule.{good_record}
use Rattle.admission.proofs.Admitted.{wide, test-broken, test-unspelled, test-goes}
use Rattle.admission.proofs.testable.Goals as goal
use Rattle.admission.proofs.testable.Goals.{Else-not-is_good}

good : (c : goal.Else-not-is_good) → good_record c.args.given ≡ true
good c = sym c.is_good.ensures ∙ c.if-not-is_good.false

-- There are as many widths as relations
widths : (c : goal.Else-not-is_good) → c.args.given.relations ≤ length c.args.given.widths
widths c = wide c.args.given (good c) (search rules)

pub returns-then-not-is_good : goal.returns-then-not-is_good
returns-then-not-is_good c =
    let a = c.args in
    test-broken a.given a.words.now (sym c.is_good.ensures ∙ c.if-not-is_good.true)

pub slice_bounds-widths-end : goal.slice_bounds-widths-end
slice_bounds-widths-end c = widths (goal.at.slice_bounds-widths-end c).Else-not-is_good

pub slice_bounds-spelled-end : goal.slice_bounds-spelled-end
slice_bounds-spelled-end c =
    let r = c.args.given in
    sym (length-take-le r.relations r.widths (widths (goal.at.slice_bounds-spelled-end c).Else-not-is_good))

pub returns-then-not-spelled : goal.returns-then-not-spelled
returns-then-not-spelled c =
    let a = c.args in
    test-unspelled a.given a.words.now (good (goal.at.returns-then-not-spelled c).Else-not-is_good) (sym c.spelled.ensures ∙ c.if-not-spelled.true)

pub returns : goal.returns
returns c =
    let a = c.args in
    test-goes a.given a.words.now (good (goal.at.returns c).Else-not-is_good) (sym c.spelled.ensures ∙ c.if-not-spelled.false)
