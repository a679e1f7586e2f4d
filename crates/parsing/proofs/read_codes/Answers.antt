-- `parsing::read_codes` meets its contract: no bytes, or pairs of codes that keep the rule and no more. Assumes nothing.
use mathlib.Core.Path.{sym, ap, ◌∙◌}
use borrow.Author.Tests.{eqb-true, eqb-false}
use Rattle.parsing.specs.internal.Read.{reading_of}
use Rattle.parsing.proofs.Codes.{no-bytes, no-pairs, bytes-after, codes-bad, codes-found}
use Rattle.parsing.proofs.read_codes.Goals as goal
use Rattle.parsing.proofs.read_codes.Goals.{else-is_empty-2-via-then-is_empty-2+else-codes_good, else-is_empty-2-via-else-is_empty-2}

pub returns-then-is_empty : goal.returns-then-is_empty
returns-then-is_empty c = no-bytes c.args.part.now (eqb-true _ _ (sym c.is_empty.ensures ∙ c.if-is_empty.true))

pub returns-in_err-coded : goal.returns-in_err-coded
returns-in_err-coded c =
    c.from_residual.ensures
    ∙ no-pairs c.args.part.now (eqb-false _ _ (sym c.is_empty.ensures ∙ c.if-is_empty.false)) (sym c.read_pairs.ensures ∙ ap reading_of c.in_err-coded.was)

pub returns-then-codes_good : goal.returns-then-codes_good
returns-then-codes_good c =
    codes-found c.args.part.now (eqb-false _ _ (sym c.is_empty.ensures ∙ c.if-is_empty.false)) (c.in_ok-coded.coded, c.in_ok-coded.codes)
    c.in_ok-coded.rest.now (sym c.read_pairs.ensures ∙ ap reading_of c.in_ok-coded.was)
    (eqb-true _ _ (sym c.is_empty-2.ensures ∙ c.if-is_empty-2.true)) (sym c.codes_good.ensures ∙ c.if-codes_good.true)

pub returns-else-is_empty-2 : goal.returns-else-is_empty-2
returns-else-is_empty-2 c =
    let some = eqb-false _ _ (sym c.is_empty.ensures ∙ c.if-is_empty.false) in
    let read = sym c.read_pairs.ensures ∙ ap reading_of c.in_ok-coded.was in
    elim c.else-is_empty-2.branch [
      | else-is_empty-2-via-then-is_empty-2+else-codes_good w ↦
          codes-bad c.args.part.now some (c.in_ok-coded.coded, c.in_ok-coded.codes) c.in_ok-coded.rest.now read
          (eqb-true _ _ (sym c.is_empty-2.ensures ∙ w.if-is_empty-2.true)) (sym w.codes_good.ensures ∙ w.if-codes_good.false)
      | else-is_empty-2-via-else-is_empty-2 w ↦
          bytes-after c.args.part.now some (c.in_ok-coded.coded, c.in_ok-coded.codes) c.in_ok-coded.rest.now read
          (eqb-false _ _ (sym c.is_empty-2.ensures ∙ w.if-is_empty-2.false))
    ]
