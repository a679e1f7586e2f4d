-- `put_part` refuses a place above 7, then a bad part, and then puts the query. Assumes nothing.
use mathlib.Core.Path.{sym, ap, ◌∙◌}
use Rattle.std.proofs.Common.{List, ℕ, true}
use Rattle.format.specs.File.{read_place}
use Rattle.record_on_files.specs.Records.{result_of}
use Rattle.record_on_files.proofs.Kept.{refused-result, refused-sound, put-sound, part-above, part-bad, part-read}
use Rattle.refusals.specs.Refusal.{reply_of}
use Rattle.record_on_files.proofs.put_part.Goals as goal

pub returns-then-place-ge8 : goal.returns-then-place-ge8
returns-then-place-ge8 c =
    let s = c in (
      refused-result c.refused.result 7 s.args.given c.refused.ensures
          ∙ sym (part-above s.args.given s.requires s.args.place s.args.part.now c.if-place-ge8.true),
      refused-sound
          c.refused.result 7 s.args.given c.refused.ensures,
    )

pub returns-in-Ok : goal.returns-in-Ok
returns-in-Ok c =
    let s = c in
    let r = s.args.given in
    let read = ap (λ (w : List ℕ). read_place w true s.args.part.now) (sym c.schema.ensures.value) ∙ sym c.read_place.ensures ∙ ap reply_of c.in-Ok.is in (
      ap result_of c.put.ensures ∙ sym (part-read r s.requires s.args.place s.args.part.now
          c.in-Ok.read c.if-place-ge8.false read),
      put-sound r s.requires _ _ c.put.result c.put.ensures,
    )

pub returns-in-Err : goal.returns-in-Err
returns-in-Err c =
    let s = c in
    let r = s.args.given in
    let read = ap (λ (w : List ℕ). read_place w true s.args.part.now) (sym c.schema.ensures.value) ∙ sym c.read_place.ensures ∙ ap reply_of c.in-Err.is in (
      refused-result c.refused-in-Err.result _ r c.refused-in-Err.ensures
          ∙ sym (part-bad r s.requires s.args.place s.args.part.now _ c.if-place-ge8.false
          read),
      refused-sound c.refused-in-Err.result _ r c.refused-in-Err.ensures,
    )
