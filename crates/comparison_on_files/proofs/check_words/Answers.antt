-- `check_words` says yes where the words are a mapping and it is one between the queries. Assumes nothing.
use Rattle.std.proofs.Common.{◌≡◌, List, refl, subst, ap, ◌∙◌, Bool, true, false, ◌&&◌}
use mir.Val.{bool_byte}
use Rattle.std.specs.Prelude.{is_some}
use Rattle.query.specs.declared.Cell.{Cell}
use Rattle.comparison.specs.Comparison.{CheckedMapping}
use Rattle.comparison_on_files.specs.Queries.{bit}
use Rattle.comparison_on_files.proofs.Checks.{check-told}
use Rattle.comparison_on_files.proofs.check_words.Goals as goal
use Rattle.comparison_on_files.proofs.check_words.Goals.{then-maps, else-maps}

-- Yes and no are the same numbers as bytes
byte-bit : (b : Bool) → bool_byte b ≡ bit b
byte-bit true = refl
byte-bit false = refl

pub returns-clause-verdict_after : goal.returns-clause-verdict_after
returns-clause-verdict_after c =
    let a = c.args in
    let m = c.read_mapping-read.result in
    let is = subst (λ (x : List Cell). CheckedMapping a.given a.p a.q x c.check_mapping.result) c.unwrap_or-images.ensures c.check_mapping.ensures in
    let told = check-told a.given a.p a.q a.words.now m c.read_mapping-read.ensures c.check_mapping.result is a.verdict.now c.in_ok-maps.maps c.in_ok-maps.was in
    let both : c.if-maps.from ≡ c.in_ok-maps.maps && is_some m =
    elim c.if-maps.branch [
      | then-maps w ↦ rw w.if-maps.true (w.from-is ∙ w.is_some.ensures)
      | else-maps w ↦ rw w.if-maps.false (w.from-is ∙ w.if-maps.false)
    ] in
    c.from.ensures ∙ byte-bit c.if-maps.from ∙ ap bit both ∙ told.1
