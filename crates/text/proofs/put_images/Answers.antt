-- `text::put_images` meets its contract. Invariant: the images from variable v on are left to be written. Assumes nothing.
use borrow.Author.Rules.{rules}
use mathlib.Core.Path.{sym, ◌∙◌}
use mathlib.Core.Bool.{Bool}
use Prim.Native.Nat.{ℕ}
use Rattle.limits.specs.internal.Schema.{widths_in}
use Rattle.query.specs.View.{images_of}
use Rattle.printing.proofs.Writing.{part-fits, wrote, finished, left_as, moved}
use Rattle.text.proofs.Turns.{in_row, images-passed, images-skipped, images-end}
use Rattle.text.proofs.put_images.Goals as goal
use Rattle.text.proofs.put_images.Goals.{then-rows_have, else-rows_have}

pub put_image-next-requires : goal.put_image-next-requires
put_image-next-requires c =
    let l = c.loop-v in
    let s = c.args in
    let test : ℕ → Bool = in_row (widths_in s.schema) s.query.size s.query.relations s.query.cells in
    let yes = sym c.rows_have.ensures ∙ c.if-rows_have.true in
    part-fits l.invariant.1 _ _ (images-passed (images_of s.images) test l.v c.loop-v-test.true yes)

pub loop-v-preserved : goal.loop-v-preserved
loop-v-preserved c =
    let l = c.loop-v in
    let s = c.args in
    let test : ℕ → Bool = in_row (widths_in s.schema) s.query.size s.query.relations s.query.cells in
    let asked = sym c.rows_have.ensures in
    let low = c.loop-v-test.true in (
      search rules,
      elim c.if-rows_have.branch [
        | then-rows_have w ↦
            moved (wrote l.invariant.1 _ (images-passed (images_of s.images) test l.v low (asked ∙ w.if-rows_have.true)) w.put_image-next.ensures) w.buffer-is
            w.next-is
        | else-rows_have w ↦
            moved (left_as l.invariant.1 (images-skipped (images_of s.images) test l.v low (asked ∙ w.if-rows_have.false))) w.buffer-is w.next-is
      ],
    )

pub returns : goal.returns
returns c =
    let l = c.loop-v in
    let s = c.args in
    let test : ℕ → Bool = in_row (widths_in s.schema) s.query.size s.query.relations s.query.cells in
    finished (left_as l.invariant.1 (images-end (images_of s.images) test l.v c.loop-v-test.false))
