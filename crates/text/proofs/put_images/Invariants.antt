-- `text::put_images` meets its contract. Invariant: the images from variable v on are left to be written. Assumes nothing.
use mathlib.Core.Bool.{Bool}
use Prim.Native.Nat.{ℕ, ◌-◌, ◌≤◌}
use Rattle.limits.specs.internal.Schema.{widths_in}
use Rattle.query.specs.View.{images_of}
use Rattle.printing.proofs.Writing.{Progress}
use Rattle.lists.specs.Numbers.{numbers_where}
use Rattle.text.specs.Text.{images_text}
use Rattle.text.proofs.Turns.{in_row}
use Rattle.text.proofs.put_images.Given as goal

abbrev pub invariant-loop-v : goal.invariant-loop-v
invariant-loop-v l =
    let test : ℕ → Bool = in_row (widths_in l.schema) l.fn.query.size l.fn.query.relations l.fn.query.cells in
    (l.v ≤ 96)
    × Progress l.initial.buffer l.at (images_text (images_of l.fn.images) (numbers_where test 0 96)) (images_text (images_of l.fn.images) (numbers_where test l.v (96 - l.v))) l.buffer l.next
