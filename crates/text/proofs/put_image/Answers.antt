-- `text::put_image` meets its contract: its parts one after another. Assumes nothing.
use mathlib.Core.Path.{refl}
use Rattle.printing.specs.Decimal.{field}
use Rattle.text.specs.Text.{next_word, image_text}
use Rattle.printing.proofs.Writing.{started, part-fits, rest-fits, wrote, wrote-rest}
use Rattle.text.proofs.put_image.Goals as goal

pub put_field-next-requires : goal.put_field-next-requires
unfolding image_text
put_field-next-requires c = part-fits (started c.requires) (field next_word c.args.v) _ refl

pub put_entry_after-requires : goal.put_entry_after-requires
unfolding image_text
put_entry_after-requires c = rest-fits
    (wrote (started c.requires) _ refl c.put_field-next.ensures)

pub returns : goal.returns
unfolding image_text
returns c =
    wrote-rest (wrote (started c.requires) _ refl
    c.put_field-next.ensures) c.put_entry_after.ensures
