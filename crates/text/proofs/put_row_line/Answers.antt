-- `text::put_row_line` meets its contract: its parts one after another. Assumes nothing.
use mathlib.Core.Path.{refl}
use Rattle.query.specs.View.{entries_of}
use Rattle.printing.specs.Decimal.{field}
use Rattle.text.specs.Text.{entries_text, row_word, row_line}
use Rattle.printing.proofs.Writing.{started, part-fits, rest-fits, wrote, wrote-rest}
use Rattle.text.proofs.put_row_line.Goals as goal

pub put_field-next-requires : goal.put_field-next-requires
unfolding row_line
put_field-next-requires c = part-fits (started c.requires) (field row_word c.args.relation) _ refl

pub put_entries-next-requires : goal.put_entries-next-requires
unfolding row_line
put_entries-next-requires c =
    part-fits (wrote (started c.requires) _ refl c.put_field-next.ensures)
    (entries_text (entries_of c.args.cells.now)) _ refl

pub put_byte-requires : goal.put_byte-requires
unfolding row_line
put_byte-requires c =
    rest-fits (wrote (wrote (started c.requires) _ refl
    c.put_field-next.ensures) _ refl c.put_entries-next.ensures)

pub returns : goal.returns
unfolding row_line
returns c =
    wrote-rest (wrote (wrote (started c.requires) _ refl
    c.put_field-next.ensures) _ refl
    c.put_entries-next.ensures) c.put_byte.ensures
