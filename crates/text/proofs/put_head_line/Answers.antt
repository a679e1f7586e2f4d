-- `text::put_head_line` meets its contract: its parts one after another. Assumes nothing.
use mathlib.Core.Path.{refl}
use Rattle.query.specs.View.{entries_of}
use Rattle.text.specs.Text.{entries_text, head_word, head_line}
use Rattle.printing.proofs.Writing.{started, part-fits, rest-fits, wrote, wrote-rest}
use Rattle.text.proofs.put_head_line.Goals as goal

pub put_bytes-next-requires : goal.put_bytes-next-requires
unfolding head_line
put_bytes-next-requires c = part-fits (started c.requires) (head_word) _ refl

pub put_entries-next-requires : goal.put_entries-next-requires
unfolding head_line
put_entries-next-requires c =
    part-fits (wrote (started c.requires) _ refl c.put_bytes-next.ensures)
    (entries_text (entries_of c.args.cells.now)) _ refl

pub put_byte-requires : goal.put_byte-requires
unfolding head_line
put_byte-requires c =
    rest-fits (wrote (wrote (started c.requires) _ refl
    c.put_bytes-next.ensures) _ refl c.put_entries-next.ensures)

pub returns : goal.returns
unfolding head_line
returns c =
    wrote-rest (wrote (wrote (started c.requires) _ refl
    c.put_bytes-next.ensures) _ refl
    c.put_entries-next.ensures) c.put_byte.ensures
