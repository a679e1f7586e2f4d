-- `text::put_map_line` meets its contract: its parts one after another. Assumes nothing.
use mathlib.Core.Path.{refl}
use Rattle.text.specs.Text.{images_text, map_word, map_line}
use Rattle.limits.specs.internal.Schema.{widths_in}
use Rattle.query.specs.View.{images_of, query_of}
use Rattle.text.specs.internal.Listable.{variables_in_rows}
use Rattle.printing.proofs.Writing.{started, part-fits, rest-fits, wrote, wrote-rest}
use Rattle.text.proofs.put_map_line.Goals as goal

pub put_bytes-next-requires : goal.put_bytes-next-requires
unfolding map_line
put_bytes-next-requires c = part-fits (started c.requires.0) map_word _ refl

pub put_images-next-requires : goal.put_images-next-requires
unfolding map_line
put_images-next-requires c =
    let variables = variables_in_rows (query_of (widths_in c.args.schema) c.args.query) in (
      part-fits (wrote (started c.requires.0) _ refl c.put_bytes-next.ensures)
          (images_text (images_of c.args.images) variables) _ refl,
      c.requires.1,
    )

pub put_byte-requires : goal.put_byte-requires
unfolding map_line
put_byte-requires c = rest-fits (wrote (wrote (started c.requires.0) _ refl c.put_bytes-next.ensures) _ refl c.put_images-next.ensures)

pub returns : goal.returns
unfolding map_line
returns c =
    wrote-rest (wrote (wrote (started c.requires.0) _ refl c.put_bytes-next.ensures) _ refl c.put_images-next.ensures)
    c.put_byte.ensures
