-- `text::put_entry_after` meets its contract: a byte, then an entry. Assumes nothing.
use mathlib.Core.Path.{refl}
use Rattle.query.specs.View.{entry_of}
use Rattle.text.specs.Text.{entry_text}
use Rattle.printing.proofs.Writing.{started, wrote, wrote-rest}
use Rattle.text.proofs.put_entry_after.Goals as goal

pub returns : goal.returns
returns c =
    wrote-rest (wrote (started c.requires)
    (entry_text (entry_of c.args.entry)) refl
    c.put_byte-next.ensures) c.put_entry.ensures
