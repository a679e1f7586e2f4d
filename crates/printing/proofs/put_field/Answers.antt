-- `printing::put_field` meets its contract: a word, then a number. Assumes nothing.
use mathlib.Core.Path.{refl}
use Rattle.printing.specs.Decimal.{decimal}
use Rattle.printing.proofs.Writing.{started, wrote, wrote-rest}
use Rattle.printing.proofs.put_field.Goals as goal

pub returns : goal.returns
returns c = wrote-rest (wrote (started c.requires) (decimal c.args.n) refl c.put_bytes-next.ensures) c.put_number.ensures
