-- `text::put_entry` meets its contract: by the two cases of an entry. Assumes nothing.
use mathlib.Core.Path.{◌≡◌, ap}
use mathlib.Core.List.{List}
use Prim.Native.Nat.{ℕ}
use Rattle.query.specs.declared.Entry.{Entry}
use Rattle.query.specs.declared.Entry.TheVariants.{Constant, Variable}
use Rattle.query.specs.View.{entry_of}
use Rattle.printing.specs.Decimal.{decimal, field}
use Rattle.text.specs.Text.{v_word, entry_text}
use Rattle.printing.specs.internal.Writing.{Fits}
use Rattle.printing.proofs.Writing.{Progress, started, rest-fits, wrote-rest, left_as}
use Rattle.text.proofs.put_entry.Goals as goal

constant-left : {buffer : List ℕ} {at n : ℕ} {e : Entry} → Fits buffer at (entry_text (entry_of e)) → e ≡ Constant n
    → Progress buffer at (entry_text (entry_of e)) (decimal n) buffer at
unfolding entry_text
constant-left f p = left_as (started f) (ap (λ (e : Entry). entry_text (entry_of e)) p)

variable-left : {buffer : List ℕ} {at v : ℕ} {e : Entry} → Fits buffer at (entry_text (entry_of e)) → e ≡ Variable v
    → Progress buffer at (entry_text (entry_of e)) (field v_word v) buffer at
unfolding entry_text
variable-left f p = left_as (started f) (ap (λ (e : Entry). entry_text (entry_of e)) p)

pub put_number-requires : goal.put_number-requires
put_number-requires c = rest-fits (constant-left c.requires c.in-Constant.is)

pub put_field-requires : goal.put_field-requires
put_field-requires c = rest-fits (variable-left c.requires c.in-Variable.is)

pub returns-in-Constant : goal.returns-in-Constant
returns-in-Constant c =
    wrote-rest (constant-left c.requires
    c.in-Constant.is)
    c.put_number.ensures

pub returns-in-Variable : goal.returns-in-Variable
returns-in-Variable c =
    wrote-rest (variable-left c.requires
    c.in-Variable.is) c.put_field.ensures
