-- `text::put_never_line` meets its contract: its parts one after another. Assumes nothing.
use mathlib.Core.Path.{refl}
use Rattle.printing.specs.Decimal.{field}
use Rattle.text.specs.Text.{place_word, rows_word, never_word, replaced_word, never_line}
use Rattle.printing.proofs.Writing.{started, part-fits, rest-fits, wrote, wrote-rest}
use Rattle.text.proofs.put_never_line.Goals as goal

pub put_field-next-requires : goal.put_field-next-requires
unfolding never_line
put_field-next-requires c =
    part-fits (started c.requires) (field place_word c.args.place) _ refl

pub put_field-next-requires-2 : goal.put_field-next-requires-2
unfolding never_line
put_field-next-requires-2 c =
    let left₁ = wrote (started c.requires) _ refl c.put_field-next.ensures in
    part-fits left₁ (field rows_word c.args.rows) _ refl

pub put_bytes-next-requires : goal.put_bytes-next-requires
unfolding never_line
put_bytes-next-requires c =
    let left₁ = wrote (started c.requires) _ refl c.put_field-next.ensures in
    let left₂ = wrote left₁ _ refl c.put_field-next-2.ensures in
    part-fits left₂ never_word _ refl

pub put_field-next-requires-3 : goal.put_field-next-requires-3
unfolding never_line
put_field-next-requires-3 c =
    let left₁ = wrote (started c.requires) _ refl c.put_field-next.ensures in
    let left₂ = wrote left₁ _ refl c.put_field-next-2.ensures in
    let left₃ = wrote left₂ _ refl c.put_bytes-next.ensures in
    part-fits left₃ (field replaced_word c.args.count) _ refl

pub put_byte-requires : goal.put_byte-requires
unfolding never_line
put_byte-requires c =
    let left₁ = wrote (started c.requires) _ refl c.put_field-next.ensures in
    let left₂ = wrote left₁ _ refl c.put_field-next-2.ensures in
    let left₃ = wrote left₂ _ refl c.put_bytes-next.ensures in
    let left₄ = wrote left₃ _ refl c.put_field-next-3.ensures in
    rest-fits left₄

pub returns : goal.returns
unfolding never_line
returns c =
    let left₁ = wrote (started c.requires) _ refl c.put_field-next.ensures in
    let left₂ = wrote left₁ _ refl c.put_field-next-2.ensures in
    let left₃ = wrote left₂ _ refl c.put_bytes-next.ensures in
    let left₄ = wrote left₃ _ refl c.put_field-next-3.ensures in
    wrote-rest left₄ c.put_byte.ensures
