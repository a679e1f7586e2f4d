-- `text::write_refused` meets its contract: a word with a number, then the end of the line. A byte has at most three digits. Assumes nothing.
use mathlib.Core.Path.{refl}
use mathlib.Core.List.{List}
use Prim.Native.Nat.{ℕ, ◌+◌, ◌≤◌, ◌<◌}
use native.Mathlib.Omega.{arith}
use lib.ListN.{length, length-append}
use Rattle.printing.specs.Decimal.{decimal, field}
use Rattle.text.specs.Text.{refused_word, newline, refused_text}
use Rattle.printing.specs.internal.Writing.{Fits, WrittenAt}
use Rattle.printing.proofs.Decimal.{decimal-length}
use Rattle.printing.proofs.Writing.{Progress, started, part-fits, rest-fits, wrote, wrote-rest}
use Rattle.text.proofs.write_refused.Goals as goal

whole-fits : {buffer : List ℕ} {at n : ℕ} → at + 12 ≤ length buffer → n < 256 → Fits buffer at (refused_text n)
unfolding refused_text
whole-fits {n = n} h b =
    record { room = rw (length-append (field refused_word n) newline, length-append refused_word (decimal n)) (omega (arith, decimal-length 2 n (omega arith))) }

first_fits : {buffer : List ℕ} {at n : ℕ} → at + 12 ≤ length buffer → n < 256 → Fits buffer at (field refused_word n)
unfolding refused_text
first_fits {n = n} h b = part-fits (started (whole-fits h b)) (field refused_word n) newline refl

end-left : {buffer buffer' : List ℕ} {at next n : ℕ} → at + 12 ≤ length buffer → n < 256 → WrittenAt buffer at (field refused_word n) buffer' next
    → Progress buffer at (refused_text n) newline buffer' next
unfolding refused_text
end-left h b w = wrote (started (whole-fits h b)) newline refl w

pub put_field-end-requires : goal.put_field-end-requires
put_field-end-requires c = first_fits c.requires c.ranges.n.fits

pub put_byte-requires : goal.put_byte-requires
put_byte-requires c =
    rest-fits (end-left c.requires
    c.ranges.n.fits
    c.put_field-end.ensures)

pub returns : goal.returns
returns c =
    wrote-rest (end-left c.requires
    c.ranges.n.fits
    c.put_field-end.ensures)
    c.put_byte.ensures
