-- `printing::put_number` meets its contract: the last digit after those of a tenth of the number. Assumes nothing.
use mathlib.Core.List.{List, [], ◌∷◌}
use Prim.Native.Nat.{ℕ, ◌+◌, ◌/◌, ◌%◌, ◌<◌, ◌≤◌}
use native.Mathlib.Omega.{arith}
use Rattle.printing.specs.Decimal.{decimal}
use Rattle.printing.specs.internal.Writing.{Fits, WrittenAt}
use Rattle.printing.proofs.Decimal.{decimal-one, decimal-more}
use Rattle.printing.proofs.Writing.{Progress, started, part-fits, rest-fits, wrote, wrote-rest, left_as}
use Rattle.printing.proofs.+put_number.Goals as goal

-- below ten the digit is all
one_left : {buffer : List ℕ} {at n : ℕ} → Fits buffer at (decimal n) → n < 10 → Progress buffer at (decimal n) ((48 + n) ∷ []) buffer at
one_left {n = n} f h = left_as (started f) (decimal-one n h)

-- when the digits before the last are written, the last is left
last-left : {buffer buffer' : List ℕ} {at next n : ℕ} → Fits buffer at (decimal n) → 10 ≤ n → WrittenAt buffer at (decimal (n / 10)) buffer' next
    → Progress buffer at (decimal n) ((48 + n % 10) ∷ []) buffer' next
last-left {n = n} f h w = wrote (started f) ((48 + n % 10) ∷ []) (decimal-more n h) w

pub put_byte-requires : goal.put_byte-requires
put_byte-requires t c = rest-fits (one_left c.requires c.if-n-lt10.true)

pub returns-then-n-lt10 : goal.returns-then-n-lt10
returns-then-n-lt10 t c = wrote-rest (one_left c.requires c.if-n-lt10.true) c.put_byte.ensures

pub put_number-next-requires : goal.put_number-next-requires
put_number-next-requires t c = (omega arith, part-fits (started c.requires) _ _ (decimal-more c.args.n c.if-n-lt10.false))

pub put_byte-requires-2 : goal.put_byte-requires-2
put_byte-requires-2 t c = rest-fits (last-left c.requires c.if-n-lt10.false c.put_number-next.ensures)

pub returns : goal.returns
returns t c = wrote-rest (last-left c.requires c.if-n-lt10.false c.put_number-next.ensures) c.put_byte-2.ensures
