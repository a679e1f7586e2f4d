-- What a number in decimal comes to. Each statement is proved in `proofs/Decimal`.
use Rattle.std.specs.Prelude.{◌≡◌, List, [], ◌∷◌, ℕ, ◌+◌, ◌*◌, ◌-◌, ◌<◌, length, get_or}
use Rattle.printing.specs.Decimal.{decimal}

-- The number that some digits stand for, after digits that stand for another
unfoldable pub value_after : ℕ → List ℕ → ℕ
value_after before [] = before
value_after before (digit ∷ rest) = value_after (10 * before + (digit - 48)) rest

-- A number in decimal reads back as the number
abbrev pub DecimalReadsBack : Type 0
DecimalReadsBack = (n : ℕ) → value_after 0 (decimal n) ≡ n

-- There is a digit, and only 0 starts with the digit 0
abbrev pub DecimalLeads : Type 0
DecimalLeads = (n : ℕ) → (0 < length (decimal n)) × (get_or (decimal n) 0 0 ≡ 48 → n ≡ 0)
