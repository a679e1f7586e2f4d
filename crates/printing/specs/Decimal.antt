-- Numbers in decimal, as bytes.
use Rattle.std.specs.Prelude.{cond, List, [], ◌∷◌, ◌++◌, ℕ, zero, suc, ◌+◌, ◌/◌, ◌%◌, ltb}

-- The decimal digits of a number as bytes, 48 being the digit 0, at most as many as the first argument says
unfoldable pub digits : ℕ → ℕ → List ℕ
digits zero n = []
digits (suc most) n = cond (ltb n 10) ((48 + n) ∷ []) (digits most (n / 10) ++ ((48 + n % 10) ∷ []))

-- A number in decimal, without leading zeros. A number n has at most n + 1 digits
unfoldable pub decimal : ℕ → List ℕ
decimal n = digits (suc n) n

-- A word and a number right after it
abbrev pub field : List ℕ → ℕ → List ℕ
field word n = word ++ decimal n
