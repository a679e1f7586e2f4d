-- Bytes and little-endian numbers.
use Rattle.std.specs.Prelude.{◌≡◌, true, List, [], ◌∷◌, ℕ, zero, suc, ◌+◌, ◌*◌, ◌/◌, ◌%◌, ltb, get_or, drop}
use Rattle.lists.specs.Tests.{every}

-- The little-endian number of the first k bytes
unfoldable pub number : ℕ → List ℕ → ℕ
number zero bytes = 0
number (suc k) bytes = get_or bytes 0 0 + 256 * number k (drop 1 bytes)

-- The k bytes of a number, little-endian
unfoldable pub bytes_of : ℕ → ℕ → List ℕ
bytes_of zero n = []
bytes_of (suc k) n = n % 256 ∷ bytes_of k (n / 256)

-- Each number of a list is a byte
abbrev pub Bytes : List ℕ → Type 0
Bytes numbers = every (λ n. ltb n 256) numbers ≡ true
