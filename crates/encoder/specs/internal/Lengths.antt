-- How many bytes rows take.
use Rattle.std.specs.Prelude.{List, [], ◌∷◌, ℕ, ◌+◌, ◌*◌, get_or}

-- How many bytes some rows take: a byte for the relation and 5 a column
unfoldable pub rows_length : List ℕ → List ℕ → ℕ
rows_length schema [] = 0
rows_length schema (r ∷ rs) = 1 + 5 * get_or schema r 0 + rows_length schema rs
