-- Rows by the word at which they begin.
use Rattle.std.specs.Prelude.{◌≡◌, Bool, true, List, ◌∷◌, ℕ, suc, ◌+◌, ◌≤◌, ◌<◌, length, take, drop, get_or}
use Rattle.theory.specs.Query.{Row, constant, map_row}
use Rattle.theory.specs.Database.{Dependency}
use Rattle.theory.specs.Chase.{agree}
use Rattle.theory.specs.Codes.{CodePair, read_code}
use Rattle.words.specs.Words.{database_of, database_read, spells_rows}
use Rattle.words.specs.Testing.{numbered_from}

-- The row of the given width that begins at a word
abbrev pub span_at : ℕ → List ℕ → ℕ → Row ℕ
span_at width words at = record { relation = get_or words at 0; values = take width (drop (suc at) words) }

-- The row that begins at a word
abbrev pub row_at : List ℕ → List ℕ → ℕ → Row ℕ
row_at schema words at = span_at (get_or schema (get_or words at 0) 0) words at

-- The same rows as they are read: each old code as its current one
abbrev pub span_read : List CodePair → ℕ → List ℕ → ℕ → Row ℕ
span_read codes width words at = map_row (read_code codes) (span_at width words at)

abbrev pub row_read : List CodePair → List ℕ → List ℕ → ℕ → Row ℕ
row_read codes schema words at = map_row (read_code codes) (row_at schema words at)

-- The row at `at` ends before `after`, and the rows go on there
pub record Next (schema words : List ℕ) (at after : ℕ) : Type 0 where
  pub place : after ≡ at + 1 + get_or schema (get_or words at 0) 0
  pub fits : after ≤ length words
  pub known : get_or words at 0 < length schema
  pub read : database_of schema (drop at words) ≡ row_at schema words at ∷ database_of schema (drop after words)
  pub good : spells_rows schema (drop after words) ≡ true

-- Whether two rows of numbers agree on the left columns of a dependency: as rows of constants they do
abbrev pub agree_rows : Dependency → Row ℕ → Row ℕ → Bool
agree_rows d r s = agree d.left (map_row constant r) (map_row constant s)

-- The rows of the words from `at` on as they are read, with their positions, the first of them at position n
abbrev pub rows_read : List CodePair → List ℕ → List ℕ → ℕ → ℕ → List (ℕ × Row ℕ)
rows_read codes schema words at n = numbered_from n (database_read codes schema (drop at words))
