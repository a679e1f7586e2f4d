-- Where the rows of the words begin, by their positions.
use Rattle.std.specs.Prelude.{◌≡◌, List, ℕ, zero, suc, ◌+◌, ◌≤◌, ◌<◌, length, take, get_or}
use Rattle.theory.specs.Query.{Row}
use Rattle.theory.specs.Database.{Agree}
use Rattle.query.specs.View.{columns_of}
use Rattle.words.specs.Words.{database_of, database_read}
use Rattle.words.specs.Broken.{nth_row}
use Rattle.theory.specs.Codes.{CodePair}
use Rattle.join_lookup.specs.declared.Index.{Index}

-- Where the row after the one at a word begins
abbrev pub end_of : List ℕ → List ℕ → ℕ → ℕ
end_of schema words at = at + 1 + get_or schema (get_or words at 0) 0

-- Where the row at position p begins; past the last row, the end of the words
unfoldable pub start_of : List ℕ → List ℕ → ℕ → ℕ
start_of schema words zero = 0
start_of schema words (suc p) = end_of schema words (start_of schema words p)

-- How many rows the words spell
abbrev pub row_count : List ℕ → List ℕ → ℕ
row_count schema words = length (database_of schema words)

-- A row begins at a word, the one at position p
abbrev pub BeginsAt : List ℕ → List ℕ → ℕ → ℕ → Type 0
BeginsAt schema words at p = (at ≡ start_of schema words p) × (p < row_count schema words)

-- The row at position p, as it is read
abbrev pub row_of : List CodePair → List ℕ → List ℕ → ℕ → Row ℕ
row_of codes schema words p = nth_row (database_read codes schema words) p

-- Values as a row of the relation that is tested
abbrev pub row_with : Index → List ℕ → Row ℕ
row_with x values = record { relation = x.relation; values = take x.width values }

-- The row at position p is of the relation that is tested
abbrev pub Of : List CodePair → List ℕ → List ℕ → Index → ℕ → Type 0
Of codes schema words x p = (row_of codes schema words p).relation ≡ x.relation

-- and has the given values in the columns of a set
abbrev pub Has : List CodePair → List ℕ → List ℕ → Index → ℕ → List ℕ → ℕ → Type 0
Has codes schema words x columns values p = Of codes schema words x p × Agree 0 (columns_of columns) (row_of codes schema words p) (row_with x values)

-- The relation that is tested is known, of this width, and has at most 8 columns; buckets can be counted in 32 bits
pub record Known (schema : List ℕ) (x : Index) : Type 0 where
  pub known : x.relation < length schema
  pub width : x.width ≡ get_or schema x.relation 0
  pub narrow : x.width ≤ 8
  pub few : x.buckets ≤ 4294967296
