-- A database as words: each row is its relation's number and then its values, one a column.
-- `database_of` reads the rows, `spells_rows` judges the words (refusal 9), and `Spells` is what the two are: `Meaning` says so.
use Rattle.std.specs.Prelude.{◌≡◌, Bool, true, false, ◌&&◌, List, [], ◌∷◌, ◌++◌, ℕ, zero, suc, ltb, length, take, get_or}
use Rattle.theory.specs.Database.{Database, Sound}
use Rattle.theory.specs.Codes.{CodePair, read_database}

-- The words of some rows, row by row
unfoldable pub words_of : Database → List ℕ
words_of [] = []
words_of (r ∷ rs) = r.relation ∷ (r.values ++ words_of rs)

-- The words spell the rows: they are the rows' words, and each row is of a known relation and of its width
abbrev pub Spells : List ℕ → List ℕ → Database → Type 0
Spells schema words D = (words_of D ≡ words) × Sound schema D

-- The rows that words spell, where `due` values of the row before are still to come
unfoldable pub rows_from : List ℕ → ℕ → List ℕ → Database
rows_from schema due [] = []
rows_from schema zero (relation ∷ words) =
    record { relation = relation; values = take (get_or schema relation 0) words } ∷ rows_from schema (get_or schema relation 0) words
rows_from schema (suc due) (word ∷ words) = rows_from schema due words

-- Whether words spell rows, where `due` values of the row before are still to come: each relation is known, and no row is cut short
unfoldable pub spells_rows_from : List ℕ → ℕ → List ℕ → Bool
spells_rows_from schema zero [] = true
spells_rows_from schema (suc due) [] = false
spells_rows_from schema zero (relation ∷ words) = ltb relation (length schema) && spells_rows_from schema (get_or schema relation 0) words
spells_rows_from schema (suc due) (word ∷ words) = spells_rows_from schema due words

-- The database that words spell
abbrev pub database_of : List ℕ → List ℕ → Database
database_of schema words = rows_from schema 0 words

-- The same as it is read: each old code as its current one
abbrev pub database_read : List CodePair → List ℕ → List ℕ → Database
database_read codes schema words = read_database codes (database_of schema words)

-- Whether words spell rows: the opposite is refusal 9, a row of unknown relation or cut short
abbrev pub spells_rows : List ℕ → List ℕ → Bool
spells_rows schema words = spells_rows_from schema 0 words
