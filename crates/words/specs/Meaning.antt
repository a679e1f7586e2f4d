-- What it comes to that words spell rows. Each statement is proved in `proofs/Spelling`.
use Rattle.std.specs.Prelude.{◌≡◌, ◌↔◌, true, List, ℕ}
use Rattle.theory.specs.Database.{Database, Sound}
use Rattle.words.specs.Words.{words_of, Spells, database_of, spells_rows}

-- Words pass refusal 9 exactly when they spell some rows
abbrev pub SpellsMeans : Type 0
SpellsMeans = (schema words : List ℕ) → (spells_rows schema words ≡ true) ↔ ((D : Database) × Spells schema words D)

-- They spell the rows that are read
abbrev pub RowsSpelled : Type 0
RowsSpelled = (schema words : List ℕ) → spells_rows schema words ≡ true → Spells schema words (database_of schema words)

-- And no others: if they spell some rows, those are the rows that are read
abbrev pub RowsOnly : Type 0
RowsOnly = (schema words : List ℕ) (D : Database) → Spells schema words D → database_of schema words ≡ D

-- Every sound database has words that spell it
abbrev pub RowsWritten : Type 0
RowsWritten = (schema : List ℕ) (D : Database) → Sound schema D → Spells schema (words_of D) D
