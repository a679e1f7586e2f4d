-- The answers of this crate's functions as the format's readings, and its results as options.
use Rattle.std.specs.Prelude.{List, map, ℕ, Option, None, Some}
use denote.Ref.{Bor}
use Rattle.query.specs.declared.Cell.{Cell}
use Rattle.limits.specs.declared.schema.Schema.{Schema}
use Rattle.format.specs.Format.{Reading, none, got}
use Rattle.format.specs.Parts.{flat}
use Rattle.refusals.specs.Refusals.{Reply, gives, refused}
use Rattle.parsing.specs.declared.StoredRows.{StoredRows}

-- The value that a result gives, if any
abbrev pub value_given : {A : Type 0} → Reply A → Option A
value_given (gives a) = Some a
value_given (refused n) = None

-- What was read off the front of some bytes: the value, and the bytes after it
abbrev pub reading_of : {A : Type 0} → Option (A × Bor (List ℕ)) → Reading A
reading_of None = none
reading_of (Some p) = got p.0 p.1.now

-- The number of relations and their widths that were read, and the bytes after them
abbrev pub relations_read : Option (Schema × Bor (List ℕ)) → Reading (ℕ × List ℕ)
relations_read None = none
relations_read (Some p) = got (p.0.relations, p.0.widths) p.1.now

-- What was read into some room, with the bytes after it
abbrev pub read_into : {A : Type 0} → List A → Option (Bor (List ℕ)) → Reading (List A)
read_into xs None = none
read_into xs (Some rest) = got xs rest.now

-- The relations and cells of some rows
abbrev pub stored_rows : List (ℕ × List Cell) → StoredRows
stored_rows rs = record { relations = map (λ r. r.0) rs; cells = flat rs }
