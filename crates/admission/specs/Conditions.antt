-- What testing and evaluation ask before the rows of a database are looked at, in the order of SPECIFICATION, Refusals.
use Rattle.std.specs.Prelude.{not, List, [], ◌∷◌, ℕ}
use Rattle.record.specs.declared.Record.{Record}
use Rattle.record.specs.View.{schema_of}
use Rattle.record.specs.Calls.{broken_record, unknown_place, vacant}
use Rattle.refusals.specs.Refusals.{Condition, bad_database}
use Rattle.words.specs.Words.{spells_rows}

-- 9: a database row of unknown relation, or cut short
abbrev pub unspelled : Record → List ℕ → Condition
unspelled r words = (not (spells_rows (schema_of r) words), bad_database)

-- What testing asks: 14; 9
abbrev pub test_conditions : Record → List ℕ → List Condition
test_conditions r words = broken_record r ∷ unspelled r words ∷ []

-- What is asked before answers are looked for: 14; 7; 11; 9
abbrev pub search_conditions : Record → ℕ → List ℕ → List Condition
search_conditions r place words = broken_record r ∷ unknown_place place ∷ vacant r place ∷ unspelled r words ∷ []
