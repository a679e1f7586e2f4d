-- What opening a record, dropping a query and a question about determined columns answer: what they ask, in the order of SPECIFICATION, Refusals, and the
-- record after them.
use Rattle.std.specs.Prelude.{Result, Ok, Err, not, ◌&&◌, List, [], ◌∷◌, ◌++◌, ℕ, ◌-◌, length, get_or, replicate}
use Rattle.lists.specs.Tests.{between, every}
use Rattle.determination.specs.Determined.{determined}
use Rattle.query.specs.View.{columns_of, mask_of}
use Rattle.query.specs.Rule.{good_set, no_pair, no_dependency, no_join, no_place}
use Rattle.refusals.specs.Refusals.{bad_dependency, bad_relations, Condition, first_holding, Reply, refused, gives, reply}
use Rattle.record.specs.declared.Record.{Record}
use Rattle.record.specs.View.{schema_of, dependencies_of}
use Rattle.record.specs.Calls.{concluded, broken_record, unknown_place, vacant, with_place}
use Rattle.record_calls.specs.declared.Columns.{Columns}
use Rattle.refusals.specs.declared.Refusal.{Refusal}
use Rattle.refusals.specs.Refusal.{number_of}

-- ---- open

-- A record of the given relations, no pairs of codes, no dependencies, all places vacant
abbrev pub empty_record : ℕ → List ℕ → Record
empty_record relations widths =
    record {
      relations = relations;
      widths = widths;
      coded = 0;
      codes = replicate 16 no_pair;
      held = 0;
      dependencies = replicate 32 no_dependency;
      joined = 0;
      joins = replicate 4 no_join;
      places = replicate 8 no_place;
    }

-- The blank record, all fields 0: what reading and opening return when they refuse
abbrev pub blank_record : Record
blank_record = empty_record 0 (replicate 8 0)

-- What opening asks: 3 unless there are 1 to 8 widths, each 1 to 8
abbrev pub open_conditions : List ℕ → List Condition
open_conditions widths = (not (between 1 8 (length widths) && every (between 1 8) widths), bad_relations) ∷ []

-- Open a record from relation widths, no pairs of codes, no dependencies, all places vacant
unfoldable pub open_record : List ℕ → Reply (Unit {0}) × Record
open_record widths =
    concluded (first_holding (open_conditions widths)) blank_record
    (empty_record (length widths) (widths ++ replicate (8 - length widths) 0))

-- ---- drop

-- What dropping a place asks: 14; 7; 11
abbrev pub drop_conditions : Record → ℕ → List Condition
drop_conditions r place = broken_record r ∷ unknown_place place ∷ vacant r place ∷ []

-- Drop a filled place
unfoldable pub drop_query : Record → ℕ → Reply (Unit {0}) × Record
drop_query r place = concluded (first_holding (drop_conditions r place)) r (with_place r place no_place)

-- ---- determined columns

-- What each case of an answer about determined columns says: their set and how many they are, or refused with a number
abbrev pub columns_reply : Result Columns Refusal → Reply (ℕ × ℕ)
columns_reply (Ok columns) = gives (columns.set, columns.count)
columns_reply (Err refusal) = refused (number_of refusal)

-- What a question about determined columns asks: 14; 4 unless the relation is known and what is asked about is a set of its columns, which may be empty
abbrev pub determined_conditions : Record → ℕ → ℕ → List Condition
determined_conditions r relation left = broken_record r ∷ (not (good_set (schema_of r) relation left), bad_dependency) ∷ []

-- The columns of a relation that a left set determines
abbrev pub determined_at : Record → ℕ → ℕ → List ℕ
determined_at r relation left = determined (dependencies_of r) relation (get_or (schema_of r) relation 0) (columns_of left)

-- Their set and how many they are
unfoldable pub determined_columns : Record → ℕ → ℕ → Reply (ℕ × ℕ)
determined_columns r relation left =
    reply (first_holding (determined_conditions r relation left))
    (mask_of (determined_at r relation left), length (determined_at r relation left))
