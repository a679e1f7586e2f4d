-- What the calls' equations come to, in the words of SPECIFICATION, Calls on the record. Each statement is proved in `proofs/Meaning`.
use Rattle.std.specs.Prelude.{◌≡◌, ◌↔◌, false, List, ℕ, length}
use Rattle.theory.specs.Query.{◌∈◌}
use Rattle.determination.specs.Determined.{Determined}
use Rattle.query.specs.View.{columns_of}
use Rattle.refusals.specs.Refusals.{gives}
use Rattle.record.specs.declared.Record.{Record}
use Rattle.record.specs.View.{schema_of, dependencies_of}
use Rattle.record.specs.Rule.{good_record}
use Rattle.record.specs.Meaning.{LeavesGood}
use Rattle.record_calls.specs.Calls.{blank_record, open_record, drop_query, determined_columns}

-- Opening a record leaves one that 14 passes
abbrev pub OpenKeeps : Type 0
OpenKeeps = (widths : List ℕ) → LeavesGood (open_record widths)

-- So does dropping a query
abbrev pub DropKeeps : Type 0
DropKeeps = (r : Record) (place : ℕ) → LeavesGood (drop_query r place)

-- 14 refuses the blank record
abbrev pub BlankBroken : Type 0
BlankBroken = good_record blank_record ≡ false

-- The columns answered are those of the relation that the left set determines in every database that is legal for the
-- functional dependencies, and their number is right
abbrev pub DeterminedMeans : Type 0
DeterminedMeans =
    (r : Record) (relation left mask n : ℕ) → determined_columns r relation left ≡ gives (mask, n)
    → ((c : ℕ) → (c ∈ columns_of mask) ↔ Determined (schema_of r) (dependencies_of r) relation (columns_of left) c)
    × (n ≡ length (columns_of mask))
