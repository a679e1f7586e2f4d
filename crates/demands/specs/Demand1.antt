-- Demand 1: what every public call meets, whatever it is given. A call asks conditions, which its own specs define, and the table below has their numbers, in
-- the order of the refusals. It is refused exactly when one of them holds, with the number of the first, and then hands back the record it was given and
-- leaves every buffer as it was; otherwise it answers and leaves what is due. `Demand1Calls` says it of each call. That a call ends is part of every proved
-- contract.
use Rattle.std.specs.Prelude.{◌≡◌, true, ℕ, ◌-◌, replicate}
use mathlib.Core.List.{List, [], ◌∷◌, ◌++◌, map, flatten}
use Rattle.std.proofs.Math.Option.{Option, none, some}
use Rattle.refusals.specs.Refusals.{bad_code, codes_full}
use Rattle.refusals.specs.Refusals.{bad_directory, bad_offsets, bad_relations, bad_dependency, bad_query, unsafe_head, no_such_place, heads_differ, bad_database}
use Rattle.refusals.specs.Refusals.{buffer_too_short, place_vacant, place_filled, dependencies_full, bad_record, bad_join, joins_full, too_many_rows}
use Rattle.refusals.specs.Refusals.{Condition, order, follows, first_holding}
use Rattle.lists.specs.Tests.{every}
use Rattle.format.specs.Bytes.{number}

-- ---- what is said of every call

-- A call that asks these conditions, and says that it is refused with a number or not. Every call asks in one stretch but reading, which asks in one for the
-- directory of a file and one for each part
pub record Meets (conditions : List Condition) (stretches : List (List ℕ)) (said : Option ℕ) (Unchanged Due : Type 0) : Type 0 where
  -- Its conditions are those of the table, none more and none missing
  pub asks : map (λ c. c.1) conditions ≡ flatten stretches
  -- In each stretch they stand in the order of the refusals
  pub ordered : every (λ numbers. follows numbers order) stretches ≡ true
  -- It is refused exactly when one holds, with the number of the first that does
  pub first : said ≡ first_holding conditions
  -- Refused, it hands back the record given, leaves the buffers as they were, and its other fields hold 0
  pub unchanged : (n : ℕ) → said ≡ some n → Unchanged
  -- Accepted, it answers and leaves what is due
  pub due : said ≡ none → Due

-- There is nothing that a refusal could change: no record and no buffer comes back
abbrev pub NothingToKeep : Type 0
NothingToKeep = Unit {0}

-- ---- what each call asks, by the numbers of the refusals

-- Opening a record
abbrev pub open_asks : List ℕ
open_asks = bad_relations ∷ []

-- Adding a pair of codes
abbrev pub add_code_asks : List ℕ
add_code_asks = bad_record ∷ bad_code ∷ codes_full ∷ []

-- Adding a functional dependency
abbrev pub add_asks : List ℕ
add_asks = bad_record ∷ bad_dependency ∷ dependencies_full ∷ []

-- Adding a join dependency
abbrev pub add_join_asks : List ℕ
add_join_asks = bad_record ∷ bad_join ∷ joins_full ∷ []

-- Putting a query
abbrev pub put_asks : List ℕ
put_asks = bad_record ∷ no_such_place ∷ bad_query ∷ unsafe_head ∷ place_filled ∷ []

-- Dropping a query
abbrev pub drop_asks : List ℕ
drop_asks = bad_record ∷ no_such_place ∷ place_vacant ∷ []

-- Determined columns
abbrev pub determined_asks : List ℕ
determined_asks = bad_record ∷ bad_dependency ∷ []

-- Checking a mapping between two places
abbrev pub pair_asks : List ℕ
pair_asks = bad_record ∷ no_such_place ∷ no_such_place ∷ place_vacant ∷ place_vacant ∷ heads_differ ∷ []

-- Comparing them
abbrev pub compare_asks : List ℕ
compare_asks = pair_asks ++ too_many_rows ∷ []

-- Reducing
abbrev pub reduce_asks : List ℕ
reduce_asks = bad_record ∷ no_such_place ∷ no_such_place ∷ place_vacant ∷ place_filled ∷ []

-- Testing a database
abbrev pub test_asks : List ℕ
test_asks = bad_record ∷ bad_database ∷ []

-- Evaluating a place, and counting its answers
abbrev pub evaluate_asks : List ℕ
evaluate_asks = bad_record ∷ no_such_place ∷ place_vacant ∷ bad_database ∷ buffer_too_short ∷ []

-- Writing a record
abbrev pub write_asks : List ℕ
write_asks = bad_record ∷ buffer_too_short ∷ []

-- Reading a file: the directory's faults, then those of each part in file order
abbrev pub read_asks : List ℕ → List (List ℕ)
read_asks file =
    (bad_directory ∷ bad_offsets ∷ []) ∷ (bad_relations ∷ bad_code ∷ []) ∷ (bad_dependency ∷ bad_join ∷ []) ∷ replicate (number 2 file - 2) (bad_query ∷ unsafe_head ∷ [])
