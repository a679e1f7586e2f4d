-- The faults of a file as conditions, in the order in which reading asks for them (SPECIFICATION, Refusals): the directory's, then those of each part in file
-- order. That reading refuses with the first that holds is `FirstFault`, proved in `proofs/Faults`.
use Rattle.std.specs.Prelude.{◌≡◌, ◌↔◌, Bool, true, false, cond, not, List, [], ◌∷◌, ℕ, ◌+◌, ◌-◌, ◌*◌, length, take, drop}
use Rattle.query.specs.Rule.{head_safe, no_query}
use Rattle.refusals.specs.Refusals.{bad_code, bad_dependency, bad_directory, bad_join, bad_offsets, bad_query, bad_relations, unsafe_head}
use Rattle.refusals.specs.Refusals.{Condition, first_holding, refusal_in}
use Rattle.format.specs.Bytes.{number, Bytes}
use Rattle.format.specs.Format.{Reading, none, got, Format, Lawful}
use Rattle.format.specs.Parts.{relations, codes, dependencies, joins, query}
use Rattle.format.specs.File.{chained, is_vacant, none_left, read_file, stretch, stretches, table_fits}

-- ---- what a part holds

-- Whether a good value was read and no byte is left
unfoldable pub is_whole : {A : Type 0} → Reading A → Bool
is_whole none = false
is_whole (got a []) = true
is_whole (got a (b ∷ rest)) = false

-- Whether a good value was read
unfoldable pub is_read : {A : Type 0} → Reading A → Bool
is_read none = false
is_read (got a rest) = true

-- The bytes after the value that was read, none where none was
unfoldable pub rest_of : {A : Type 0} → Reading A → List ℕ
rest_of none = []
rest_of (got a rest) = rest

-- Whether bytes are none, or the bytes of pairs of codes that keep the rule
unfoldable pub are_codes : List ℕ → Bool
are_codes [] = true
are_codes (b ∷ bytes) = is_whole (codes.get (b ∷ bytes))

-- Whether bytes are none, or the bytes of good join dependencies
unfoldable pub are_joins : List ℕ → List ℕ → Bool
are_joins schema [] = true
are_joins schema (b ∷ bytes) = is_whole ((joins schema).get (b ∷ bytes))

-- The value that was read, or a blank one where none was
unfoldable pub value_or : {A : Type 0} → A → Reading A → A
value_or blank none = blank
value_or blank (got a rest) = a

-- Part k of a file: the stretch that pair k names
abbrev pub part_at : List ℕ → ℕ → List ℕ
part_at file k = stretch file (drop (2 + 4 * k) file)

-- The widths of the relations with which part 0 begins
abbrev pub schema_in : List ℕ → List ℕ
schema_in part = take (value_or (0, []) (relations.get part)).0 (value_or (0, []) (relations.get part)).1

-- ---- the conditions

-- 1: the table of pairs does not fit
abbrev pub table_fault : List ℕ → Condition
table_fault file = (not (table_fits file), bad_directory)

-- 2: a pair breaks the rule of offsets
abbrev pub offset_fault : List ℕ → Condition
offset_fault file = (not (chained (number 2 file) (2 + 4 * number 2 file) (length file) (drop 2 file)), bad_offsets)

-- 3: part 0 does not begin with the bytes of good relations
abbrev pub relations_fault : List ℕ → Condition
relations_fault part = (not (is_read (relations.get part)), bad_relations)

-- 18: bytes are left of it that are not those of pairs of codes that keep the rule
abbrev pub codes_fault : List ℕ → Condition
codes_fault part = (not (are_codes (rest_of (relations.get part))), bad_code)

-- 4: part 1 does not begin with the bytes of good functional dependencies
abbrev pub dependencies_fault : List ℕ → List ℕ → Condition
dependencies_fault schema part = (not (is_read ((dependencies schema).get part)), bad_dependency)

-- 15: bytes are left of it that are not those of good join dependencies
abbrev pub joins_fault : List ℕ → List ℕ → Condition
joins_fault schema part = (not (are_joins schema (rest_of ((dependencies schema).get part))), bad_join)

-- 5: a query part is a vacant place though it is the last part, or it is no vacant place and not the bytes of a good query
abbrev pub query_fault : List ℕ → Bool → List ℕ → Condition
query_fault schema last part = (cond (is_vacant part) last (not (is_whole ((query schema).get part))), bad_query)

-- 6: a head variable of its query stands in no row
abbrev pub head_fault : List ℕ → List ℕ → Condition
head_fault schema part = (cond (is_vacant part) false (not (head_safe schema (value_or no_query ((query schema).get part)))), unsafe_head)

-- The query parts in file order: of each 5, then 6
unfoldable pub place_conditions : List ℕ → List (List ℕ) → List Condition
place_conditions schema [] = []
place_conditions schema (p ∷ ps) = query_fault schema (none_left ps) p ∷ head_fault schema p ∷ place_conditions schema ps

-- What reading asks: 1; 2; 3 and 18 of part 0; 4 and 15 of part 1; then 5 and 6 of each query part
unfoldable pub read_conditions : List ℕ → List Condition
read_conditions file =
    table_fault file ∷ offset_fault file ∷ relations_fault (part_at file 0) ∷ codes_fault (part_at file 0)
    ∷ dependencies_fault (schema_in (part_at file 0)) (part_at file 1)
    ∷ joins_fault (schema_in (part_at file 0)) (part_at file 1) ∷ place_conditions (schema_in (part_at file 0)) (stretches (number 2 file - 2) file (drop 10 file))

-- ---- what is proved of them

-- Reading refuses a file with the first of its faults, and gives a record where there is none
abbrev pub FirstFault : Type 0
FirstFault = (file : List ℕ) → refusal_in (read_file file) ≡ first_holding (read_conditions file)

-- Bytes are read whole exactly when they are the bytes of a good value
abbrev pub WholeWritten : Type 1
WholeWritten =
    (A : Type 0) (f : Format A) → Lawful f → (bytes : List ℕ) → Bytes bytes
    → (is_whole (f.get bytes) ≡ true) ↔ ((a : A) × (f.good a ≡ true) × (f.put a ≡ bytes))
