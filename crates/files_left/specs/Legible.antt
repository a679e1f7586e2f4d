-- What a caller relies on: the file that an accepted call leaves is read as the record after the call, and so a query part.
-- Each statement is proved in `proofs/Legible`.
-- `Bytes` holds of every file and query part that a call can be given: bytes are below 256.
use Rattle.std.specs.Prelude.{◌≡◌, List, [], ℕ, length, take}
use Rattle.std.proofs.Math.Option.{none}
use Rattle.query.specs.Types.{Query}
use Rattle.record.specs.declared.Record.{Record}
use Rattle.record.specs.View.{schema_of}
use Rattle.query.specs.View.{query_of}
use Rattle.record.specs.Calls.{add_code, add_dependency, add_join}
use Rattle.record_calls.specs.Calls.{open_record, drop_query}
use Rattle.format.specs.Bytes.{Bytes}
use Rattle.refusals.specs.Refusals.{Reply, gives, ◌>>=◌}
use Rattle.format.specs.Format.{got}
use Rattle.format.specs.Parts.{query_for}
use Rattle.format.specs.File.{read_file}
use Rattle.comparison.specs.Comparison.{chased_at, pair_refusal}
use Rattle.reduction.specs.declared.Reduced.{Reduced}
use Rattle.reduction.specs.Reduced.{reduction_refusal, IsReduced}
use Rattle.lent_numbers.specs.Lent.{Wrote}
use Rattle.record_on_files.specs.Records.{result_of, copied, opened, added_code, added, join_with, added_join, put_part, put_in, dropped}
use Rattle.reduction_on_files.specs.Shortening.{ReduceGives}
use Rattle.comparison_on_files.specs.Queries.{CompareGives}

-- A call with the record `after`, which wrote what `given` says of a buffer's room and returned 0: the bytes that it left are read as that record
abbrev pub FileLeft : Reply Record → (ℕ → Reply (List ℕ)) → Type 0
FileLeft after given =
    (r : Record) → after ≡ gives r → (out : List ℕ) (size : ℕ) (out_after : List ℕ) (size_after : ℕ)
    → Wrote (given (length out)) out size 0 out_after size_after → read_file (take size_after out_after) ≡ gives r

-- A file that is written back
abbrev pub WriteLeft : Type 0
WriteLeft = (file : List ℕ) → Bytes file → FileLeft (read_file file) (copied file)

-- The file of a record that is opened
abbrev pub OpenLeft : Type 0
OpenLeft = (widths : List ℕ) → FileLeft (result_of (open_record widths)) (opened widths)

-- A file with a functional dependency added
abbrev pub AddLeft : Type 0
AddLeft =
    (file : List ℕ) → Bytes file → (relation left right : ℕ)
    → FileLeft (read_file file >>= λ r. result_of (add_dependency r (record { relation = relation; left = left; right = right }))) (added file relation left right)

-- With a pair of codes added
abbrev pub AddCodeLeft : Type 0
AddCodeLeft =
    (file : List ℕ) → Bytes file → (old current : ℕ)
    → FileLeft (read_file file >>= λ r. result_of (add_code r (record { old = old; current = current }))) (added_code file old current)

-- With a join dependency added
abbrev pub AddJoinLeft : Type 0
AddJoinLeft =
    (file : List ℕ) → Bytes file → (relation : ℕ) (sets : List ℕ)
    → FileLeft (read_file file >>= λ r. result_of (add_join r (join_with relation sets))) (added_join file relation sets)

-- With a query put into a place
abbrev pub PutLeft : Type 0
PutLeft =
    (file : List ℕ) → Bytes file → (place : ℕ) (part : List ℕ) → Bytes part → FileLeft (read_file file >>= put_part place part) (put_in file place part)

-- With a place dropped
abbrev pub DropLeft : Type 0
DropLeft = (file : List ℕ) → Bytes file → (place : ℕ) → FileLeft (read_file file >>= λ r. result_of (drop_query r place)) (dropped file place)

-- Reducing, once the places are not refused
abbrev pub ReduceLeft : Type 0
ReduceLeft =
    (file : List ℕ) (source target : ℕ) (r : Record) → read_file file ≡ gives r → reduction_refusal r source target ≡ none
    → (out : List ℕ) (size count : ℕ) (mapping out_after : List ℕ) (size_after count_after : ℕ) (mapping_after : List ℕ)
    → ReduceGives file source target out size count mapping 0 out_after size_after count_after mapping_after
    → (o : Reduced) × IsReduced r source target o × (read_file (take size_after out_after) ≡ gives o.«record»)

-- Comparing, once the places are not refused, where it said 0: the query part that it left is read as a query of at most 24 rows that stands for the first
-- query, chased
abbrev pub CompareLeft : Type 0
CompareLeft =
    (file : List ℕ) → Bytes file → (p q : ℕ) (r : Record) → read_file file ≡ gives r → pair_refusal r p q ≡ none
    → (said : ℕ) (mapping part : List ℕ) (size : ℕ) (mapping_after part_after : List ℕ) (size_after : ℕ)
    → CompareGives file p q said mapping part size 0 0 mapping_after part_after size_after
    → (chased : Query) × ((query_for 24 (schema_of r)).get (take size_after part_after) ≡ got chased []) × (query_of (schema_of r) chased ≡ chased_at r p)
