-- Demand 1 for each public call: what it asks, what a refusal hands back, and what is due. `Meets` and the numbers are in `Demand1`. Lent working memory is as it
-- was after a refusal, unless that is 10: the contracts in src/ say so of each call that is lent some.
use Rattle.std.specs.Prelude.{Option as Maybe, Result, ◌≡◌, Bool, List, [], ◌∷◌, ◌++◌, ℕ, ◌-◌, length, replicate}
use Rattle.refusals.specs.Refusals.{gives, refusal_in}
use Rattle.query.specs.declared.Cell.{Cell}
use Rattle.query.specs.declared.Dependency.{Dependency}
use Rattle.query.specs.declared.JoinDependency.{JoinDependency}
use Rattle.query.specs.declared.CodePair.{CodePair}
use Rattle.query.specs.Types.{Query}
use Rattle.query.specs.View.{mask_of}
use Rattle.query.specs.Rule.{no_cell, no_place, place_with}
use Rattle.record.specs.declared.Record.{Record}
use Rattle.record.specs.declared.Outcome.{Outcome}
use Rattle.record_calls.specs.declared.Columns.{Columns}
use Rattle.record.specs.View.{schema_of, codes_of, dependencies_of, joins_of}
use Rattle.record_calls.specs.Calls.{blank_record, empty_record, columns_reply, determined_at, open_conditions, drop_conditions, determined_conditions}
use Rattle.record.specs.Calls.{with_place, query_at}
use Rattle.refusals.specs.declared.Refusal.{Refusal}
use Rattle.refusals.specs.Refusal.{reply_of}
use Rattle.record.specs.Calls.{with_code, with_dependency, with_join}
use Rattle.record.specs.Calls.{add_code_conditions, add_conditions, add_join_conditions, put_conditions}
use Rattle.comparison.specs.declared.Verdict.{Verdict}
use Rattle.comparison.specs.Comparison.{pair_conditions, comparison_conditions, verdict_reply, images_at, Compared}
use Rattle.reduction.specs.declared.Reduced.{Reduced}
use Rattle.reduction.specs.Reduced.{reduction_conditions, IsReduced}
use Rattle.words.specs.declared.Violation.{Violation}
use Rattle.admission.specs.Conditions.{test_conditions}
use Rattle.database.specs.Calls.{evaluation_conditions, place_answers, longest_buffer}
use Rattle.words.specs.Words.{database_read}
use Rattle.join_testing.specs.Unmet.{violation_in}
use Rattle.passes.specs.Evaluated.{answer_words}
use Rattle.lists.specs.Over.{over}
use Rattle.format.specs.File.{read_file, file_of}
use Rattle.format.specs.Faults.{read_conditions}
use Rattle.writer.specs.Write.{write_conditions}
use Rattle.minimization.specs.Checking.{maps_to}
use Rattle.demands.specs.Demand1.{Meets, NothingToKeep, open_asks, add_code_asks, add_asks, add_join_asks, put_asks, drop_asks, determined_asks, pair_asks, compare_asks, reduce_asks}
use Rattle.demands.specs.Demand1.{test_asks, evaluate_asks, write_asks, read_asks}

-- ---- the calls on the record alone

-- Opening a record: it was given none, so a refusal hands back the blank one
abbrev pub OpenMeets : List ℕ → Outcome → Type 0
OpenMeets widths o =
    Meets (open_conditions widths) (open_asks ∷ []) (refusal_in (reply_of o.answer)) (o.«record» ≡ blank_record)
    (o.«record» ≡ empty_record (length widths) (widths ++ replicate (8 - length widths) 0))

-- Adding a pair of codes
abbrev pub AddCodeMeets : Record → CodePair → Outcome → Type 0
AddCodeMeets r p o = Meets (add_code_conditions r p) (add_code_asks ∷ []) (refusal_in (reply_of o.answer)) (o.«record» ≡ r) (o.«record» ≡ with_code r p)

-- Adding a functional dependency
abbrev pub AddMeets : Record → Dependency → Outcome → Type 0
AddMeets r d o = Meets (add_conditions r d) (add_asks ∷ []) (refusal_in (reply_of o.answer)) (o.«record» ≡ r) (o.«record» ≡ with_dependency r d)

-- Adding a join dependency
abbrev pub AddJoinMeets : Record → JoinDependency → Outcome → Type 0
AddJoinMeets r j o = Meets (add_join_conditions r j) (add_join_asks ∷ []) (refusal_in (reply_of o.answer)) (o.«record» ≡ r) (o.«record» ≡ with_join r j)

-- Putting a query
abbrev pub PutMeets : Record → ℕ → Query → Outcome → Type 0
PutMeets r place q o =
    Meets (put_conditions r place q) (put_asks ∷ []) (refusal_in (reply_of o.answer)) (o.«record» ≡ r)
    (o.«record» ≡ with_place r place (place_with q))

-- Dropping a query
abbrev pub DropMeets : Record → ℕ → Outcome → Type 0
DropMeets r place o = Meets (drop_conditions r place) (drop_asks ∷ []) (refusal_in (reply_of o.answer)) (o.«record» ≡ r) (o.«record» ≡ with_place r place no_place)

-- Asking for determined columns
abbrev pub DeterminedMeets : Record → ℕ → ℕ → Result Columns Refusal → Type 0
DeterminedMeets r relation left c =
    Meets (determined_conditions r relation left) (determined_asks ∷ []) (refusal_in (columns_reply c)) NothingToKeep
    (columns_reply c ≡ gives (mask_of (determined_at r relation left), length (determined_at r relation left)))

-- ---- comparing, checking a mapping, reducing

-- Comparing two places: what is due leaves free only which mapping
abbrev pub CompareMeets : Record → ℕ → ℕ → Result Verdict Refusal → Type 0
CompareMeets r p q c = Meets (comparison_conditions r p q) (compare_asks ∷ []) (refusal_in (verdict_reply c)) NothingToKeep (Compared r p q c)

-- Checking a mapping
abbrev pub CheckMeets : Record → ℕ → ℕ → List Cell → Result Bool Refusal → Type 0
CheckMeets r p q images c =
    Meets (pair_conditions r p q) (pair_asks ∷ []) (refusal_in (reply_of c)) NothingToKeep (reply_of c ≡ gives (maps_to (query_at r q) (query_at r p) (images_at r q images)))

-- Reducing: what is due leaves free only which mapping is returned
abbrev pub ReduceMeets : Record → ℕ → ℕ → Reduced → Type 0
ReduceMeets r source target o =
    Meets (reduction_conditions r source target) (reduce_asks ∷ []) (refusal_in (reply_of o.answer))
    ((o.«record» ≡ r) × (o.images ≡ replicate 96 no_cell) × (o.count ≡ 0)) (IsReduced r source target o)

-- ---- databases

-- Testing a database
abbrev pub TestMeets : Record → List ℕ → Result (Maybe Violation) Refusal → Type 0
TestMeets r words v =
    Meets (test_conditions r words) (test_asks ∷ []) (refusal_in (reply_of v)) NothingToKeep
    (reply_of v ≡ gives (violation_in (schema_of r) (dependencies_of r) (joins_of r) (database_read (codes_of r) (schema_of r) words)))

-- Evaluating a place
abbrev pub EvaluateMeets : Record → ℕ → List ℕ → List ℕ → List ℕ → Result ℕ Refusal → Type 0
EvaluateMeets r place words before after a =
    Meets (evaluation_conditions r place words (length before)) (evaluate_asks ∷ []) (refusal_in (reply_of a)) (after ≡ before)
    ((reply_of a ≡ gives (length (place_answers r place words)))
    × (after ≡ over before 0 (answer_words (place_answers r place words))))

-- Counting the answers of a place: it asks what an evaluation with the longest buffer asks
abbrev pub CountMeets : Record → ℕ → List ℕ → Result ℕ Refusal → Type 0
CountMeets r place words a =
    Meets (evaluation_conditions r place words longest_buffer) (evaluate_asks ∷ []) (refusal_in (reply_of a)) NothingToKeep
    (reply_of a ≡ gives (length (place_answers r place words)))

-- ---- files

-- Reading a file: it was given no record, so a refusal hands back the blank one
abbrev pub ReadMeets : List ℕ → Outcome → Type 0
ReadMeets file o =
    Meets (read_conditions file) (read_asks file) (refusal_in (reply_of o.answer)) (o.«record» ≡ blank_record) (read_file file ≡ gives o.«record»)

-- The same reading without the blank record, as the exported calls and the listing read
abbrev pub ReadRecordMeets : List ℕ → Result Record Refusal → Type 0
ReadRecordMeets file o =
    Meets (read_conditions file) (read_asks file) (refusal_in (reply_of o)) NothingToKeep (reply_of o ≡ read_file file)

-- Writing a record into a buffer
abbrev pub WriteMeets : Record → List ℕ → List ℕ → Result ℕ Refusal → Type 0
WriteMeets r before after w =
    Meets (write_conditions r (length before)) (write_asks ∷ []) (refusal_in (reply_of w)) (after ≡ before)
    ((reply_of w ≡ gives (length (file_of r))) × (after ≡ over before 0 (file_of r)))
