-- Demand 2: containment over all databases, the answers of conjunctive queries, and files that are written and read back.
use Rattle.std.specs.Prelude.{Result, Ok, false, ◌≡◌, ◌↔◌, List, ℕ, ◌≤◌, length}
use Rattle.std.proofs.Math.Option.{none}
use Rattle.query.specs.View.{query_of, as_query}
use Rattle.record.specs.declared.Record.{Record}
use Rattle.record.specs.declared.Outcome.{Outcome}
use Rattle.record.specs.View.{schema_of, codes_of, dependencies_of, joins_of}
use Rattle.refusals.specs.Refusals.{gives}
use Rattle.record.specs.Calls.{outcome_reply, query_at}
use Rattle.query.specs.Types.{Tableau}
use Rattle.comparison.specs.declared.Verdict.{Verdict}
use Rattle.comparison.specs.declared.Verdict.TheVariants.{Apart}
use Rattle.comparison.specs.Comparison.{comparison_refusal, SaysContained, base}
use Rattle.words.specs.Words.{database_read}
use Rattle.answers.specs.Ascending.{Ascending}
use Rattle.passes.specs.Evaluated.{answer_words}
use Rattle.refusals.specs.declared.Refusal.{Refusal}
use Rattle.refusals.specs.Refusal.{reply_of}
use Rattle.database.specs.Calls.{evaluation_refusal, place_answers}
use Rattle.file.specs.RoundTrip.{Reads, Writes}
use Rattle.theory.specs.Query.{member, ◌∈◌}
use Rattle.theory.specs.Codes.{old_codes}
use Rattle.theory.specs.Answer.{Answer}
use Rattle.joins.specs.Join.{LegalForBothAsRead}
use Rattle.theory.specs.Containment.{Contained, Counterexample, frozen_rows, frozen_head}
use Rattle.lists.specs.Over.{over}

-- ---- containment

-- A comparison says contained exactly when on every database that obeys the held dependencies of both kinds and has no old code each answer of p's query is an
-- answer of q's, both queries as they are read; otherwise the query that it gives, read as a database, shows one on which this fails
pub record Decides (r : Record) (p q : ℕ) (c : Result Verdict Refusal) : Type 0 where
  pub exactly : comparison_refusal r p q ≡ none
      → SaysContained c ↔ Contained (LegalForBothAsRead (codes_of r) (schema_of r) (dependencies_of r) (joins_of r)) (query_at r p) (query_at r q)
  pub shown : comparison_refusal r p q ≡ none → (SaysContained c → ⊥)
      → (query : Tableau) × (c ≡ Ok (Apart query))
      × Counterexample (LegalForBothAsRead (codes_of r) (schema_of r) (dependencies_of r) (joins_of r)) (query_at r p) (query_at r q)
      (frozen_rows base (query_of (schema_of r) (as_query query))) (frozen_head base (query_of (schema_of r) (as_query query)))

-- ---- answers

-- The answers that an evaluation counts and writes are those of the place's query on the rows that the words spell, both as they are read, in current codes,
-- ascending, so each once
pub record Evaluates (r : Record) (place : ℕ) (words before after : List ℕ) (a : Result ℕ Refusal) : Type 0 where
  pub count : evaluation_refusal r place words (length before) ≡ none → reply_of a ≡ gives (length (place_answers r place words))
  pub written : evaluation_refusal r place words (length before) ≡ none
      → after ≡ over before 0 (answer_words (place_answers r place words))
  pub ascends : Ascending (place_answers r place words)
  pub exactly : evaluation_refusal r place words (length before) ≡ none
      → (t : List ℕ) → (t ∈ place_answers r place words) ↔ Answer (database_read (codes_of r) (schema_of r) words) (query_at r place) t
  pub current : evaluation_refusal r place words (length before) ≡ none
      → (t : List ℕ) → t ∈ place_answers r place words → (n : ℕ) → n ∈ t → member n (old_codes (codes_of r)) ≡ false

-- ---- files

-- A file that reading accepts, read and written into a buffer with room for it: the same bytes, and those after them stay
abbrev pub FileComesBack : List ℕ → List ℕ → List ℕ → Result ℕ Refusal → Type 0
FileComesBack file before after w =
    (r : Record) → Reads file r → length file ≤ length before → (reply_of w ≡ gives (length file)) × (after ≡ over before 0 file)

-- A record that writing accepts, written and read back: the same record
abbrev pub RecordComesBack : Record → List ℕ → Outcome → Type 0
RecordComesBack r before o = (n : ℕ) → Writes r before n → outcome_reply o ≡ (gives tt, r)

-- The same where it is read as the exported calls and the listing read: the record alone
abbrev pub RecordComesBackAlone : Record → List ℕ → Result Record Refusal → Type 0
RecordComesBackAlone r before o = (n : ℕ) → Writes r before n → reply_of o ≡ gives r
