-- What comparing two places and checking a mapping promise (demand 2). Which mapping a comparison returns is free; everything else is determined.
use Rattle.std.specs.Prelude.{Result, Ok, Err, ◌≡◌, Bool, true, false, not, cond, List, [], ◌∷◌, ◌++◌, ℕ, suc, eqb, length}
use Rattle.std.proofs.Math.Option.{Option}
use Rattle.query.specs.declared.Cell.{Cell}
use Rattle.query.specs.Types.{Tableau}
use Rattle.record.specs.declared.Record.{Record}
use Rattle.query.specs.View.{entries_of, query_of, as_query, images_of}
use Rattle.record.specs.View.{schema_of, codes_of, dependencies_of, joins_of}
use Rattle.query.specs.Rule.{good_tableau, shaped_tableau}
use Rattle.refusals.specs.Refusals.{Condition, first_holding, heads_differ, too_many_rows, Reply, refused, gives, reply}
use Rattle.record.specs.Calls.{broken_record, unknown_place, vacant, stored_at, query_at}
use Rattle.comparison.specs.declared.Verdict.{Verdict}
use Rattle.comparison.specs.declared.Verdict.TheVariants.{Never, Mapped, Apart}
use Rattle.refusals.specs.declared.Refusal.{Refusal}
use Rattle.refusals.specs.Refusal.{number_of, reply_of}
use Rattle.theory.specs.Query as theory
use Rattle.theory.specs.Codes.{CodePair, read_entry}
use Rattle.theory.specs.Answer as answer
use Rattle.theory.specs.Containment as containment
use Rattle.joins.specs.Join.{ObeysBoth, LegalForBothAsRead}
use Rattle.joins.specs.JoinChase.{Outcome, chased, overflow, join_chase}
use Rattle.minimization.specs.Search as search
use Rattle.minimization.specs.Checking.{maps_to}

-- How the chase of the query of a place ends: with the held dependencies of both kinds, and no row added where there are 24 already
abbrev pub outcome_at : Record → ℕ → Outcome
outcome_at r place = join_chase (schema_of r) (dependencies_of r) (joins_of r) 24 (query_at r place)

-- The query in which a chase ends. An overflow ends in none, and refusal 17 comes before this one is looked at
abbrev pub query_in : Outcome → theory.Query
query_in (chased q) = q
query_in overflow = theory.never 0

-- The query of a place, chased
abbrev pub chased_at : Record → ℕ → theory.Query
chased_at r place = query_in (outcome_at r place)

-- Whether a chase ends before a row that would be one too many
abbrev pub overflows : Outcome → Bool
overflows (chased q) = false
overflows overflow = true

-- What a call on two places asks: 14; 7; 11; 8 where the head lengths differ
abbrev pub pair_conditions : Record → ℕ → ℕ → List Condition
pair_conditions r p q =
    broken_record r ∷ unknown_place p ∷ unknown_place q ∷ vacant r p ∷ vacant r q ∷ (not (eqb (stored_at r p).arity (stored_at r q).arity), heads_differ) ∷ []

-- The refusal of a call on two places
unfoldable pub pair_refusal : Record → ℕ → ℕ → Option ℕ
pair_refusal r p q = first_holding (pair_conditions r p q)

-- What a comparison asks: what a call on two places asks; then 17 where the chase of the first query would have a 25th row
abbrev pub comparison_conditions : Record → ℕ → ℕ → List Condition
comparison_conditions r p q = pair_conditions r p q ++ (overflows (outcome_at r p), too_many_rows) ∷ []

-- The refusal of a comparison
unfoldable pub comparison_refusal : Record → ℕ → ℕ → Option ℕ
comparison_refusal r p q = first_holding (comparison_conditions r p q)

-- The three verdicts as numbers: not contained
abbrev pub not_contained : ℕ
not_contained = 0

-- Contained by a mapping
abbrev pub contained_by_mapping : ℕ
contained_by_mapping = 1

-- Contained because the first query chases to never
abbrev pub contained_as_never : ℕ
contained_as_never = 2

-- A verdict as one of these
abbrev pub verdict_number : Verdict → ℕ
verdict_number (Apart query) = not_contained
verdict_number (Mapped images) = contained_by_mapping
verdict_number Never = contained_as_never

-- What a comparison says: one of these, or refused with a number
abbrev pub verdict_reply : Result Verdict Refusal → Reply ℕ
verdict_reply (Ok verdict) = gives (verdict_number verdict)
verdict_reply (Err refusal) = refused (number_of refusal)

-- The verdict on a chased query: never is contained, without a mapping; otherwise it is contained exactly when the second query can be mapped to it
abbrev pub verdict_on : List (theory.Row theory.Entry) → Bool → ℕ
verdict_on [] mapped = contained_as_never
verdict_on (x ∷ xs) mapped = cond mapped contained_by_mapping not_contained

-- The verdict on places p and q, or the refusal
abbrev pub verdict_of : Record → ℕ → ℕ → Reply ℕ
verdict_of r p q = reply (comparison_refusal r p q) (verdict_on (chased_at r p).rows (search.mappable (query_at r q) (chased_at r p)))

-- The number of the variable 0 of a query read as a database
abbrev pub base : ℕ
base = 2147483648

-- A comparison that says contained
abbrev pub SaysContained : Result Verdict Refusal → Type 0
SaysContained (Ok Never) = Unit {0}
SaysContained (Ok (Mapped images)) = Unit {0}
SaysContained (Ok (Apart query)) = ⊥
SaysContained (Err refusal) = ⊥

-- What comparing places p and q promises.
-- The verdict, and what it holds: a mapping from q's query to p's chased query where it is contained with one, p's chased query where it is not contained.
-- And demand 2: contained means that each answer of p is an answer of q on every database that obeys the dependencies of both kinds; not contained, that the
-- chased query read as a database, which obeys them and has no old code, shows the contrary. Both queries are as they are read
pub record Compared (r : Record) (p q : ℕ) (c : Result Verdict Refusal) : Type 0 where
  pub verdict : verdict_reply c ≡ verdict_of r p q
  pub mapping : (images : List Cell) → c ≡ Ok (Mapped images) → answer.IsMapping (query_at r q) (chased_at r p) (images_of images)
  pub chased : (query : Tableau) → c ≡ Ok (Apart query)
      → (query_of (schema_of r) (as_query query) ≡ chased_at r p) × (good_tableau (schema_of r) query ≡ true)
  pub contained : SaysContained c
      → containment.Contained (ObeysBoth (schema_of r) (dependencies_of r) (joins_of r)) (query_at r p) (query_at r q)
  pub apart : (query : Tableau) → c ≡ Ok (Apart query)
      → containment.Counterexample (LegalForBothAsRead (codes_of r) (schema_of r) (dependencies_of r) (joins_of r)) (query_at r p) (query_at r q)
      (containment.frozen_rows base (query_of (schema_of r) (as_query query))) (containment.frozen_head base (query_of (schema_of r) (as_query query)))

-- The arrays of a comparison are as long as their types say
abbrev pub ComparisonShape : Result Verdict Refusal → Type 0
ComparisonShape (Ok Never) = Unit {0}
ComparisonShape (Ok (Mapped images)) = length images ≡ 96
ComparisonShape (Ok (Apart query)) = shaped_tableau query ≡ true
ComparisonShape (Err refusal) = Unit {0}

-- The images of some variables as they are read, the first image being that of variable v. The image of any other variable means nothing, and stays
unfoldable pub read_images : List CodePair → List ℕ → ℕ → List theory.Entry → List theory.Entry
read_images ps among v [] = []
read_images ps among v (e ∷ images) = cond (theory.member v among) (read_entry ps e) e ∷ read_images ps among (suc v) images

-- The images of a mapping from the query of a place, as they are read
abbrev pub images_at : Record → ℕ → List Cell → List theory.Entry
images_at r q images = read_images (codes_of r) (theory.variables (query_at r q)) 0 (entries_of images)

-- What checking a mapping for places p and q promises: the refusal, or yes exactly when the images are a mapping from q's query to p's query, which is not
-- chased. Queries and images are as they are read. `maps_to` is a test that says yes exactly to the mappings (`minimization/specs/Checking`)
abbrev pub CheckedMapping : Record → ℕ → ℕ → List Cell → Result Bool Refusal → Type 0
CheckedMapping r p q images c = reply_of c ≡ reply (pair_refusal r p q) (maps_to (query_at r q) (query_at r p) (images_at r q images))
