-- What the promises of the two calls come to. Each statement is proved in `proofs/Meaning`.
use Rattle.std.specs.Prelude.{Result, Ok, Bool, true, false, ◌≡◌, ◌↔◌, ◌⊎◌, List, [], ◌∷◌, ℕ}
use Rattle.std.proofs.Math.Option.{none}
use Rattle.theory.specs.Query.{constant}
use Rattle.theory.specs.Answer.{IsMapping}
use Rattle.theory.specs.Chase.{chase}
use Rattle.lists.specs.Tests.{every}
use Rattle.joins.specs.JoinChase.{Outcome, chased, JoinChases}
use Rattle.query.specs.declared.Cell.{Cell}
use Rattle.minimization.specs.Checking.{image_at}
use Rattle.query.specs.Rule.{shaped_join, shaped_tableau}
use Rattle.query.specs.Types.{Tableau}
use Rattle.record.specs.declared.Record.{Record}
use Rattle.record.specs.View.{schema_of, dependencies_of, joins_of}
use Rattle.record.specs.Rule.{good_record}
use Rattle.record.specs.Calls.{query_at}
use Rattle.comparison.specs.declared.Verdict.{Verdict}
use Rattle.comparison.specs.declared.Verdict.TheVariants.{Mapped, Apart}
use Rattle.refusals.specs.declared.Refusal.{Refusal}
use Rattle.comparison.specs.Comparison.{pair_refusal, outcome_at, images_at, read_images, Compared, CheckedMapping}

-- Checking says yes exactly when the two places are not refused and the images are a mapping from q's query to p's, all as they are read. A mapping takes
-- each variable that q's query does not have to constant 0
abbrev pub CheckMeans : Type 0
CheckMeans =
    (r : Record) (p q : ℕ) (images : List Cell) (c : Result Bool Refusal) → CheckedMapping r p q images c
    → (c ≡ Ok true) ↔ ((pair_refusal r p q ≡ none) × IsMapping (query_at r q) (query_at r p) (image_at (images_at r q images)))

-- It says no exactly when they are not refused and the images are no such mapping
abbrev pub CheckDenies : Type 0
CheckDenies =
    (r : Record) (p q : ℕ) (images : List Cell) (c : Result Bool Refusal) → CheckedMapping r p q images c
    → (c ≡ Ok false) ↔ ((pair_refusal r p q ≡ none) × (IsMapping (query_at r q) (query_at r p) (image_at (images_at r q images)) → ⊥))

-- The query that a comparison gives, if it gives one, has arrays as long as its type says
abbrev pub QueryShape : Result Verdict Refusal → Type 0
QueryShape c = (query : Tableau) → c ≡ Ok (Apart query) → shaped_tableau query ≡ true

-- Two comparisons of the same places, with the arrays of a query as long as their types say, are the same but for the mapping
abbrev pub ComparedOnce : Type 0
ComparedOnce =
    (r : Record) (p q : ℕ) (c d : Result Verdict Refusal) → QueryShape c → QueryShape d → Compared r p q c → Compared r p q d
    → (c ≡ d) ⊎ ((images others : List Cell) × (c ≡ Ok (Mapped images)) × (d ≡ Ok (Mapped others)))

-- With no join dependency held the chase is that with the functional dependencies, repeated rows and all, and has room
abbrev pub FunctionalAlone : Type 0
FunctionalAlone = (r : Record) (p : ℕ) → r.joined ≡ 0 → outcome_at r p ≡ chased (chase (dependencies_of r) (query_at r p)).query

-- The outcome that a comparison speaks of is that of the chase with both kinds as it is defined, with the limit of 24 rows; a record's join dependencies have
-- room for 4 sets each
abbrev pub OutcomeMeans : Type 0
OutcomeMeans =
    (r : Record) (p : ℕ) (outcome : Outcome) → good_record r ≡ true → every shaped_join r.joins ≡ true
    → JoinChases (schema_of r) (dependencies_of r) (joins_of r) 24 (query_at r p) outcome ↔ (outcome_at r p ≡ outcome)

-- Where 0 became 7 and 5 became 8: of a query with variables 1, 2 and 4 the images of these are read. That of variable 0 is not, nor that of 3, and there is none past the end
abbrev pub ImagesExample : Type 0
ImagesExample =
    read_images
    (record { old = 0; current = 7 } ∷ record { old = 5; current = 8 } ∷ [])
    (2 ∷ 1 ∷ 4 ∷ [])
    0
    (constant 0 ∷ constant 0 ∷ constant 5 ∷ constant 5 ∷ [])
    ≡ constant 0 ∷ constant 7 ∷ constant 8 ∷ constant 5 ∷ []
