-- Demand 3: whatever a reduction accepts, the target place holds the shortest query with the answers of the source query.
use Rattle.std.specs.Prelude.{◌≡◌, ℕ}
use Rattle.std.proofs.Math.Option.{none}
use Rattle.record.specs.declared.Record.{Record}
use Rattle.reduction.specs.declared.Reduced.{Reduced}
use Rattle.reduction.specs.Reduced.{reduction_refusal, ShortFormStored}

-- Let S be the query of the source place as it is read, T what the target place holds after the call. `ShortFormStored` says: all else in the record is
-- unchanged, T has no old code, so that it is read as it is stored, and, by `ReducesTo`, T is the result of reduction that is given, and unless it is never the
-- images are a mapping from S to it; on every database that obeys the held functional dependencies, whether or not it obeys the join dependencies or has old
-- codes, T has exactly the answers of S; no query that, as it is read, has those answers on all legal databases without old codes has fewer rows than T,
-- whichever variables and constants it uses; and the count is that of the chase of S, at most the number of its different variables
abbrev pub Shortens : Record → ℕ → ℕ → Reduced → Type 0
Shortens r source target o = reduction_refusal r source target ≡ none → ShortFormStored r source target o
