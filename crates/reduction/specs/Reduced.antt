-- What reducing the query of one place into another promises (demand 3). Which mapping is returned is free, all else is not.
use Rattle.std.specs.Prelude.{◌≡◌, ℕ, ◌≤◌, true, ◌≢◌, ◌↔◌, List, [], ◌∷◌, replicate}
use Rattle.std.proofs.Math.Option.{Option, none, some}
use Rattle.record.specs.declared.Record.{Record}
use Rattle.query.specs.declared.Cell.{Cell}
use Rattle.query.specs.View.{query_of, images_of}
use Rattle.record.specs.View.{schema_of, codes_of, dependencies_of}
use Rattle.record.specs.Rule.{good_record}
use Rattle.query.specs.Rule.{no_cell, place_with}
use Rattle.refusals.specs.Refusals.{Condition, first_holding, Reply, refused, gives}
use Rattle.record.specs.Calls.{broken_record, unknown_place, vacant, filled, with_place, stored_at, query_at}
use Rattle.refusals.specs.Refusal.{reply_of}
use Rattle.reduction.specs.declared.Reduced.{Reduced}
use Rattle.theory.specs.Query as theory
use Rattle.theory.specs.Database as database
use Rattle.theory.specs.Codes.{CodePair, QueryWithoutOld, LegalAsRead}
use Rattle.theory.specs.Answer as answers
use Rattle.theory.specs.Chase as chasing
use Rattle.query.specs.Stored.{stored_form}
use Rattle.minimization.specs.Reduction as reduction
use Rattle.minimization.specs.Kept.{reduced}

-- What a reduction asks: 14; 7; 11 where the source is vacant; 12 where the target is filled
abbrev pub reduction_conditions : Record → ℕ → ℕ → List Condition
reduction_conditions r source target = broken_record r ∷ unknown_place source ∷ unknown_place target ∷ vacant r source ∷ filled r target ∷ []

-- The refusal of a reduction
unfoldable pub reduction_refusal : Record → ℕ → ℕ → Option ℕ
reduction_refusal r source target = first_holding (reduction_conditions r source target)

-- What a reduction says, the record that it hands back, the count and the mapping's images
abbrev pub reduced_reply : Reduced → Reply (Unit {0}) × Record × ℕ × List Cell
reduced_reply o = (reply_of o.answer, o.«record», o.count, o.images)

-- The same of a refused one: the number, the record as it was, and 0 in every other field
abbrev pub refused_reduction : Record → ℕ → Reply (Unit {0}) × Record × ℕ × List Cell
refused_reduction r n = (refused n, r, 0, replicate 96 no_cell)

-- The record after a reduction: the target place holds the result for the source query as it is read, and nothing else in the record has changed
abbrev pub reduced_record : Record → ℕ → ℕ → Record
reduced_record r source target = with_place r target (place_with (stored_form 12 (reduced (dependencies_of r) (query_at r source))))

-- What holds of the result T of an accepted reduction of S, under the pairs of codes, the schema and the dependencies ds; `images` is the mapping and `count`
-- the count. S is the query of the source as it is read
pub record ReducesTo (codes : List CodePair) (schema : List ℕ) (ds : List database.Dependency) (S T : theory.Query) (count : ℕ) (images : ℕ → theory.Entry) : Type 0 where
  -- T is the result of reduction that is given
  pub given : T ≡ reduced ds S
  -- it is a result of reduction
  pub result : reduction.Reduction ds S T
  -- unless T is never, a mapping from S to T is returned
  pub mapping : T.rows ≢ [] → answers.IsMapping S T images
  -- T has no old code
  pub current : QueryWithoutOld codes T
  -- on every database that obeys the dependencies T has exactly the answers of S, so on those without old codes
  pub answers : (D : database.Database) → database.Obeys ds D → (t : List ℕ) → answers.Answer D S t ↔ answers.Answer D T t
  -- every query that, as it is read, has those answers on all legal databases without old codes has at least as many rows
  pub minimal : reduction.MinimalAsRead codes (LegalAsRead codes schema ds) S T
  -- the count is the number of replacements that the chase makes on S
  pub counted : count ≡ (chasing.chase ds S).count
  -- and at most the number of different variables of S
  pub count-le : count ≤ theory.variable_count S

-- What an accepted reduction of the place `source` into the place `target` leaves
pub record ShortFormStored (r : Record) (source target : ℕ) (o : Reduced) : Type 0 where
  pub done : reply_of o.answer ≡ gives tt
  pub stored : o.«record» ≡ reduced_record r source target
  -- the record keeps its rule
  pub good : good_record o.«record» ≡ true
  -- the target place holds the short form of the source query as it is read
  pub reduces : ReducesTo (codes_of r) (schema_of r) (dependencies_of r) (query_at r source) (query_at o.«record» target) o.count (images_of o.images)
  -- which is read as it is stored
  pub as-stored : query_at o.«record» target ≡ query_of (schema_of r) (stored_at o.«record» target)
  -- a mapping that is absent is 0
  pub no-mapping : (query_at o.«record» target).rows ≡ [] → o.images ≡ replicate 96 no_cell

-- What reducing promises: a refusal, or all of demand 3
pub record IsReduced (r : Record) (source target : ℕ) (o : Reduced) : Type 0 where
  pub refused : (n : ℕ) → reduction_refusal r source target ≡ some n → reduced_reply o ≡ refused_reduction r n
  pub accepted : reduction_refusal r source target ≡ none → ShortFormStored r source target o
