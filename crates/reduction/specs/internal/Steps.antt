-- What the steps of a reduction ask and promise: the shortened query, and the record that has it. The promise of the call itself is in `Reduced`.
use Rattle.std.specs.Prelude.{◌≡◌, ℕ, ◌<◌, true, List, [], Option, replicate}
use Rattle.query.specs.Types.{Query}
use Rattle.query.specs.declared.Cell.{Cell}
use Rattle.mapping.specs.internal.Mapped.{Narrow, IsMapped}
use Rattle.query.specs.declared.Dependency.{Dependency}
use Rattle.record.specs.declared.Record.{Record}
use Rattle.query.specs.View.{query_of, images_of}
use Rattle.lists.specs.Tests.{every, between}
use Rattle.query.specs.Rule.{good_dependency, good_query, head_safe, no_cell}
use Rattle.record.specs.Rule.{good_record}
use Rattle.record.specs.Calls.{is_filled}
use Rattle.theory.specs.Database as database
use Rattle.theory.specs.Codes.{CodePair}
use Rattle.reduction.specs.declared.Shortened.{Shortened}
use Rattle.reduction.specs.Reduced.{ReducesTo}

-- A query and dependencies that are good under some schema, as those of a good record
pub record Shortenable (q : Query) (dependencies : List Dependency) : Type 0 where
  pub schema : List ℕ
  pub widths : every (between 1 8) schema ≡ true
  pub dependencies-good : every (good_dependency schema) dependencies ≡ true
  pub query-good : good_query schema q ≡ true

-- What a query without old codes is shortened to, read through a schema that makes it good: a good query with a safe head, and demand 3's facts of it
pub record IsShortened (codes : List CodePair) (schema : List ℕ) (ds : List database.Dependency) (q : Query) (r : Shortened) : Type 0 where
  pub good : good_query schema r.query ≡ true
  pub safe : head_safe schema r.query ≡ true
  pub reduces : ReducesTo codes schema ds (query_of schema q) (query_of schema r.query) r.count (images_of r.images)
  pub no-mapping : (query_of schema r.query).rows ≡ [] → r.images ≡ replicate 96 no_cell

-- What is found: images that are a mapping, or none where there is no mapping, of the queries that two stored ones are under every schema that makes both good
abbrev pub Maps : Query → Query → Option (List Cell) → Type 0
Maps source target r =
    (schema : List ℕ) → Narrow schema → good_query schema source ≡ true → good_query schema target ≡ true → source.arity ≡ target.arity
    → IsMapped (query_of schema source) (query_of schema target) r

-- A good record whose source place is filled, and a target place
pub record Reducible (r : Record) (source target : ℕ) : Type 0 where
  pub good : good_record r ≡ true
  pub source-low : source < 8
  pub target-low : target < 8
  pub source-filled : is_filled r source ≡ true
