-- What the query of a place, as it is read, is for the calls that read it.
use Rattle.std.specs.Prelude.{◌≡◌, true, ℕ}
use Rattle.query.specs.Types.{Query}
use Rattle.query.specs.View.{query_of}
use Rattle.query.specs.Rule.{good_query, head_safe}
use Rattle.record.specs.declared.Record.{Record}
use Rattle.record.specs.View.{schema_of}
use Rattle.record.specs.Calls.{stored_at, query_at}

-- A stored query that stands for the query of a place as it is read, and keeps the rule as the one that is stored there does
pub record ReadAs (r : Record) (place : ℕ) (x : Query) : Type 0 where
  pub arity : x.arity ≡ (stored_at r place).arity
  pub query : query_of (schema_of r) x ≡ query_at r place
  pub good : good_query (schema_of r) x ≡ true
  pub safe : head_safe (schema_of r) x ≡ true
