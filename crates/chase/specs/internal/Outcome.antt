-- What the chase asks and what it promises.
use Rattle.std.specs.Prelude.{◌≡◌, true, List, map, ℕ, ◌≤◌}
use Rattle.query.specs.Types.{Tableau}
use Rattle.query.specs.declared.Dependency.{Dependency}
use Rattle.query.specs.View.{query_of, as_query, dependency_of}
use Rattle.query.specs.Rule.{good_tableau}
use Rattle.chase.specs.declared.Chased.{Chased}
use Rattle.theory.specs.Chase as chasing

-- What the chase promises of a tableau that is good under a schema: the query that it gives is the chased one, and the count is the number of replacements
pub record IsChased (schema : List ℕ) (dependencies : List Dependency) (t : Tableau) (r : Chased) : Type 0 where
  pub query-is : query_of schema (as_query r.query) ≡ (chasing.chase (map dependency_of dependencies) (query_of schema (as_query t))).query
  pub count-is : r.count ≡ (chasing.chase (map dependency_of dependencies) (query_of schema (as_query t))).count
  pub good : good_tableau schema r.query ≡ true
  pub same-arity : r.query.arity ≡ t.arity
  pub no-more-rows : r.query.size ≤ t.size
