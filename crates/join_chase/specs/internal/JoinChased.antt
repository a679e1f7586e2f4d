-- What the chase with both kinds asks and what it promises, of the dependencies of both kinds that are held.
use Rattle.std.specs.Prelude.{◌≡◌, Option, None, Some, IfSome, true, List, map, ℕ, ◌+◌, ◌*◌, ◌-◌, ◌<◌, length}
use Rattle.lists.specs.Tests.{every, between}
use Rattle.theory.specs.Query.{variable_count}
use Rattle.query.specs.Types.{Tableau}
use Rattle.query.specs.declared.Dependency.{Dependency}
use Rattle.query.specs.declared.JoinDependency.{JoinDependency}
use Rattle.query.specs.View.{query_of, as_query, dependency_of, join_of}
use Rattle.query.specs.Rule.{good_dependency, good_join, good_tableau, shaped_join}
use Rattle.joins.specs.JoinChase.{without_repeats, Outcome, chased, overflow, join_chase}
use Rattle.join_chase.specs.declared.Round.{Round}
use Rattle.join_chase.specs.declared.Round.TheVariants.{Ended, Next}

-- The outcome that a result stands for
abbrev pub outcome_of : List ℕ → Option Tableau → Outcome
outcome_of schema None = overflow
outcome_of schema (Some query) = chased (query_of schema (as_query query))

-- What the chase asks: a good schema, dependencies of both kinds and tableau
pub record JoinChasable (t : Tableau) (schema : List ℕ) (dependencies : List Dependency) (joins : List JoinDependency) : Type 0 where
  pub widths-good : every (between 1 8) schema ≡ true
  pub dependencies-good : every (good_dependency schema) dependencies ≡ true
  pub joins-shaped : every shaped_join joins ≡ true
  pub joins-good : every (good_join schema) joins ≡ true
  pub tableau-good : good_tableau schema t ≡ true

-- What it promises: the outcome is that of the chase, and a tableau is good and has a head of the same length
pub record IsJoinChased (t : Tableau) (schema : List ℕ) (dependencies : List Dependency) (joins : List JoinDependency) (r : Option Tableau) : Type 0 where
  pub outcome-is : outcome_of schema r
      ≡ join_chase schema (map dependency_of dependencies) (map join_of joins) 24 (query_of schema (as_query t))
  pub good : IfSome r (λ query. good_tableau schema query ≡ true)
  pub same-arity : IfSome r (λ query. query.arity ≡ t.arity)

-- How many rounds the chase of a tableau can still make: each loses a variable, or adds a row
abbrev pub rounds_left : List ℕ → List JoinDependency → Tableau → ℕ
rounds_left schema joins t =
    variable_count (query_of schema (as_query t)) * 25 + (24 - length (without_repeats (map join_of joins) (query_of schema (as_query t))).rows)

-- What a round promises of the next round's tableau: the chase goes on with it as the chase does, with fewer rounds left
pub record IsNextRound (t : Tableau) (schema : List ℕ) (dependencies : List Dependency) (joins : List JoinDependency) (query : Tableau) : Type 0 where
  pub good : good_tableau schema query ≡ true
  pub same-arity : query.arity ≡ t.arity
  pub same_outcome : join_chase schema (map dependency_of dependencies) (map join_of joins) 24 (query_of schema (as_query t))
      ≡ join_chase schema (map dependency_of dependencies) (map join_of joins) 24 (query_of schema (as_query query))
  pub fewer-left : rounds_left schema joins query < rounds_left schema joins t

-- and that an end is that of the chase
abbrev pub IsRound : Tableau → List ℕ → List Dependency → List JoinDependency → Round → Type 0
IsRound t schema dependencies joins (Ended r) = IsJoinChased t schema dependencies joins r
IsRound t schema dependencies joins (Next query) = IsNextRound t schema dependencies joins query
