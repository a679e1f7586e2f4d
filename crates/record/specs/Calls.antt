-- What adding a pair of codes or a dependency and putting a query answer: what they ask, in the order of SPECIFICATION, Refusals, and the record after it. And
-- what the other calls share with them: what a call says, places, queries as they are read, and the record with another content of one.
use Rattle.std.specs.Prelude.{Bool, not, List, [], ◌∷◌, ℕ, ◌+◌, eqb, ltb, take, get_or, set}
use Rattle.std.proofs.Math.Option.{Option, none, some}
use Rattle.theory.specs.Query as theory
use Rattle.theory.specs.Codes.{read_query}
use Rattle.query.specs.Types.{Query}
use Rattle.query.specs.declared.Dependency.{Dependency}
use Rattle.query.specs.declared.JoinDependency.{JoinDependency}
use Rattle.query.specs.declared.CodePair.{CodePair}
use Rattle.query.specs.declared.Place.{Place}
use Rattle.record.specs.declared.Record.{Record}
use Rattle.record.specs.declared.Outcome.{Outcome}
use Rattle.query.specs.View.{query_of}
use Rattle.record.specs.View.{schema_of, codes_of}
use Rattle.query.specs.Rule.{pair_fits, good_dependency, good_join, good_query, head_safe, no_place, place_with}
use Rattle.record.specs.Rule.{good_record}
use Rattle.refusals.specs.Refusals.{bad_code, codes_full}
use Rattle.refusals.specs.Refusals.{bad_dependency, bad_join, bad_query, bad_record, dependencies_full, joins_full}
use Rattle.refusals.specs.Refusals.{Condition, first_holding, no_such_place, place_filled, place_vacant, unsafe_head}
use Rattle.refusals.specs.Refusals.{Reply, refused, gives}
use Rattle.refusals.specs.Refusal.{reply_of}

-- ---- replies

-- What a call that changes the record says, and the record that it hands back
abbrev pub outcome_reply : Outcome → Reply (Unit {0}) × Record
outcome_reply o = (reply_of o.answer, o.«record»)

-- The same of a call that is refused with a number, or not: a refusal hands back the record given, an accepted call the record `after`
abbrev pub concluded : Option ℕ → Record → Record → Reply (Unit {0}) × Record
concluded none given after = (gives tt, after)
concluded (some n) given after = (refused n, given)

-- ---- places

-- 14: the record breaks its rule
abbrev pub broken_record : Record → Condition
broken_record r = (not (good_record r), bad_record)

-- 7: the place is above 7
abbrev pub unknown_place : ℕ → Condition
unknown_place place = (not (ltb place 8), no_such_place)

-- Whether a place is filled; one above 7 counts as vacant
abbrev pub is_filled : Record → ℕ → Bool
is_filled r place = (get_or r.places place no_place).filled

-- The query stored at a place
abbrev pub stored_at : Record → ℕ → Query
stored_at r place = (get_or r.places place no_place).query

-- The query that a place holds, as it is read: each old code as its current one
abbrev pub query_at : Record → ℕ → theory.Query
query_at r place = read_query (codes_of r) (query_of (schema_of r) (stored_at r place))

-- 11: the place to be read or dropped is vacant
abbrev pub vacant : Record → ℕ → Condition
vacant r place = (not (is_filled r place), place_vacant)

-- 12: the place to be filled is filled
abbrev pub filled : Record → ℕ → Condition
filled r place = (is_filled r place, place_filled)

-- The record with another content of one place
abbrev pub with_place : Record → ℕ → Place → Record
with_place r place p =
    record {
      relations = r.relations;
      widths = r.widths;
      coded = r.coded;
      codes = r.codes;
      held = r.held;
      dependencies = r.dependencies;
      joined = r.joined;
      joins = r.joins;
      places = set r.places place p;
    }

-- The record with one pair of codes more, after those held
abbrev pub with_code : Record → CodePair → Record
with_code r p =
    record {
      relations = r.relations;
      widths = r.widths;
      coded = r.coded + 1;
      codes = set r.codes r.coded p;
      held = r.held;
      dependencies = r.dependencies;
      joined = r.joined;
      joins = r.joins;
      places = r.places;
    }

-- The record with one functional dependency more, after those held
abbrev pub with_dependency : Record → Dependency → Record
with_dependency r d =
    record {
      relations = r.relations;
      widths = r.widths;
      coded = r.coded;
      codes = r.codes;
      held = r.held + 1;
      dependencies = set r.dependencies r.held d;
      joined = r.joined;
      joins = r.joins;
      places = r.places;
    }

-- The record with one join dependency more, after those held
abbrev pub with_join : Record → JoinDependency → Record
with_join r j =
    record {
      relations = r.relations;
      widths = r.widths;
      coded = r.coded;
      codes = r.codes;
      held = r.held;
      dependencies = r.dependencies;
      joined = r.joined + 1;
      joins = set r.joins r.joined j;
      places = r.places;
    }

-- ---- the calls

-- What adding a pair of codes asks: 14; 18 unless it may be held beside those held; 19 where 16 are held
abbrev pub add_code_conditions : Record → CodePair → List Condition
add_code_conditions r p = broken_record r ∷ (not (pair_fits (take r.coded r.codes) p), bad_code) ∷ (eqb r.coded 16, codes_full) ∷ []

-- Add a pair of codes after those held
unfoldable pub add_code : Record → CodePair → Reply (Unit {0}) × Record
add_code r p = concluded (first_holding (add_code_conditions r p)) r (with_code r p)

-- What adding a functional dependency asks: 14; 4 unless it is good; 13 where 32 are held
abbrev pub add_conditions : Record → Dependency → List Condition
add_conditions r d = broken_record r ∷ (not (good_dependency (schema_of r) d), bad_dependency) ∷ (eqb r.held 32, dependencies_full) ∷ []

-- Add a functional dependency after those held
unfoldable pub add_dependency : Record → Dependency → Reply (Unit {0}) × Record
add_dependency r d = concluded (first_holding (add_conditions r d)) r (with_dependency r d)

-- What adding a join dependency asks: 14; 15 unless it is good; 16 where 4 are held
abbrev pub add_join_conditions : Record → JoinDependency → List Condition
add_join_conditions r j = broken_record r ∷ (not (good_join (schema_of r) j), bad_join) ∷ (eqb r.joined 4, joins_full) ∷ []

-- Add a join dependency after those held
unfoldable pub add_join : Record → JoinDependency → Reply (Unit {0}) × Record
add_join r j = concluded (first_holding (add_join_conditions r j)) r (with_join r j)

-- What putting a query asks: 14; 7; 5 unless it keeps the limits and holds nothing where it is not in use; 6 where a head variable is in no row; 12
abbrev pub put_conditions : Record → ℕ → Query → List Condition
put_conditions r place q =
    broken_record r ∷ unknown_place place ∷ (not (good_query (schema_of r) q), bad_query) ∷ (not (head_safe (schema_of r) q), unsafe_head) ∷ filled r place ∷ []

-- Put a query into a vacant place
unfoldable pub put_query : Record → ℕ → Query → Reply (Unit {0}) × Record
put_query r place q = concluded (first_holding (put_conditions r place q)) r (with_place r place (place_with q))
