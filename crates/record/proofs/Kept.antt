-- The calls keep the rule: a good record with another content of a place one with a pair of codes more and one with a dependency of either kind more are good.
-- A place that holds a good query with a safe head is good, and so is a vacant one
use mathlib.Core.Path.{◌≡◌, refl, sym, ap, ◌∙◌}
use native.Mathlib.Numerals.{add-one}
use mathlib.Core.Bool.{true}
use mathlib.Core.List.{List}
use Prim.Native.Nat.{ℕ, ◌+◌, ◌<◌}
use native.Mathlib.Omega.{arith}
use lib.ListN.{length, get_or, take, drop, set}
use lib.Seq.{get_or-set_same, take-suc-set, drop-set-lt, drop-drop}
use Rattle.query.specs.Types.{Query}
use Rattle.query.specs.declared.Dependency.{Dependency}
use Rattle.query.specs.declared.JoinDependency.{JoinDependency}
use Rattle.query.specs.declared.CodePair.{CodePair}
use Rattle.query.specs.declared.Place.{Place}
use Rattle.record.specs.declared.Record.{Record}
use Rattle.record.specs.View.{schema_of}
use Rattle.lists.specs.Tests.{every}
use Rattle.query.specs.Rule.{pair_fits, all_fit, blank_pair, good_dependency, blank_dependency, good_join, blank_join, good_query, head_safe, blank_query, good_place, no_place}
use Rattle.query.specs.Rule.{place_with}
use Rattle.record.specs.Rule.{good_record}
use Rattle.record.specs.Calls.{with_place, with_code, with_dependency, with_join}
use Rattle.lists.proofs.Tests.{and_both, every_drop, every_set, used-more}
use Rattle.query.proofs.Pairs.{one-more-fits}
use Rattle.record.proofs.Good.{good-record, make-record}

pub filled-place : (schema : List ℕ) (q : Query) → good_query schema q ≡ true → head_safe schema q ≡ true
    → good_place schema (place_with q) ≡ true
filled-place schema q good safe = and_both (good_query schema q) (head_safe schema q) good safe

pub empty-place : (schema : List ℕ) → good_place schema no_place ≡ true
unfolding blank_query every
empty-place schema = refl

-- Another content of a place
pub place_kept : (r : Record) (place : ℕ) (p : Place) → good_record r ≡ true → good_place (schema_of r) p ≡ true → good_record (with_place r place p) ≡ true
place_kept r place p good fits =
    let g = good-record r good in
    make-record (with_place r place p)
    (record {
      relations = g.relations;
      coded = g.coded;
      codes = g.codes;
      no-codes = g.no-codes;
      held = g.held;
      dependencies = g.dependencies;
      joined = g.joined;
      joins = g.joins;
      places = every_set (good_place (schema_of r)) r.places place p g.places fits;
    })

-- One pair of codes more
pub code-kept : (r : Record) (p : CodePair) → good_record r ≡ true → pair_fits (take r.coded r.codes) p ≡ true → r.coded < 16
    → length r.codes ≡ 16 → good_record (with_code r p) ≡ true
code-kept r p good fits room long =
    let g = good-record r good in
    make-record (with_code r p)
    (record {
      relations = g.relations;
      coded = omega arith;
      codes =
          ap (λ (n : ℕ). all_fit (take n (set r.codes r.coded p))) (add-one r.coded) ∙ ap all_fit (take-suc-set r.codes r.coded p (omega arith))
          ∙ one-more-fits (take r.coded r.codes) p g.codes fits;
      no-codes =
          ap (every blank_pair) (drop-set-lt (r.coded + 1) r.codes r.coded p (omega arith) ∙ sym (drop-drop 1 r.coded r.codes))
          ∙ every_drop blank_pair 1 (drop r.coded r.codes) g.no-codes;
      held = g.held;
      dependencies = g.dependencies;
      joined = g.joined;
      joins = g.joins;
      places = g.places;
    })

-- One functional dependency more
pub dependency-kept : (r : Record) (d : Dependency) → good_record r ≡ true → good_dependency (schema_of r) d ≡ true → r.held < 32
    → length r.dependencies ≡ 32 → good_record (with_dependency r d) ≡ true
dependency-kept r d good fits room long =
    let g = good-record r good in
    make-record (with_dependency r d)
    (record {
      relations = g.relations;
      coded = g.coded;
      codes = g.codes;
      no-codes = g.no-codes;
      held = omega arith;
      dependencies =
          used-more r.held (good_dependency (schema_of r)) blank_dependency r.dependencies d (omega arith) fits g.dependencies;
      joined = g.joined;
      joins = g.joins;
      places = g.places;
    })

-- One join dependency more
pub join_kept : (r : Record) (j : JoinDependency) → good_record r ≡ true → good_join (schema_of r) j ≡ true → r.joined < 4 → length r.joins ≡ 4
    → good_record (with_join r j) ≡ true
join_kept r j good fits room long =
    let g = good-record r good in
    make-record (with_join r j)
    (record {
      relations = g.relations;
      coded = g.coded;
      codes = g.codes;
      no-codes = g.no-codes;
      held = g.held;
      dependencies = g.dependencies;
      joined = omega arith;
      joins = used-more r.joined (good_join (schema_of r)) blank_join r.joins j (omega arith) fits g.joins;
      places = g.places;
    })

-- What a place holds afterwards
pub place_read : (r : Record) (place : ℕ) (p z : Place) → place < length r.places → get_or (with_place r place p).places place z ≡ p
place_read r place p z h = get_or-set_same r.places place p z h
