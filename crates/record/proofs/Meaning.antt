-- What the calls' equations come to: the statements of `specs/Meaning`. Assumes nothing.
use mathlib.Core.Path.{◌≡◌, refl, ap, ◌∙◌}
use mathlib.Core.Bool.{Bool, true, not}
use mathlib.Core.List.{List, [], ◌∷◌, ◌++◌, map, map-append}
use mathlib.Core.Option.{Option, none, some}
use Prim.Native.Nat.{ℕ, ◌+◌, ◌<◌}
use native.Mathlib.Numerals.{add-one}
use native.Mathlib.Omega.{arith}
use lib.ListN.{length, take, set}
use lib.Seq.{take-suc-set}
use lib.Dec.{eqb}
use borrow.Author.Tests.{eqb-false, not-false}
use Rattle.query.specs.declared.Dependency.{Dependency}
use Rattle.query.specs.declared.JoinDependency.{JoinDependency}
use Rattle.query.specs.declared.CodePair.{CodePair}
use Rattle.query.specs.View.{dependency_of, join_of, pair_of}
use Rattle.query.specs.Rule.{pair_fits, good_dependency, good_join, good_query, head_safe, place_with}
use Rattle.refusals.specs.Refusals.{first_holding, gives}
use Rattle.refusals.proofs.Refusals.{none-holds, refused-gives}
use Rattle.record.specs.declared.Record.{Record}
use Rattle.record.specs.View.{schema_of, codes_of, dependencies_of, joins_of}
use Rattle.record.specs.Rule.{good_record}
use Rattle.record.specs.Calls.{concluded, broken_record, unknown_place, filled, with_place, with_code, with_dependency, with_join, add_code_conditions, add_code, add_conditions, add_dependency, add_join_conditions, add_join, put_query}
use Rattle.record.specs.Meaning.{AddCodeKeeps, AddCodeHolds, CodesStay, OldCodesRead, OldBelow, AddKeeps, AddHolds, AddJoinKeeps, AddJoinHolds, PutKeeps}
use Rattle.query.proofs.Pairs.{current-stays, old-limit, each-read}
use Rattle.record.proofs.Good.{good-record}
use Rattle.record.proofs.Kept.{filled-place, place_kept, code-kept, dependency-kept, join_kept}

-- ---- accepted calls keep the rule, and what is added is held

-- One element more is in use, after those that were
one-more : {A B : Type 0} (f : A → B) (xs : List A) (n : ℕ) (x : A) → n < length xs → map f (take (n + 1) (set xs n x)) ≡ map f (take n xs) ++ f x ∷ []
one-more f xs n x h = ap (λ k. map f (take k (set xs n x))) (add-one n) ∙ ap (map f) (take-suc-set xs n x h) ∙ map-append f (take n xs) (x ∷ [])

-- What holds of the record after an accepted call holds of the call's outcome
pub accepted : (P : Record → Type 0) (o : Option ℕ) (given after : Record) → (concluded o given after).0 ≡ gives tt
    → (o ≡ none → P after) → P (concluded o given after).1
accepted P none given after e then = then refl
accepted P (some n) given after e then = absurd (refused-gives e)

-- A record that 14 passes
abbrev pub Good : Record → Type 0
Good r = good_record r ≡ true

-- Where adding is done the record is good, what is added is good, and there is room
addable : (good fit : Bool) (held most k l : ℕ) → first_holding ((not good, 14) ∷ (not fit, k) ∷ (eqb held most, l) ∷ []) ≡ none
    → (good ≡ true) × (fit ≡ true) × (held ≡ most → ⊥)
addable good fit held most k l clear =
    let a = none-holds (not good) 14 ((not fit, k) ∷ (eqb held most, l) ∷ []) clear in
    let b = none-holds (not fit) k ((eqb held most, l) ∷ []) a.1 in
    (not-false good a.0, not-false fit b.0, eqb-false held most (none-holds (eqb held most) l [] b.1).0)

-- Add a pair of codes
module _ (r : Record) (p : CodePair) (clear : first_holding (add_code_conditions r p) ≡ none) where
  may-code : Good r × (pair_fits (take r.coded r.codes) p ≡ true) × (r.coded < 16)
  may-code =
      let may = addable (good_record r) (pair_fits (take r.coded r.codes) p) r.coded 16 18 19 clear in
      let few = may.2 in
      let most = (good-record r may.0).coded in
      (may.0, may.1, omega arith)

pub add-code-keeps : AddCodeKeeps
unfolding add_code
add-code-keeps r p long e =
    accepted Good (first_holding (add_code_conditions r p)) r (with_code r p) e
    (λ clear. let may = may-code r p clear in code-kept r p may.0 may.1 may.2 long)

pub add-code-holds : AddCodeHolds
unfolding add_code
add-code-holds r p long e =
    accepted (λ after. codes_of after ≡ codes_of r ++ pair_of p ∷ []) (first_holding (add_code_conditions r p)) r (with_code r p) e
    (λ clear. let room = (may-code r p clear).2 in one-more pair_of r.codes r.coded p (omega arith))

pub codes-stay : CodesStay
codes-stay r good = current-stays (take r.coded r.codes) (good-record r good).codes

pub old-codes-read : OldCodesRead
old-codes-read r good = each-read (take r.coded r.codes) (good-record r good).codes

pub old-below : OldBelow
old-below r good = old-limit (take r.coded r.codes) (good-record r good).codes

-- Add a functional dependency
module _ (r : Record) (d : Dependency) (clear : first_holding (add_conditions r d) ≡ none) where
  may-add : Good r × (good_dependency (schema_of r) d ≡ true) × (r.held < 32)
  may-add =
      let may = addable (good_record r) (good_dependency (schema_of r) d) r.held 32 4 13 clear in
      let few = may.2 in
      let most = (good-record r may.0).held in
      (may.0, may.1, omega arith)

pub add-keeps : AddKeeps
unfolding add_dependency
add-keeps r d long e =
    accepted Good (first_holding (add_conditions r d)) r (with_dependency r d) e
    (λ clear. let may = may-add r d clear in dependency-kept r d may.0 may.1 may.2 long)

pub add-holds : AddHolds
unfolding add_dependency
add-holds r d long e =
    accepted (λ after. dependencies_of after ≡ dependencies_of r ++ dependency_of d ∷ []) (first_holding (add_conditions r d)) r (with_dependency r d) e
    (λ clear. let room = (may-add r d clear).2 in one-more dependency_of r.dependencies r.held d (omega arith))

-- Add a join dependency
module _ (r : Record) (j : JoinDependency) (clear : first_holding (add_join_conditions r j) ≡ none) where
  may-join : Good r × (good_join (schema_of r) j ≡ true) × (r.joined < 4)
  may-join =
      let may = addable (good_record r) (good_join (schema_of r) j) r.joined 4 15 16 clear in
      let few = may.2 in
      let most = (good-record r may.0).joined in
      (may.0, may.1, omega arith)

pub add-join-keeps : AddJoinKeeps
unfolding add_join
add-join-keeps r j long e =
    accepted Good (first_holding (add_join_conditions r j)) r (with_join r j) e
    (λ clear. let may = may-join r j clear in join_kept r j may.0 may.1 may.2 long)

pub add-join-holds : AddJoinHolds
unfolding add_join
add-join-holds r j long e =
    accepted (λ after. joins_of after ≡ joins_of r ++ join_of j ∷ []) (first_holding (add_join_conditions r j)) r (with_join r j) e
    (λ clear. let room = (may-join r j clear).2 in one-more join_of r.joins r.joined j (omega arith))

-- Put a query
pub put_keeps : PutKeeps
unfolding put_query
put_keeps r place q e =
    let fit : Bool = good_query (schema_of r) q in
    let safe : Bool = head_safe (schema_of r) q in
    accepted Good (first_holding (broken_record r ∷ unknown_place place ∷ (not fit, 5) ∷ (not safe, 6) ∷ filled r place ∷ [])) r
    (with_place r place (place_with q)) e
    (λ clear.
    let a = none-holds (broken_record r).0 14 (unknown_place place ∷ (not fit, 5) ∷ (not safe, 6) ∷ filled r place ∷ []) clear in
    let b = none-holds (unknown_place place).0 7 ((not fit, 5) ∷ (not safe, 6) ∷ filled r place ∷ []) a.1 in
    let c = none-holds (not fit) 5 ((not safe, 6) ∷ filled r place ∷ []) b.1 in
    let d = none-holds (not safe) 6 (filled r place ∷ []) c.1 in
    place_kept r place (place_with q) (not-false (good_record r) a.0)
    (filled-place (schema_of r) q (not-false fit c.0) (not-false safe d.0)))
