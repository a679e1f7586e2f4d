-- What the calls' equations come to: the statements of `specs/Meaning`. Assumes nothing.
use mathlib.Core.Path.{◌≡◌, refl, sym, ap, subst, ◌∙◌}
use mathlib.Core.Logic.{◌↔◌}
use mathlib.Core.Bool.{Bool, true, not, ◌&&◌}
use mathlib.Core.List.{List, [], ◌∷◌, ◌++◌}
use mathlib.Core.Option.{Option, none}
use Prim.Native.Nat.{ℕ, ◌+◌, ◌-◌, ◌^◌, ◌<◌}
use native.Mathlib.Nat.{lt_of_lt_of_le}
use native.Mathlib.Omega.{arith}
use lib.ListN.{length, get_or, replicate}
use lib.Pow.{pow_mono}
use borrow.Author.Tests.{not-false}
use Rattle.lists.specs.Tests.{between, every}
use Rattle.theory.specs.Query.{member, ◌∈◌}
use Rattle.theory.specs.Database as database
use Rattle.theory.proofs.Lists.{member-mem, mem-member}
use Rattle.determination.specs.Determined.{Determined, determined}
use Rattle.determination.proofs.Determined.{determined-exact}
use Rattle.query.specs.View.{columns_from, columns_of, mask_of}
use Rattle.query.specs.Rule.{good_set, good_relations, no_place}
use Rattle.query.proofs.Good.{good-set}
use Rattle.closure.specs.internal.Closure.{grow_mask}
use Rattle.closure.proofs.Masks.{same-columns, columns-member, columns-count}
use Rattle.closure.proofs.Closure.{is-columns, determined-mask, grow-lt}
use Rattle.refusals.specs.Refusals.{first_holding, gives, reply}
use Rattle.refusals.proofs.Refusals.{none-holds, reply-gives}
use Rattle.record.specs.declared.Record.{Record}
use Rattle.record.specs.View.{schema_of, dependencies_of}
use Rattle.record.specs.Rule.{good_record}
use Rattle.record.specs.Calls.{broken_record, unknown_place, vacant, with_place}
use Rattle.record.proofs.Stored.{narrow}
use Rattle.record.proofs.Fitting.{dependencies-fit}
use Rattle.record.proofs.Kept.{empty-place, place_kept}
use Rattle.record.proofs.Meaning.{accepted, Good}
use Rattle.record_calls.specs.Calls.{blank_record, empty_record, open_record, drop_query, determined_columns}
use Rattle.record_calls.specs.Meaning.{OpenKeeps, DropKeeps, BlankBroken, DeterminedMeans}
use Rattle.record_calls.proofs.Outcomes.{widths-judged, opened-good}

-- ---- accepted calls keep the rule

-- Open
pub open-keeps : OpenKeeps
unfolding open_record
open-keeps widths e =
    let fit : Bool = between 1 8 (length widths) && every (between 1 8) widths in
    accepted Good (first_holding ((not fit, 3) ∷ [])) blank_record (empty_record (length widths) (widths ++ replicate (8 - length widths) 0)) e
    (λ clear.
    opened-good (length widths) (widths ++ replicate (8 - length widths) 0)
    (widths-judged widths (8 - length widths) ∙ not-false fit (none-holds (not fit) 3 [] clear).0))

-- Drop a query
pub drop_keeps : DropKeeps
unfolding drop_query
drop_keeps r place e =
    accepted Good (first_holding (broken_record r ∷ unknown_place place ∷ vacant r place ∷ [])) r (with_place r place no_place) e
    (λ clear.
    place_kept r place no_place (not-false (good_record r) (none-holds (broken_record r).0 14 (unknown_place place ∷ vacant r place ∷ []) clear).0)
    (empty-place (schema_of r)))

-- ---- the blank record

-- 14 refuses the blank record
pub blank-broken : BlankBroken
unfolding good_record good_relations
blank-broken = refl

-- ---- determined columns

-- A call that answers with columns was not refused
answered : (o : Option ℕ) (cs : List ℕ) (mask n : ℕ) → reply {A = ℕ × ℕ} o (mask_of cs, length cs) ≡ gives (mask, n)
    → (o ≡ none) × (mask_of cs ≡ mask) × (length cs ≡ n)
answered o cs mask n e =
    let k = reply-gives o (mask_of cs, length cs) (mask, n) e in
    (k.0, ap (λ (x : ℕ × ℕ). x.0) k.1, ap (λ (x : ℕ × ℕ). x.1) k.1)

module _ (r : Record) (relation left : ℕ) (good : good_record r ≡ true) (fit : good_set (schema_of r) relation left ≡ true) where
  narrow-right : (d : database.Dependency) → d ∈ dependencies_of r → d.relation ≡ relation → d.right < get_or (schema_of r) relation 0
  narrow-right d at same = subst (λ (k : ℕ). d.right < get_or (schema_of r) k 0) same (dependencies-fit r good d at).right

  within : left < 2 ^ get_or (schema_of r) relation 0
  within = (good-set (schema_of r) relation left fit).within

  -- The columns as a list and as a mask
  listed : determined (dependencies_of r) relation (get_or (schema_of r) relation 0) (columns_of left)
      ≡ columns_from 0 (get_or (schema_of r) relation 0) (grow_mask (length (dependencies_of r)) (dependencies_of r) relation left)
  listed = is-columns (dependencies_of r) relation (get_or (schema_of r) relation 0) narrow-right (narrow r good relation) left within

  masked : mask_of (determined (dependencies_of r) relation (get_or (schema_of r) relation 0) (columns_of left))
      ≡ grow_mask (length (dependencies_of r)) (dependencies_of r) relation left
  masked = determined-mask (dependencies_of r) relation (get_or (schema_of r) relation 0) narrow-right (narrow r good relation) left within

  below : grow_mask (length (dependencies_of r)) (dependencies_of r) relation left < 2 ^ get_or (schema_of r) relation 0
  below = grow-lt (dependencies_of r) relation (get_or (schema_of r) relation 0) narrow-right (length (dependencies_of r)) left within

  below-256 : grow_mask (length (dependencies_of r)) (dependencies_of r) relation left < 256
  below-256 = lt_of_lt_of_le below (pow_mono (narrow r good relation))

  same-member : (c : ℕ) → member c (columns_of (grow_mask (length (dependencies_of r)) (dependencies_of r) relation left))
      ≡ member c (determined (dependencies_of r) relation (get_or (schema_of r) relation 0) (columns_of left))
  same-member c =
      let m : ℕ = grow_mask (length (dependencies_of r)) (dependencies_of r) relation left in
      let shift : c ≡ 0 + c = omega arith in
      (same-columns m below-256).at c
      ∙ sym
      (ap (member c) listed ∙ ap (λ (k : ℕ). member k (columns_from 0 (get_or (schema_of r) relation 0) m)) shift
      ∙ columns-member (get_or (schema_of r) relation 0) 0 m c below)

  same_length : length (columns_of (grow_mask (length (dependencies_of r)) (dependencies_of r) relation left))
      ≡ length (determined (dependencies_of r) relation (get_or (schema_of r) relation 0) (columns_of left))
  same_length =
      let m : ℕ = grow_mask (length (dependencies_of r)) (dependencies_of r) relation left in
      columns-count 8 0 m below-256 ∙ sym (ap length listed ∙ columns-count (get_or (schema_of r) relation 0) 0 m below)

-- The columns answered are the relation's columns that the left set determines
pub determined-means : DeterminedMeans
unfolding determined_columns
determined-means r relation left mask n e =
    let cs : List ℕ = determined (dependencies_of r) relation (get_or (schema_of r) relation 0) (columns_of left) in
    let a = answered (first_holding (broken_record r ∷ (not (good_set (schema_of r) relation left), 4) ∷ [])) cs mask n e in
    let b = none-holds (broken_record r).0 14 ((not (good_set (schema_of r) relation left), 4) ∷ []) a.0 in
    let good : good_record r ≡ true = not-false (good_record r) b.0 in
    let fit : good_set (schema_of r) relation left ≡ true =
    not-false (good_set (schema_of r) relation left) (none-holds (not (good_set (schema_of r) relation left)) 4 [] b.1).0
    in
    let is : grow_mask (length (dependencies_of r)) (dependencies_of r) relation left ≡ mask = sym (masked r relation left good fit) ∙ a.1 in
    let exact : (c : ℕ) → (c ∈ cs) ↔ Determined (schema_of r) (dependencies_of r) relation (columns_of left) c =
    determined-exact (schema_of r) (dependencies_of r) (dependencies-fit r good) relation (good-set (schema_of r) relation left fit).relation-known
    (columns_of left)
    in
    let same : (c : ℕ) → member c (columns_of mask) ≡ member c cs =
    λ c. ap (λ (k : ℕ). member c (columns_of k)) (sym is) ∙ same-member r relation left good fit c
    in (
      (λ c. (
        (λ at. (exact c).0 (member-mem c cs (sym (same c) ∙ mem-member c (columns_of mask) at))),
        λ p. member-mem c (columns_of mask) (same c ∙ mem-member c cs ((exact c).1 p)),
      )),
      sym a.2 ∙ sym (same_length r relation left good fit) ∙ ap (λ (k : ℕ). length (columns_of k)) is,
    )
