-- Each call's definition by the test that decides it: what the code has shown when it answers.
use mathlib.Core.Path.{◌≡◌, refl, sym, ap, ap₂, subst, ◌∙◌}
use mathlib.Core.Bool.{Bool, true, false, not, ◌&&◌}
use mathlib.Core.List.{List, [], ◌∷◌, ◌++◌}
use mathlib.Core.Option.{Option, none, some}
use Prim.Native.Nat.{ℕ, ◌-◌, ◌^◌, ◌<◌}
use native.Mathlib.Omega.{arith}
use native.Mathlib.Nat.{lt_of_lt_of_le}
use lib.Dec.{leb}
use lib.Count.{ones}
use lib.ListN.{length, take, get_or, replicate}
use lib.Seq.{take-append_seam, drop-append_seam}
use borrow.Author.Tests.{lt-ltb, lt-leb}
use Rattle.lists.specs.Tests.{between, every, is_zero}
use Rattle.lists.proofs.Tests.{every-replicate, every-weaken, used-good}
use Rattle.theory.specs.Database as database
use Rattle.theory.specs.Query.{◌∈◌}
use Rattle.determination.specs.Determined.{determined}
use Rattle.query.specs.View.{columns_of, mask_of}
use Rattle.query.specs.Rule.{all_fit, good_set, blank_dependency, good_relations, good_dependency, good_place, no_place}
use Rattle.query.proofs.Good.{good-dependency, good-set}
use Rattle.closure.specs.internal.Closure.{grow_mask, right_narrow}
use Rattle.closure.proofs.Closure.{held-length, determined-mask, determined-count}
use Rattle.refusals.specs.Refusals.{first_holding, refused, gives}
use Rattle.refusals.proofs.Refusals.{first_goes, reply-refused}
use Rattle.record.specs.declared.Record.{Record}
use Rattle.record.specs.View.{schema_of, dependencies_of}
use Rattle.record.specs.Rule.{good_record}
use Rattle.record.specs.Calls.{concluded, broken_record, unknown_place, vacant, with_place}
use Rattle.record.specs.internal.Lookup.{filled_place}
use Rattle.record.proofs.Good.{good-record, make-record}
use Rattle.record.proofs.Stored.{narrow}
use Rattle.record.proofs.Fitting.{dependencies-fit}
use Rattle.record.proofs.Kept.{empty-place}
use Rattle.record.proofs.Refusals.{filled_at}
use Rattle.record_calls.specs.Calls.{blank_record, empty_record, open_record, drop_query, determined_columns}

-- ---- open

and-true-right : (b : Bool) → b && true ≡ b
and-true-right true = refl
and-true-right false = refl

and-false-right : (b : Bool) → b && false ≡ false
and-false-right true = refl
and-false-right false = refl

-- Padded widths are good exactly when there are 1 to 8, each 1 to 8
pub widths-judged : (widths : List ℕ) (k : ℕ)
    → good_relations (length widths) (widths ++ replicate k 0) ≡ between 1 8 (length widths) && every (between 1 8) widths
unfolding good_relations
widths-judged widths k =
    rw (
      take-append_seam widths (replicate k 0),
      drop-append_seam widths (replicate k 0),
      every-replicate is_zero k 0 refl,
      and-true-right (every (between 1 8) widths),
    )

module _ (widths : List ℕ) where
  pub open-many : 8 < length widths → concluded (some 3) blank_record blank_record ≡ open_record widths
  unfolding open_record first_holding
  open-many h = rw (lt-leb (length widths) 8 h, and-false-right (leb 1 (length widths)))

  pub open-unfit : good_relations (length widths) (widths ++ replicate (8 - length widths) 0) ≡ false
      → concluded (some 3) blank_record blank_record ≡ open_record widths
  unfolding open_record first_holding
  open-unfit e = rw (sym (widths-judged widths (8 - length widths)) ∙ e)

  pub open_done : good_relations (length widths) (widths ++ replicate (8 - length widths) 0) ≡ true
      → (r : Record) → r ≡ empty_record (length widths) (widths ++ replicate (8 - length widths) 0) → concluded none r r ≡ open_record widths
  unfolding open_record first_holding
  open_done e r is = rw (sym (widths-judged widths (8 - length widths)) ∙ e, is)

-- A record just opened
pub opened-good : (relations : ℕ) (widths : List ℕ) → good_relations relations widths ≡ true → good_record (empty_record relations widths) ≡ true
unfolding every all_fit
opened-good relations widths good =
    make-record (empty_record relations widths)
    (record {
      relations = good;
      coded = omega arith;
      codes = refl;
      no-codes = refl;
      held = omega arith;
      dependencies = refl;
      joined = omega arith;
      joins = refl;
      places = every-replicate (good_place (take relations widths)) 8 no_place (empty-place (take relations widths));
    })

-- ---- drop

module _ (r : Record) (place : ℕ) where
  pub drop-broken : good_record r ≡ false → concluded (some 14) r r ≡ drop_query r place
  unfolding drop_query first_holding
  drop-broken e = rw e

  module _ (good : good_record r ≡ true) where
    past : first_holding (broken_record r ∷ unknown_place place ∷ vacant r place ∷ []) ≡ first_holding (unknown_place place ∷ vacant r place ∷ [])
    past = first_goes (not (good_record r)) 14 (unknown_place place ∷ vacant r place ∷ []) (ap not good)

    pub drop-refused : (n : ℕ) → filled_place r place ≡ refused n → concluded (some n) r r ≡ drop_query r place
    unfolding drop_query
    drop-refused n e =
        ap (λ (o : Option ℕ). concluded o r (with_place r place no_place))
        (sym (past ∙ reply-refused (first_holding (unknown_place place ∷ vacant r place ∷ [])) place n e))

    pub drop-done : (at : ℕ) → filled_place r place ≡ gives at → concluded none (with_place r at no_place) (with_place r at no_place) ≡ drop_query r place
    unfolding drop_query first_holding
    drop-done at e =
        let f = filled_at r place at e in
        rw (good, lt-ltb place 8 f.1, f.2, f.0)

-- ---- determined columns

-- The right columns of the held dependencies are among 8
pub rights-narrow : (r : Record) → good_record r ≡ true → every right_narrow (take r.held r.dependencies) ≡ true
rights-narrow r good =
    every-weaken (good_dependency (schema_of r)) right_narrow
    (λ d e. lt-ltb d.right 8 (lt_of_lt_of_le (good-dependency (schema_of r) d e).right (narrow r good d.relation)))
    (take r.held r.dependencies)
    (used-good r.held (good_dependency (schema_of r)) blank_dependency r.dependencies (good-record r good).dependencies)

module _ (r : Record) (relation left : ℕ) where
  pub determined-broken : good_record r ≡ false → refused 14 ≡ determined_columns r relation left
  unfolding determined_columns first_holding
  determined-broken e = rw e

  module _ (good : good_record r ≡ true) where
    pub determined-unfit : good_set (schema_of r) relation left ≡ false → refused 4 ≡ determined_columns r relation left
    unfolding determined_columns first_holding
    determined-unfit e = rw (good, e)

    pub determined-done : good_set (schema_of r) relation left ≡ true → length r.dependencies ≡ 32 → (mask : ℕ)
        → mask ≡ grow_mask r.held (dependencies_of r) relation left → gives (mask, ones mask) ≡ determined_columns r relation left
    unfolding determined_columns first_holding
    determined-done fit long mask e =
        let w : ℕ = get_or (schema_of r) relation 0 in
        let ds : List database.Dependency = dependencies_of r in
        let fits : (d : database.Dependency) → d ∈ ds → d.relation ≡ relation → d.right < w =
        λ d at same. subst (λ (k : ℕ). d.right < get_or (schema_of r) k 0) same (dependencies-fit r good d at).right
        in
        let within : left < 2 ^ w = (good-set (schema_of r) relation left fit).within in
        let looks : length ds ≡ r.held = held-length r.held r.dependencies (omega (arith, (good-record r good).held)) in
        let is : mask ≡ grow_mask (length ds) ds relation left = e ∙ ap (λ (n : ℕ). grow_mask n ds relation left) (sym looks) in
        let set : mask ≡ mask_of (determined ds relation w (columns_of left)) = is ∙ sym (determined-mask ds relation w fits (narrow r good relation) left within)
        in
        let count : ones mask ≡ length (determined ds relation w (columns_of left)) =
        ap ones is ∙ sym (determined-count ds relation w fits (narrow r good relation) left within)
        in
        rw (good, fit) (ap₂ (λ (m n : ℕ). gives (m, n)) set count)
