-- What a reduction gives, from what the chase, the loss of rows and the search for a mapping promise:
--   1. the shortened query, 2. the record with it, 3. the refusals in their order.
-- The theorems are the theory's `Reduction`. Assumes nothing.
use Rattle.std.proofs.Common.{◌≡◌, ℕ, ◌*◌, ◌<◌, ◌≤◌, Bool, true, false, ltb, List, [], ◌∷◌, map, length, take, replicate, sym, refl, ap, ◌∙◌, subst, subst₂, arith, le-ltb, lt-ltb}
use mathlib.Core.Option.{none, some}
use Rattle.query.specs.Types.{Query}
use Rattle.query.specs.declared.Dependency.{Dependency}
use Rattle.query.specs.declared.Cell.{Cell}
use Rattle.query.specs.declared.Place.{Place}
use Rattle.record.specs.declared.Record.{Record}
use Rattle.std.specs.Prelude.{Ok}
use Rattle.query.specs.View.{query_of, as_query, dependency_of, images_of}
use Rattle.record.specs.View.{schema_of, codes_of, dependencies_of}
use Rattle.lists.specs.Tests.{every, between}
use Rattle.query.specs.Rule.{good_dependency, blank_dependency, good_query, head_safe, no_cell, no_place, place_with, shaped_for}
use Rattle.record.specs.Rule.{good_record}
use Rattle.refusals.specs.Refusals.{first_holding, refused, gives}
use Rattle.record.specs.Calls.{unknown_place, vacant, is_filled, with_place, stored_at}
use Rattle.record.specs.internal.Lookup.{place_at, filled_place, vacant_place}
use Rattle.lists.proofs.Tests.{used-good}
use Rattle.record.proofs.Good.{good-record}
use Rattle.query.proofs.Good.{good-query}
use Rattle.query.proofs.Shape.{SizedFor}
use Rattle.query.proofs.Stored.{well-formed}
use Rattle.record.proofs.Kept.{filled-place, place_kept, place_read}
use Rattle.refusals.proofs.Refusals.{reply-refused}
use Rattle.record.proofs.Refusals.{filled_at, vacant-at, place-refused, vacant-refused}
use Rattle.chase.specs.declared.Chased.{Chased}
use Rattle.chase.specs.internal.Outcome.{IsChased}
use Rattle.chase.proofs.Callers.{good-widths, width-le}
use Rattle.tableaux.specs.internal.Tableaux.{tableau_of, stored_of}
use Rattle.tableaux.proofs.Tableaux.{tableau-query, stored-query, stored-good}
use Rattle.theory.specs.Query as theory
use Rattle.theory.specs.Query.{WellFormed, variables_of, row_entries, ◌∈◌}
use Rattle.theory.specs.Answer.{IsMapping, Mapping}
use Rattle.theory.specs.Chase.{chase}
use Rattle.theory.specs.Database as database
use Rattle.theory.specs.Codes.{CodePair, read_query, QueryWithoutOld}
use Rattle.theory.proofs.Theorems.{a-current-query-stays}
use Rattle.minimization.proofs.Theorems.{a-result-is-current, reduced-minimal-as-read}
use Rattle.record.specs.Calls.{query_at}
use Rattle.record.specs.internal.Reading.{ReadAs}
use Rattle.record.proofs.Reading.{read-current}
use Rattle.minimization.specs.Reduction.{Reduction}
use Rattle.minimization.specs.Kept.{core_of, reduced}
use Rattle.minimization.proofs.Kept.{reduced-reduction}
use Rattle.query.specs.Stored.{stored_form}
use Rattle.query.proofs.Meaning.{stored-back}
use Rattle.theory.proofs.Carry.{mapping-target}
use Rattle.theory.proofs.Chase.{chase-count-le}
use Rattle.theory.proofs.Lists.{subset-of}
use Rattle.minimization.proofs.Reduction.{reduction-answers, reduction-mapping, reduction-wellformed}
use Rattle.std.specs.Prelude.{Option as Maybe, Some, None, unwrap_or}
use Rattle.reduction.specs.declared.Shortened.{Shortened}
use Rattle.reduction.specs.declared.Reduced.{Reduced}
use Rattle.mapping.specs.internal.Mapped.{IsMapped}
use Rattle.query_core.specs.internal.CoreOf.{IsCoreOf}
use Rattle.reduction.specs.Reduced.{reduced_reply, refused_reduction, reduction_refusal, ReducesTo, IsReduced, ShortFormStored}
use Rattle.reduction.specs.internal.Steps.{Shortenable, IsShortened, Reducible}

-- ---- 1. the shortened query

-- The chase of the tableau of a query, as a stored query again
module _ (schema : List ℕ) (widths : every (between 1 8) schema ≡ true) (dependencies : List Dependency) (q : Query) (sized : SizedFor 12 q)
    (good : good_query schema q ≡ true) (chased : Chased) (is : IsChased schema dependencies (tableau_of q) chased)
    (room : SizedFor 24 (as_query chased.query)) where
  same_source : query_of schema (as_query (tableau_of q)) ≡ query_of schema q
  same_source = tableau-query schema q sized good (width-le schema widths)

  fits-12 : chased.query.size ≤ 12
  fits-12 = omega (arith, is.no-more-rows, (good-query 12 schema q good).size)

  -- It is the chased query
  pub chased-query : query_of schema (stored_of chased.query) ≡ (chase (map dependency_of dependencies) (query_of schema q)).query
  chased-query =
      stored-query schema chased.query room fits-12 (width-le schema widths) ∙ is.query-is
      ∙ ap (λ (x : theory.Query). (chase (map dependency_of dependencies) x).query) same_source

  pub chased-counted : chased.count ≡ (chase (map dependency_of dependencies) (query_of schema q)).count
  chased-counted = is.count-is ∙ ap (λ (x : theory.Query). (chase (map dependency_of dependencies) x).count) same_source

  pub chased-good : good_query schema (stored_of chased.query) ≡ true
  chased-good = stored-good schema chased.query room fits-12 is.good

-- The images of a mapping that was looked for: constant 0 of each variable where there is none
abbrev pub images_found : Maybe (List Cell) → List Cell
images_found mapped = unwrap_or mapped (replicate 96 no_cell)

-- A search that must find a mapping finds it
found-mapping : {S T : theory.Query} (mapped : Maybe (List Cell)) → IsMapped S T mapped → Mapping S T → IsMapping S T (images_of (images_found mapped))
found-mapping (Some images) is m = is
found-mapping None is m = absurd (is m)

-- One that can find none leaves blanks
found_none : (S T : theory.Query) (mapped : Maybe (List Cell)) → IsMapped S T mapped → T.rows ≡ [] → images_found mapped ≡ replicate 96 no_cell
found_none S T (Some images) is empty = absurd (mapping-target S T (images_of images, is) empty)
found_none S T None is empty = refl

pub shortened : (codes : List CodePair) (schema : List ℕ) (ds : List database.Dependency) (q query result : Query) (count : ℕ) (mapped : Maybe (List Cell))
    → every (between 1 8) schema ≡ true → 8 * q.size ≤ length q.cells → good_query schema q ≡ true → head_safe schema q ≡ true
    → QueryWithoutOld codes (query_of schema q) → query_of schema query ≡ (chase ds (query_of schema q)).query → count ≡ (chase ds (query_of schema q)).count → IsCoreOf schema query result
    → IsMapped (query_of schema q) (query_of schema result) mapped
    → IsShortened codes schema ds q (record { query = result; count = count; images = images_found mapped })
unfolding head_safe
shortened codes schema ds q query result count mapped widths long good safe without is counted p m =
    let S = query_of schema q in
    let T = query_of schema result in
    let given : T ≡ reduced ds S = p.view ∙ ap core_of is in
    let result-is : Reduction ds S T = subst (Reduction ds S) (sym given) (reduced-reduction ds S) in
    let well : WellFormed schema S = well-formed 12 schema (width-le schema widths) q good long safe in
    record {
      good = p.good;
      safe = subset-of (variables_of T.head) (variables_of (row_entries T.rows)) (reduction-wellformed schema ds S T well result-is).head-safe;
      reduces = record {
        given = given;
        result = result-is;
        mapping = λ some-rows. found-mapping mapped m (reduction-mapping ds S T result-is some-rows);
        answers = reduction-answers ds S T result-is;
        current = a-result-is-current codes schema ds S T well.rows_fit without result-is;
        minimal = reduced-minimal-as-read codes schema ds S T well.rows_fit without result-is;
        counted = counted;
        count-le = rw counted (chase-count-le ds S);
      };
      no-mapping = found_none S T mapped m;
    }

-- ---- 2. the record with it

module _ (r : Record) (source target : ℕ) (able : Reducible r source target) where
  wide : every (between 1 8) (schema_of r) ≡ true
  wide = good-widths r.relations r.widths (good-record r able.good).relations

  module _ (q : Query) (is : ReadAs r source q) where
    -- The query and the dependencies of the record can be shortened
    pub able-shortenable : Shortenable q (take r.held r.dependencies)
    able-shortenable =
        record {
          schema = schema_of r;
          widths = wide;
          dependencies-good = used-good r.held (good_dependency (schema_of r)) blank_dependency r.dependencies (good-record r able.good).dependencies;
          query-good = is.good;
        }

    -- What is stored meets demand 3
    pub stored-reduced : length r.places ≡ 8 → (s : Shortened) → shaped_for 12 s.query ≡ true
        → ((codes : List CodePair) (schema : List ℕ) → every (between 1 8) schema ≡ true → good_query schema q ≡ true → head_safe schema q ≡ true
        → QueryWithoutOld codes (query_of schema q) → IsShortened codes schema (dependencies_of r) q s)
        → ShortFormStored r source target
        (record { answer = Ok tt; «record» = with_place r target (place_with s.query); count = s.count; images = s.images })
    stored-reduced long s shaped tells =
        let codes = codes_of r in
        let schema = schema_of r in
        let after = with_place r target (place_with s.query) in
        let told : IsShortened codes schema (dependencies_of r) q s =
        tells codes schema wide is.good is.safe (subst (QueryWithoutOld codes) (sym is.query) (read-current r able.good source))
        in
        -- the target place holds the shortened query, which is read as it stands
        let held : stored_at after target ≡ s.query =
        ap (λ (p : Place). p.query) (place_read r target (place_with s.query) no_place (omega (arith, able.target-low)))
        in
        let read : query_at after target ≡ query_of schema s.query =
        ap (λ (x : Query). read_query codes (query_of schema x)) held ∙ a-current-query-stays codes (query_of schema s.query) told.reduces.current
        in
        record {
          done = refl;
          stored =
              ap (λ (x : Query). with_place r target (place_with x))
              (sym (stored-back 12 schema (width-le schema wide) s.query shaped told.good)
              ∙ ap (stored_form 12) (told.reduces.given ∙ ap (reduced (dependencies_of r)) is.query));
          good = place_kept r target (place_with s.query) able.good (filled-place schema s.query told.good told.safe);
          reduces =
              subst₂ (λ (S T : theory.Query). ReducesTo codes schema (dependencies_of r) S T s.count (images_of s.images)) is.query (sym read) told.reduces;
          as-stored = read ∙ ap (query_of schema) (sym held);
          no-mapping = λ empty. told.no-mapping (ap (λ (x : theory.Query). x.rows) (sym read) ∙ empty);
        }

-- ---- 3. the refusals in their order

-- A refused call
refused-with : (r : Record) (source target n : ℕ) (o : Reduced) → reduction_refusal r source target ≡ some n → reduced_reply o ≡ refused_reduction r n
    → IsReduced r source target o
refused-with r source target n o refuses is =
    record {
      refused = λ m e. let same : n ≡ m = cc in is ∙ ap (refused_reduction r) same;
      accepted = λ e. absurd (never e);
    }
  where
    never : reduction_refusal r source target ≡ none → ⊥
    never e = let z : ◌≡◌ {A = ℕ} 0 1 = cc in omega arith

module _ (r : Record) (source target : ℕ) (o : Reduced) where
  pub reduce-broken : good_record r ≡ false → reduced_reply o ≡ refused_reduction r 14 → IsReduced r source target o
  unfolding reduction_refusal first_holding
  reduce-broken e = refused-with r source target 14 o (rw e)

  module _ (good : good_record r ≡ true) where
    high-target : 8 ≤ target → (b : Bool) → ltb source 8 ≡ b → reduction_refusal r source target ≡ some 7
    unfolding reduction_refusal first_holding
    high-target h true e = rw (good, e, le-ltb target 8 h)
    high-target h false e = rw (good, e)

    -- A place above 7 has the same number whichever of the two it is
    pub reduce-high : (n : ℕ) → place_at target ≡ refused n → reduced_reply o ≡ refused_reduction r n → IsReduced r source target o
    reduce-high n e =
        let f = place-refused target n e in
        refused-with r source target n o (high-target f.0 (ltb source 8) refl ∙ ap some (sym f.1))

    module _ (low : target < 8) where
      source-refuses : (n : ℕ) (b f : Bool) → ltb source 8 ≡ b → is_filled r source ≡ f → first_holding (unknown_place source ∷ vacant r source ∷ []) ≡ some n
          → reduction_refusal r source target ≡ some n
      unfolding reduction_refusal first_holding
      source-refuses n true true e f given =
          let z : none ≡ some n = rw (e, f) at given in
          let y : ◌≡◌ {A = ℕ} 0 1 = cc in
          absurd (omega arith)
      source-refuses n true false e f given = rw (good, e, f, lt-ltb target 8 low) (rw (e, f) at given)
      source-refuses n false f e is given = rw (good, e) (rw e at given)

      pub reduce-source : (n : ℕ) → filled_place r source ≡ refused n → reduced_reply o ≡ refused_reduction r n → IsReduced r source target o
      reduce-source n e =
          refused-with r source target n o
          (source-refuses n (ltb source 8) (is_filled r source) refl refl (reply-refused (first_holding (unknown_place source ∷ vacant r source ∷ [])) source n e))

      pub reduce-target : (from n : ℕ) → filled_place r source ≡ gives from → vacant_place r target ≡ refused n → reduced_reply o ≡ refused_reduction r n
          → IsReduced r source target o
      unfolding reduction_refusal first_holding
      reduce-target from n at e =
          let f = filled_at r source from at in
          let g = vacant-refused r target n low e in
          let refuses : reduction_refusal r source target ≡ some n = rw (good, lt-ltb source 8 f.1, lt-ltb target 8 low, f.2, g.0, g.1) in
          refused-with r source target n o refuses

      accepted-none : (from to : ℕ) → filled_place r source ≡ gives from → vacant_place r target ≡ gives to → reduction_refusal r source target ≡ none
      unfolding reduction_refusal first_holding
      accepted-none from to at free =
          let f = filled_at r source from at in
          let g = vacant-at r target to free in
          rw (good, lt-ltb source 8 f.1, lt-ltb target 8 low, f.2, g.2)

      -- An accepted call
      pub reduce-done : (from to : ℕ) → filled_place r source ≡ gives from → vacant_place r target ≡ gives to → ShortFormStored r from to o
          → IsReduced r source target o
      reduce-done from to at free stored =
          let accepts : reduction_refusal r source target ≡ none = accepted-none from to at free in
          let is : ShortFormStored r source target o =
          subst₂ (λ (p q : ℕ). ShortFormStored r p q o) (filled_at r source from at).0 (vacant-at r target to free).0 stored
          in
          record {
            refused = λ m e. let z : ◌≡◌ {A = ℕ} 0 1 = cc in absurd (omega arith);
            accepted = λ e. is;
          }

-- What the lookups tell of an accepted call
pub able : (r : Record) (source target from to : ℕ) → good_record r ≡ true → filled_place r source ≡ gives from → vacant_place r target ≡ gives to
    → Reducible r from to
able r source target from to good at free =
    let f = filled_at r source from at in
    let g = vacant-at r target to free in
    record {
      good = good;
      source-low = omega (arith, f.0, f.1);
      target-low = omega (arith, g.0, g.1);
      source-filled = ap (is_filled r) f.0 ∙ f.2;
    }
