-- Containment under both kinds: the theorem over a class of databases (`Containment` of the theory) for the databases that are legal for both. The chased
-- query keeps the answers there and, read as a database, is one of them. Of the databases that obey both and need not fit the schema it keeps the answers.
-- Assumes nothing.
use mathlib.Core.Path.{◌≡◌, refl, sym, ◌∙◌, ap, subst}
use mathlib.Core.Logic.{◌⊎◌, inl, inr}
use mathlib.Core.Bool.{true, false, true≢false}
use mathlib.Core.List.{List, []}
use mathlib.Core.Option.{none, some, none-ne-some, some-injective}
use Prim.Native.Nat.{ℕ}
use native.Mathlib.Omega.{arith}
use Rattle.theory.specs.Query.{Query}
use Rattle.theory.specs.Database.{Dependency, JoinDependency}
use Rattle.theory.specs.Answer.{Mapping}
use Rattle.theory.specs.Containment.{frozen_rows, frozen_head}
use Rattle.theory.proofs.Lists.{bool_cases}
use Rattle.theory.proofs.Containment.{contained-over, contained-over-of-mapping, counterexample-over}
use Rattle.minimization.specs.Search.{contained_on}
use Rattle.theory.proofs.Codes.{frozen-current}
use Rattle.minimization.proofs.Search.{both_below, both_below_codes, contained_on-mapping}
use Rattle.minimization.proofs.Theorems.{counterexample-refutes}
use Rattle.joins.specs.Join.{ObeysBoth, LegalForBoth, LegalForBothAsRead, JoinsFit}
use Rattle.joins.specs.JoinChase.{Outcome, chased, overflow, JoinChases}
use Rattle.joins.specs.JoinChase.{join_chase, contained_in, join_contained}
use Rattle.joins.specs.JoinTheorems as joins
use Rattle.joins.proofs.JoinChase.{joins-computed, joins-unique, joins-answers, joins-rows-fit, joins-constants}
use Rattle.joins.proofs.JoinChase.{joins-complete, complete-legal, joins-current}

-- What `join_chase` computes is the chase, and there is no other
pub chase-computed : joins.JoinChaseComputes
chase-computed widths ds js limit q outcome fit = (
  λ c. joins-unique widths ds js limit (joins-computed widths ds js limit fit q) c,
  λ same. subst (JoinChases widths ds js limit q) same (joins-computed widths ds js limit fit q),
)

-- ---- the chased query stands for the query

-- Read as a database it is legal for both kinds
pub chased-legal : joins.JoinChasedLegal
chased-legal widths ds js limit q result base fit c fits positive below =
    complete-legal widths ds js fit result base (joins-complete c) (joins-rows-fit fit c fits) positive (joins-constants fit base positive c below)

pub chased-stands : joins.JoinChasedStands
chased-stands widths ds js limit q result base fit c fits positive below = record {
  answers = λ D legal. joins-answers fit c D legal.obeys;
  frozen = λ nonempty. chased-legal widths ds js limit q result base fit c fits positive below;
  below = joins-constants fit base positive c below;
}

-- ---- containment

pub contained-exact : joins.JoinContainedExactly
contained-exact widths ds js limit p q result fit c fits =
    let common = both_below p q in
    contained-over (LegalForBoth widths ds js) common.0 p q result
    (chased-stands widths ds js limit p result common.0 fit c fits common.1 common.2) common.3

pub contained-obeying : joins.JoinContainedObeying
contained-obeying widths ds js limit p q result fit c = contained-over-of-mapping (ObeysBoth widths ds js) p q result (joins-answers fit c)

pub chased-counterexample : joins.JoinChasedCounterexample
chased-counterexample widths ds js limit p q result base fit c fits below_p below_q positive =
    counterexample-over (LegalForBoth widths ds js) base p q result
    (chased-stands widths ds js limit p result base fit c fits positive below_p) below_q

-- ---- without old codes

pub chased-stands-as-read : joins.JoinChasedStandsAsRead
chased-stands-as-read ps widths ds js limit q result base fit c fits without positive below codes = record {
  answers = λ D within. joins-answers fit c D within.legal.obeys;
  frozen = λ nonempty. record {
    legal = chased-legal widths ds js limit q result base fit c fits positive below;
    current = frozen-current ps base result codes (joins-current fit ps c fits without);
  };
  below = joins-constants fit base positive c below;
}

pub contained-exact-as-read : joins.JoinContainedExactlyAsRead
contained-exact-as-read ps widths ds js limit p q result fit c fits without =
    let common = both_below_codes ps p q in
    contained-over (LegalForBothAsRead ps widths ds js) common.0 p q result
    (chased-stands-as-read ps widths ds js limit p result common.0 fit c fits without common.1 common.2 common.4) common.3

pub chased-counterexample-as-read : joins.JoinChasedCounterexampleAsRead
chased-counterexample-as-read ps widths ds js limit p q result base fit c fits without below_p below_q codes positive =
    counterexample-over (LegalForBothAsRead ps widths ds js) base p q result
    (chased-stands-as-read ps widths ds js limit p result base fit c fits without positive below_p codes) below_q

-- ---- what is computed

-- A chase that does not overflow ends in a query, and what `join_contained` tells is whether that is never or q maps to it
computed-cases : {C : Type 0} (widths : List ℕ) (ds : List Dependency) (js : List JoinDependency) (limit : ℕ) (p q : Query) → JoinsFit widths js
    → ((result : Query) → join_chase widths ds js limit p ≡ chased result → JoinChases widths ds js limit p (chased result)
    → join_contained widths ds js limit p q ≡ some (contained_on result.rows result q) → C)
    → (join_chase widths ds js limit p ≡ overflow → join_contained widths ds js limit p q ≡ none → C) → C
unfolding join_contained contained_in
computed-cases {C} widths ds js limit p q fit ended over = go (join_chase widths ds js limit p) refl
  where
    go : (o : Outcome) → join_chase widths ds js limit p ≡ o → C
    go (chased result) e = ended result e (subst (JoinChases widths ds js limit p) e (joins-computed widths ds js limit fit p)) (ap (contained_in q) e)
    go overflow e = over e (ap (contained_in q) e)

chased-overflow : {result : Query} → chased result ≡ overflow → ⊥
chased-overflow e = let z : ◌≡◌ {A = ℕ} 0 1 = cc in absurd (omega arith)

-- `join_contained` tells whether p is contained, where the chase does not overflow
pub contained-computed : joins.JoinContainedComputes
contained-computed widths ds js limit p q fit fits =
    computed-cases widths ds js limit p q fit
    (λ result e c is.
    let exact = contained-exact widths ds js limit p q result fit c fits in
    let search = contained_on-mapping result q result.rows in (
      λ told. (λ o. chased-overflow (sym e ∙ o), exact.0 (search.0 (some-injective _ _ (sym is ∙ told)))),
      λ both. is ∙ ap some (search.1 (exact.1 both.1)),
    ))
    (λ e is. (λ told. absurd (none-ne-some true (sym is ∙ told)), λ both. absurd (both.0 e)))

pub not-contained-computed : joins.JoinNotContainedComputes
not-contained-computed widths ds js limit p q fit fits =
    computed-cases widths ds js limit p q fit
    (λ result e c is.
    let exact = contained-exact widths ds js limit p q result fit c fits in
    let search = contained_on-mapping result q result.rows in
    let common = both_below p q in (
      λ told.
          let neither : ((result.rows ≡ []) ⊎ Mapping q result) → ⊥ =
          λ either. true≢false (sym (search.1 either) ∙ some-injective _ _ (sym is ∙ told)) in (
            λ o. chased-overflow (sym e ∙ o),
            frozen_rows common.0 result,
            frozen_head common.0 result,
            chased-counterexample widths ds js limit p q result common.0 fit c fits common.2 common.3 common.1
                (λ empty. neither (inl empty)) (λ f. neither (inr f)),
          ),
      λ shown.
          bool_cases (contained_on result.rows result q)
          (λ yes. absurd (counterexample-refutes (LegalForBoth widths ds js) p q shown.1 shown.2 shown.3 (exact.0 (search.0 yes))))
          (λ no. is ∙ ap some no),
    ))
    (λ e is. (λ told. absurd (none-ne-some false (sym is ∙ told)), λ both. absurd (both.0 e)))
