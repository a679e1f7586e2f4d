-- The statements of `specs/Meaning`. Assumes nothing.
use mathlib.Core.Path.{◌≡◌, refl, sym, ap, ◌∙◌}
use mathlib.Core.Logic.{◌⊎◌, inl, inr, ⊎_elim}
use mathlib.Core.List.Memᴰ
use mathlib.Core.List.{List, []}
use mathlib.Core.Option.{Option, none, some}
use Prim.Native.Nat.{ℕ}
use native.Mathlib.Omega.{arith}
use Rattle.refusals.specs.Refusals.{gives}
use Rattle.refusals.proofs.Refusals.{reply-gives, refused-gives}
use Rattle.refusals.specs.Refusal.{number_of}
use Rattle.refusals.proofs.Numbered.{number-same}
use Rattle.theory.specs.Codes.{read_code}
use Rattle.theory.specs.Query.{member}
use Rattle.theory.specs.Answer.{IsMapping}
use Rattle.theory.specs.Chase.{chase}
use Rattle.theory.specs.Database.{JoinDependency}
use Rattle.joins.specs.JoinChase.{chased, join_chase}
use Rattle.joins.proofs.Theorems.{join-chase-computes, without-joins}
use Rattle.join_rule.proofs.Fitting.{good-joins-fit}
use Rattle.query.specs.declared.Cell.{Cell}
use Rattle.query.specs.Types.{Query}
use Rattle.query.specs.Types.{Tableau}
use Rattle.minimization.specs.Checking.{image_at}
use Rattle.query.specs.View.{as_query, held_joins}
use Rattle.query.proofs.Meaning.{stored-unique}
use Rattle.record.specs.declared.Record.{Record}
use Rattle.record.specs.View.{schema_of, dependencies_of, joins_of}
use Rattle.record.specs.Calls.{query_at}
use Rattle.comparison.specs.declared.Verdict.{Verdict}
use Rattle.comparison.specs.declared.Verdict.TheVariants as verdict
use Rattle.std.specs.Prelude.{Result, Ok, Err, Bool, true, false}
use Rattle.refusals.specs.declared.Refusal.{Refusal}
use Rattle.comparison.specs.Comparison.{pair_refusal, comparison_refusal, not_contained, verdict_reply, verdict_of, images_at, read_images, Compared, CheckedMapping}
use Rattle.comparison.specs.Meaning.{ImagesExample, CheckMeans, CheckDenies, QueryShape, ComparedOnce, FunctionalAlone, OutcomeMeans}
use Rattle.comparison.proofs.Pairs.{standing, compare-stands}
use Rattle.comparison.proofs.Answers.{joins-good}
use Rattle.comparison.proofs.Checks.{checked_refused, checked-decided}
use Rattle.record.proofs.Stored as stored

-- ---- checking a mapping

-- The answers of a check are different
yes-no : ◌≡◌ {A = Result Bool Refusal} (Ok true) (Ok false) → ⊥
yes-no e = let z : ◌≡◌ {A = ℕ} 0 1 = cc in omega arith

module _ (r : Record) (p q : ℕ) (images : List Cell) (c : Result Bool Refusal) (is : CheckedMapping r p q images c) where
  says-yes : c ≡ Ok true → (pair_refusal r p q ≡ none) × IsMapping (query_at r q) (query_at r p) (image_at (images_at r q images))
  says-yes y = go (pair_refusal r p q) refl
    where
      go : (o : Option ℕ) → pair_refusal r p q ≡ o → (pair_refusal r p q ≡ none) × IsMapping (query_at r q) (query_at r p) (image_at (images_at r q images))
      go none e =
          ⊎_elim (λ (h : (c ≡ Ok true) × IsMapping (query_at r q) (query_at r p) (image_at (images_at r q images))). (e, h.1))
          (λ (h : (c ≡ Ok false) × (IsMapping (query_at r q) (query_at r p) (image_at (images_at r q images)) → ⊥)). absurd (yes-no (sym y ∙ h.0)))
          (checked-decided r p q images c is e)
      go (some n) e = absurd (checked_refused r p q images c is n e true y)

  says-no : c ≡ Ok false → (pair_refusal r p q ≡ none) × (IsMapping (query_at r q) (query_at r p) (image_at (images_at r q images)) → ⊥)
  says-no y = go (pair_refusal r p q) refl
    where
      go : (o : Option ℕ) → pair_refusal r p q ≡ o → (pair_refusal r p q ≡ none) × (IsMapping (query_at r q) (query_at r p) (image_at (images_at r q images)) → ⊥)
      go none e =
          ⊎_elim (λ (h : (c ≡ Ok true) × IsMapping (query_at r q) (query_at r p) (image_at (images_at r q images))). absurd (yes-no (sym h.0 ∙ y)))
          (λ (h : (c ≡ Ok false) × (IsMapping (query_at r q) (query_at r p) (image_at (images_at r q images)) → ⊥)). (e, h.1))
          (checked-decided r p q images c is e)
      go (some n) e = absurd (checked_refused r p q images c is n e false y)

  is-yes : (pair_refusal r p q ≡ none) × IsMapping (query_at r q) (query_at r p) (image_at (images_at r q images)) → c ≡ Ok true
  is-yes both =
      ⊎_elim (λ (h : (c ≡ Ok true) × IsMapping (query_at r q) (query_at r p) (image_at (images_at r q images))). h.0)
      (λ (h : (c ≡ Ok false) × (IsMapping (query_at r q) (query_at r p) (image_at (images_at r q images)) → ⊥)). absurd (h.1 both.1))
      (checked-decided r p q images c is both.0)

  is-no : (pair_refusal r p q ≡ none) × (IsMapping (query_at r q) (query_at r p) (image_at (images_at r q images)) → ⊥) → c ≡ Ok false
  is-no both =
      ⊎_elim (λ (h : (c ≡ Ok true) × IsMapping (query_at r q) (query_at r p) (image_at (images_at r q images))). absurd (both.1 h.1))
      (λ (h : (c ≡ Ok false) × (IsMapping (query_at r q) (query_at r p) (image_at (images_at r q images)) → ⊥)). h.0)
      (checked-decided r p q images c is both.0)

pub check-means : CheckMeans
check-means r p q images c is = (says-yes r p q images c is, is-yes r p q images c is)

pub check-denies : CheckDenies
check-denies r p q images c is = (says-no r p q images c is, is-no r p q images c is)

-- ---- comparing

-- Apart is never said of places that are refused
apart-accepted : (r : Record) (p q : ℕ) → verdict_of r p q ≡ gives not_contained → pair_refusal r p q ≡ none
apart-accepted r p q h = compare-stands r p q (reply-gives (comparison_refusal r p q) _ not_contained h).0

-- A query as a tableau
abbrev as_tableau : Query → Tableau
as_tableau q = record { arity = q.arity; size = q.size; head = q.head; relations = q.relations; cells = q.cells }

-- Verdicts that say the same are the same, but for the mapping and the query
pub compared-once : ComparedOnce
compared-once r p q c d sized-c sized-d is is' = go c d sized-c sized-d is is' (is.verdict ∙ sym is'.verdict)
  where
    Once : Result Verdict Refusal → Result Verdict Refusal → Type 0
    Once c d = (c ≡ d) ⊎ ((images : List Cell) × (others : List Cell) × (c ≡ Ok (verdict.Mapped images)) × (d ≡ Ok (verdict.Mapped others)))

    go : (c d : Result Verdict Refusal) → QueryShape c → QueryShape d → Compared r p q c → Compared r p q d → verdict_reply c ≡ verdict_reply d
        → Once c d
    go (Ok verdict.Never) (Ok verdict.Never) sized-c sized-d is is' e = inl refl
    go (Ok verdict.Never) (Ok (verdict.Mapped others)) sized-c sized-d is is' e = let z : ◌≡◌ {A = ℕ} 2 1 = cc in absurd (omega arith)
    go (Ok verdict.Never) (Ok (verdict.Apart other)) sized-c sized-d is is' e = let z : ◌≡◌ {A = ℕ} 2 0 = cc in absurd (omega arith)
    go (Ok verdict.Never) (Err other) sized-c sized-d is is' e = absurd (refused-gives (sym e))
    go (Ok (verdict.Mapped images)) (Ok verdict.Never) sized-c sized-d is is' e = let z : ◌≡◌ {A = ℕ} 1 2 = cc in absurd (omega arith)
    go (Ok (verdict.Mapped images)) (Ok (verdict.Mapped others)) sized-c sized-d is is' e = inr (images, others, refl, refl)
    go (Ok (verdict.Mapped images)) (Ok (verdict.Apart other)) sized-c sized-d is is' e = let z : ◌≡◌ {A = ℕ} 1 0 = cc in absurd (omega arith)
    go (Ok (verdict.Mapped images)) (Err other) sized-c sized-d is is' e = absurd (refused-gives (sym e))
    go (Ok (verdict.Apart query)) (Ok verdict.Never) sized-c sized-d is is' e = let z : ◌≡◌ {A = ℕ} 0 2 = cc in absurd (omega arith)
    go (Ok (verdict.Apart query)) (Ok (verdict.Mapped others)) sized-c sized-d is is' e = let z : ◌≡◌ {A = ℕ} 0 1 = cc in absurd (omega arith)
    go (Ok (verdict.Apart query)) (Ok (verdict.Apart other)) sized-c sized-d is is' e =
        let narrow = stored.narrow r (standing r p q (apart-accepted r p q (sym is.verdict))).good in
        let a = is.chased query refl in
        let b = is'.chased other refl in
        let same : query ≡ other =
        ap as_tableau (stored-unique 24 (schema_of r) narrow (as_query query) (as_query other) (sized-c query refl) (sized-d other refl) a.1 b.1 (a.0 ∙ sym b.0))
        in
        inl (ap (λ (t : Tableau). Ok (verdict.Apart t)) same)
    go (Ok (verdict.Apart query)) (Err other) sized-c sized-d is is' e = absurd (refused-gives (sym e))
    go (Err why) (Ok found) sized-c sized-d is is' e = absurd (refused-gives e)
    go (Err why) (Err other) sized-c sized-d is is' e =
        let z : number_of why ≡ number_of other = cc in inl (ap (λ (n : Refusal). Err n) (number-same why other z))

-- No join dependency is among the first 0
pub functional-alone : FunctionalAlone
functional-alone r p none-held =
    let ds = dependencies_of r in
    let q = query_at r p in
    let nothing : joins_of r ≡ [] = ap (held_joins r.joins) none-held in
    ap (λ (js : List JoinDependency). join_chase (schema_of r) ds js 24 q) nothing
    ∙ (join-chase-computes (schema_of r) ds [] 24 q (chased (chase ds q).query) (λ j held. absurd (Memᴰ.not-nil held))).0
    ((without-joins (schema_of r) ds 24 q (chased (chase ds q).query)).1 refl)

-- ---- the chase

pub outcome-means : OutcomeMeans
outcome-means r p outcome good shaped =
    join-chase-computes (schema_of r) (dependencies_of r) (joins_of r) 24 (query_at r p) outcome
    (good-joins-fit (schema_of r) r.joined r.joins shaped (joins-good r good))

pub images-example : ImagesExample
unfolding read_images member read_code
images-example = refl
