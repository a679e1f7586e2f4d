-- What a comparison promises (`Compared`), case by case: refused, never, contained by a mapping, not contained.
-- Each case is Chandra and Merlin's theorem with dependencies of both kinds (`Rattle.joins.proofs.Theorems`) for the queries of two places that are
-- not refused.
-- Assumes nothing.
use mathlib.Core.Path.{◌≡◌, refl, sym, ap, subst, ◌∙◌}
use mathlib.Core.Logic.{◌≢◌, ◌⊎◌, inl, inr}
use mathlib.Core.Bool.{Bool, true, false, cond}
use mathlib.Core.List.{List, [], ◌∷◌}
use mathlib.Core.Option.{Option, none, some}
use Prim.Native.Nat.{ℕ, ◌≤◌}
use native.Mathlib.Omega.{arith}
use lib.ListN.{length, get_or}
use Rattle.refusals.specs.Refusals.{gives, reply}
use Rattle.query.specs.declared.Cell.{Cell}
use Rattle.query.specs.Types.{Query, Tableau}
use Rattle.record.specs.declared.Record.{Record}
use Rattle.query.specs.View.{query_of, as_query, images_of}
use Rattle.record.specs.View.{schema_of, codes_of, dependencies_of, joins_of}
use Rattle.lists.specs.Tests.{every, between}
use Rattle.query.specs.Rule.{good_tableau}
use Rattle.record.specs.Rule.{good_record}
use Rattle.record.specs.Calls.{query_at}
use Rattle.record.specs.internal.Reading.{ReadAs}
use Rattle.record.proofs.Good.{good-record}
use Rattle.record.proofs.Reading.{read-current, read-below, read-formed}
use Rattle.record.proofs.Meaning.{old-below}
use Rattle.record.proofs.Stored as stored
use Rattle.chase.proofs.Callers.{good-widths}
use Rattle.theory.specs.Query as theory
use Rattle.theory.specs.Answer as answer
use Rattle.theory.specs.Containment as containment
use Rattle.joins.specs.Join.{ObeysBoth, LegalForBothAsRead, JoinsFit}
use Rattle.joins.specs.JoinChase.{chased, JoinChases}
use Rattle.minimization.specs.Search as search
use Rattle.minimization.proofs.Search.{mappable-exact}
use Rattle.joins.proofs.Theorems.{join-chase-computes, join-contained-obeying, join-chased-counterexample-as-read}
use Rattle.std.specs.Prelude.{Ok, Err}
use Rattle.comparison.specs.declared.Verdict.TheVariants.{Never, Mapped, Apart}
use Rattle.refusals.specs.declared.Refusal.{Refusal}
use Rattle.refusals.specs.Refusal.{number_of}
use Rattle.comparison.specs.Comparison.{outcome_at, chased_at, pair_refusal, comparison_refusal, not_contained, contained_by_mapping, contained_as_never}
use Rattle.comparison.specs.Comparison.{verdict_on, verdict_of, base, Compared}
use Rattle.comparison.proofs.Pairs.{standing, compare-ends}

-- ---- the queries of two places

-- What is known of the queries of two places that are not refused, where a and b are read from them
pub record Queries (r : Record) (p q : ℕ) (a b : Query) : Type 0 where
  pub good : good_record r ≡ true
  pub widths : every (between 1 8) (schema_of r) ≡ true
  pub narrow : (i : ℕ) → get_or (schema_of r) i 0 ≤ 8
  pub same-arity : a.arity ≡ b.arity
  pub as-p : ReadAs r p a
  pub as-q : ReadAs r q b

pub queries : (r : Record) (p q : ℕ) (a b : Query) → pair_refusal r p q ≡ none → ReadAs r p a → ReadAs r q b → Queries r p q a b
queries r p q a b accepted as-p as-q =
    let s = standing r p q accepted in
    record {
      good = s.good;
      widths = good-widths r.relations r.widths (good-record r s.good).relations;
      narrow = stored.narrow r s.good;
      same-arity = as-p.arity ∙ s.same-arity ∙ sym as-q.arity;
      as-p = as-p;
      as-q = as-q;
    }

-- ---- the verdict

verdict-some : (rows : List (theory.Row theory.Entry)) (mapped : Bool) → rows ≢ [] → verdict_on rows mapped ≡ cond mapped contained_by_mapping not_contained
verdict-some [] mapped filled = absurd (filled refl)
verdict-some (x ∷ xs) mapped filled = refl

-- ---- the cases

-- Refused
pub compared-refused : (r : Record) (p q : ℕ) (n : Refusal) → comparison_refusal r p q ≡ some (number_of n) → Compared r p q (Err n)
compared-refused r p q n refused =
    record {
      verdict = rw refused;
      mapping = λ images e. absurd (cc);
      chased = λ query e. absurd (cc);
      contained = λ e. absurd e;
      apart = λ query e. absurd (cc);
    }

-- The chase of the first query ends in a query
module _ (r : Record) (p q : ℕ) (accepted : pair_refusal r p q ≡ none) (fit : JoinsFit (schema_of r) (joins_of r))
    (ends : outcome_at r p ≡ chased (chased_at r p)) where
  chases : JoinChases (schema_of r) (dependencies_of r) (joins_of r) 24 (query_at r p) (chased (chased_at r p))
  chases = (join-chase-computes (schema_of r) (dependencies_of r) (joins_of r) 24 (query_at r p) (chased (chased_at r p)) fit).1 ends

  verdict-is : (v : ℕ) → verdict_on (chased_at r p).rows (search.mappable (query_at r q) (chased_at r p)) ≡ v → gives v ≡ verdict_of r p q
  verdict-is v e =
      ap gives (sym e)
      ∙ ap (λ (o : Option ℕ). reply o (verdict_on (chased_at r p).rows (search.mappable (query_at r q) (chased_at r p))))
      (sym (compare-ends r p q accepted (chased_at r p) ends))

  within : ((chased_at r p).rows ≡ []) ⊎ answer.Mapping (query_at r q) (chased_at r p)
      → containment.Contained (ObeysBoth (schema_of r) (dependencies_of r) (joins_of r)) (query_at r p) (query_at r q)
  within why = join-contained-obeying (schema_of r) (dependencies_of r) (joins_of r) 24 (query_at r p) (query_at r q) (chased_at r p) fit chases why

  -- It is never
  pub compared-never : (chased_at r p).rows ≡ [] → Compared r p q (Ok Never)
  compared-never empty =
      record {
        verdict =
            verdict-is contained_as_never
            (ap (λ (rows : List (theory.Row theory.Entry)). verdict_on rows (search.mappable (query_at r q) (chased_at r p))) empty);
        mapping = λ images e. absurd (cc);
        chased = λ query e. absurd (cc);
        contained = λ e. within (inl empty);
        apart = λ query e. absurd (cc);
      }

  module _ (filled : (chased_at r p).rows ≢ []) where
    verdict-found : (b : Bool) → search.mappable (query_at r q) (chased_at r p) ≡ b → gives (cond b contained_by_mapping not_contained) ≡ verdict_of r p q
    verdict-found b e =
        verdict-is (cond b contained_by_mapping not_contained)
        (verdict-some (chased_at r p).rows (search.mappable (query_at r q) (chased_at r p)) filled ∙ ap (λ (t : Bool). cond t contained_by_mapping not_contained) e)

    -- The second query maps to it
    pub compared-mapped : (images : List Cell) → answer.IsMapping (query_at r q) (chased_at r p) (images_of images)
        → Compared r p q (Ok (Mapped images))
    compared-mapped images is =
        record {
          verdict = verdict-found true ((mappable-exact (query_at r q) (chased_at r p)).1 (images_of images, is));
          mapping = λ others e. let same : images ≡ others = cc in subst (λ (l : List Cell). answer.IsMapping (query_at r q) (chased_at r p) (images_of l)) same is;
          chased = λ query e. absurd (cc);
          contained = λ e. within (inr (images_of images, is));
          apart = λ query e. absurd (cc);
        }

    -- It does not: the chased query, read as a database, shows it
    pub compared-apart : (a b : Query) → length a.cells ≡ 96 → ReadAs r p a → ReadAs r q b → (t : Tableau)
        → query_of (schema_of r) (as_query t) ≡ chased_at r p → good_tableau (schema_of r) t ≡ true
        → (answer.Mapping (query_at r q) (chased_at r p) → ⊥)
        → Compared r p q (Ok (Apart t))
    compared-apart a b long as-p as-q t is good not =
        record {
          verdict = verdict-found false (unmappable (search.mappable (query_at r q) (chased_at r p)) refl);
          mapping = λ images e. absurd (cc);
          chased = λ query e.
              let same : t ≡ query = cc in (
                subst (λ (u : Tableau). query_of (schema_of r) (as_query u) ≡ chased_at r p) same is,
                subst (λ (u : Tableau). good_tableau (schema_of r) u ≡ true) same good,
              );
          contained = λ e. absurd e;
          apart = λ query e.
              let same : t ≡ query = cc in
              subst
              (λ (u : Tableau).
              containment.Counterexample (LegalForBothAsRead (codes_of r) (schema_of r) (dependencies_of r) (joins_of r)) (query_at r p) (query_at r q)
              (containment.frozen_rows base (query_of (schema_of r) (as_query u))) (containment.frozen_head base (query_of (schema_of r) (as_query u))))
              same shown;
        }
      where
        held : good_record r ≡ true
        held = (standing r p q accepted).good

        unmappable : (b : Bool) → search.mappable (query_at r q) (chased_at r p) ≡ b → search.mappable (query_at r q) (chased_at r p) ≡ false
        unmappable true e = absurd (not ((mappable-exact (query_at r q) (chased_at r p)).0 e))
        unmappable false e = e

        shown : containment.Counterexample (LegalForBothAsRead (codes_of r) (schema_of r) (dependencies_of r) (joins_of r)) (query_at r p) (query_at r q)
            (containment.frozen_rows base (query_of (schema_of r) (as_query t))) (containment.frozen_head base (query_of (schema_of r) (as_query t)))
        shown =
            subst
            (λ (C : theory.Query).
            containment.Counterexample (LegalForBothAsRead (codes_of r) (schema_of r) (dependencies_of r) (joins_of r)) (query_at r p) (query_at r q) (containment.frozen_rows base C)
            (containment.frozen_head base C))
            (sym is)
            (join-chased-counterexample-as-read (codes_of r) (schema_of r) (dependencies_of r) (joins_of r) 24 (query_at r p) (query_at r q) (chased_at r p) base
            fit chases (read-formed r held p a as-p long).rows_fit (read-current r held p) (read-below r held p a as-p) (read-below r held q b as-q)
            (old-below r held) (omega arith) filled not)
