-- With the rows that are kept a query has its answers, on every database. It is a result of reduction under no dependencies.
-- Assumes nothing.
use Rattle.std.specs.Prelude.{◌≡◌, ℕ, ◌<◌, ◌↔◌, true, List, [], length}
use mathlib.Core.Path.{refl, sym, ap, subst, ◌∙◌}
use mathlib.Core.List.Memᴰ
use native.Mathlib.Decide.{dec_lt}
use native.Mathlib.Omega.{arith}
use Rattle.lists.proofs.Positions.{length_none}
use Rattle.query.specs.Rule.{good_query}
use Rattle.query.proofs.Good.{good-query}
use Rattle.query.proofs.Shape.{Sized, row_count}
use Rattle.query.specs.Types.{Query}
use Rattle.query.specs.View.{query_of}
use Rattle.theory.specs.Query as theory
use Rattle.theory.specs.Query.{WellFormed, variables_of, row_entries, ◌∈◌}
use Rattle.theory.specs.Database.{Database}
use Rattle.theory.specs.Answer.{Answer}
use Rattle.theory.specs.Chase.{chase, chase_for, chase_on, step, first_broken, first_found}
use Rattle.minimization.specs.Reduction.{Reduction}
use Rattle.minimization.proofs.Reduction.{reduction-answers, reduction-wellformed}
use Rattle.minimization.specs.Kept.{kept, sorted}
use Rattle.minimization.proofs.Kept.{kept-reduction, kept-some}
use Rattle.folding.specs.internal.Kept.{marked, IsKept}
use Rattle.query_core.specs.internal.CoreOf.{IsCoreOf, IsKeptOf}
use Rattle.query_core.specs.internal.Rows.{HasRows, HasRowsInPlace}

-- Without dependencies the chase rests at once
chase-nothing : (q : theory.Query) → (chase [] q).query ≡ q
unfolding chase chase_for chase_on step first_broken first_found
chase-nothing q = refl

-- so the rows that are kept are a result of reduction
kept-result : (q : theory.Query) → Reduction [] q (record { head = q.head; rows = kept q })
kept-result q = subst (λ (x : theory.Query). Reduction [] q (record { head = x.head; rows = kept x })) (chase-nothing q) (kept-reduction [] q)

-- ---- the core of a stored query

-- Of a query with rows some are kept
pub some-kept : (schema : List ℕ) (q : Query) (left : ℕ) → good_query schema q ≡ true → Sized q → IsKept schema q left
    → 0 < q.size → 0 < length (marked left (query_of schema q).rows)
some-kept schema q left good sized is some = go (dec_lt 0 (length (marked left (query_of schema q).rows)))
  where
    count : length (query_of schema q).rows ≡ q.size
    count = row_count schema q (omega (arith, sized.relations, (good-query 12 schema q good).size))

    go : Dec (0 < length (marked left (query_of schema q).rows)) → 0 < length (marked left (query_of schema q).rows)
    go (yes h) = h
    go (no h) =
        absurd
        (kept-some (query_of schema q) (λ none. let z : length (query_of schema q).rows ≡ 0 = ap length none in omega (arith, count))
        (sym is ∙ length_none (marked left (query_of schema q).rows) (omega arith)))

-- With the rows that are kept, in their order, a query is its core
pub core-end : (schema : List ℕ) (q : Query) (left : ℕ) → IsKept schema q left → (r : Query) → HasRows schema q left r → IsCoreOf schema q r
core-end schema q left is r has = record {
  good = has.good;
  same-arity = has.same-arity;
  view = λ j. record { head = has.head j; rows = (has.rows ∙ ap sorted is) j };
}

-- and with them as they stand it is what is kept of it
pub kept-end : (schema : List ℕ) (q : Query) (left : ℕ) → IsKept schema q left → (r : Query) → HasRowsInPlace schema q left r → IsKeptOf schema q r
kept-end schema q left is r has = record {
  good = has.good;
  same-arity = has.same-arity;
  view = λ j. record { head = has.head j; rows = (has.rows ∙ is) j };
}

-- A stored query stands for a result of reduction of another
abbrev pub Reduces : List ℕ → Query → Query → Type 0
Reduces schema q r = Reduction [] (query_of schema q) (query_of schema r)

-- as one with the rows that are kept does
pub kept-reduces : (schema : List ℕ) (q r : Query) → IsKeptOf schema q r → Reduces schema q r
kept-reduces schema q r p = subst (λ (x : theory.Query). Reduction [] (query_of schema q) x) (sym p.view) (kept-result (query_of schema q))

-- Then
module _ (schema : List ℕ) (q r : Query) (p : Reduces schema q r) where
  -- the answers are the same
  pub core-answers : (D : Database) (t : List ℕ) → Answer D (query_of schema q) t ↔ Answer D (query_of schema r) t
  core-answers D t = reduction-answers [] (query_of schema q) (query_of schema r) p D (λ d at. absurd (Memᴰ.not-nil at)) t

  -- and each head variable still occurs in a row
  pub core-safe : WellFormed schema (query_of schema q) → (v : ℕ) → v ∈ variables_of (query_of schema r).head
      → v ∈ variables_of (row_entries (query_of schema r).rows)
  core-safe well = (reduction-wellformed schema [] (query_of schema q) (query_of schema r) well p).head-safe
