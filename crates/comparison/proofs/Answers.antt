-- What the code has shown when it answers, and the promise that follows: for a comparison of two places, then for the checking of a mapping.
-- The cases themselves are in `Verdicts`. Assumes nothing.
use mathlib.Core.Path.{◌≡◌, refl, sym, ap, ap₂, subst, subst₂, ◌∙◌}
use mathlib.Core.Logic.{◌≢◌}
use mathlib.Core.Bool.{Bool, true}
use mathlib.Core.List.Memᴰ
use mathlib.Core.List.{List, [], ◌∷◌}
use mathlib.Core.Option.{Option, none, some}
use Prim.Native.Nat.{ℕ, ◌≤◌, ◌<◌}
use native.Mathlib.Omega.{arith}
use lib.Dec.{leb}
use lib.ListN.{length, take}
use borrow.Author.Tests.{le-leb, leb-true}
use Rattle.record.specs.Calls.{query_at}
use Rattle.record.specs.internal.Reading.{ReadAs}
use Rattle.query.specs.declared.Cell.{Cell}
use Rattle.query.specs.Types.{Query, Tableau}
use Rattle.record.specs.declared.Record.{Record}
use Rattle.query.specs.View.{entries_of, query_of, as_query, images_of}
use Rattle.record.specs.View.{schema_of, dependencies_of, joins_of}
use Rattle.lists.specs.Tests.{every, between, in_use, is_zero}
use Rattle.record.specs.Rule.{good_record}
use Rattle.query.specs.Rule.{good_relations, good_tableau, good_dependencies, good_join, good_joins, blank_join, shaped_join}
use Rattle.lists.proofs.Tests.{and_left, and_right, and_both, every_take, used-good}
use Rattle.chase.proofs.Callers.{held-good}
use Rattle.record.proofs.Good.{good-record}
use Rattle.query.proofs.Good.{good-query}
use Rattle.query.proofs.Shape.{SizedFor, row_count}
use Rattle.tableaux.specs.internal.Tableaux.{tableau_of}
use Rattle.tableaux.proofs.Tableaux.{tableau-query, tableau-good}
use Rattle.join_chase.specs.internal.JoinChased.{outcome_of, IsJoinChased, JoinChasable}
use Rattle.join_rule.proofs.Fitting.{good-joins-fit}
use Rattle.joins.specs.Join.{JoinsFit}
use Rattle.joins.specs.JoinChase.{chased, join_chase}
use Rattle.mapping.specs.internal.Mapped.{Storable, StorableTableau, IsMapped, Finds, Checks}
use Rattle.mapping.proofs.Never.{never-rows}
use Rattle.theory.specs.Query as theory
use Rattle.theory.specs.Query.{◌∈◌}
use Rattle.theory.specs.Answer as answer
use Rattle.minimization.specs.Checking.{maps_to}
use Rattle.refusals.specs.Refusals.{reply}
use Rattle.comparison.specs.declared.Verdict.{Verdict}
use Rattle.comparison.specs.declared.Verdict.TheVariants as verdict
use Rattle.comparison.specs.Comparison.{outcome_at, query_in, chased_at, pair_refusal, images_at, Compared, CheckedMapping}
use Rattle.std.specs.Prelude.{Result, Ok, Err, Option as Maybe, Some, None, IfSome}
use Rattle.refusals.specs.declared.Refusal.{Refusal}
use Rattle.refusals.specs.declared.Refusal.TheVariants as refusal
use Rattle.refusals.specs.Refusal.{number_of}
use Rattle.comparison.specs.internal.Pairs.{both, looked_up}
use Rattle.comparison.proofs.Pairs.{standing, paired-places, compare-over}
use Rattle.comparison.proofs.Verdicts.{Queries, queries, compared-refused, compared-never, compared-mapped, compared-apart}

-- ---- the chase of the first query

-- A query that is mapped to has rows
mapping-rows : (S T : theory.Query) (f : ℕ → theory.Entry) → answer.IsMapping S T f → T.rows ≢ []
mapping-rows S T f is empty = go S.rows refl
  where
    go : (rows : List (theory.Row theory.Entry)) → S.rows ≡ rows → ⊥
    go [] none-there = is.carries.not-never none-there
    go (x ∷ xs) there =
        let at : x ∈ S.rows = subst (λ (l : List (theory.Row theory.Entry)). x ∈ l) (sym there) (Memᴰ.head refl) in
        Memᴰ.not-nil
        (subst (λ (l : List (theory.Row theory.Entry)). theory.map_row (answer.value_of theory.constant f) x ∈ l) empty (is.carries.to-rows x at))

-- The dependencies of a good record are good
functional-good : (r : Record) → good_record r ≡ true → good_dependencies (schema_of r) r.held r.dependencies ≡ true
unfolding good_dependencies
functional-good r good =
    let g = good-record r good in
    and_both (leb r.held 32) _ (le-leb r.held 32 g.held) g.dependencies

pub joins-good : (r : Record) → good_record r ≡ true → good_joins (schema_of r) r.joined r.joins ≡ true
unfolding good_joins
joins-good r good =
    let g = good-record r good in
    and_both (leb r.joined 4) _ (le-leb r.joined 4 g.joined) g.joins

-- At most 8 relations are good
few-relations : (relations : ℕ) (widths : List ℕ) → good_relations relations widths ≡ true → relations ≤ 8
unfolding good_relations
few-relations relations widths good =
    leb-true relations 8 (and_right (leb 1 relations) (leb relations 8) (and_left (between 1 8 relations) (in_use relations (between 1 8) is_zero widths) good))

-- What is in use of a record whose places are not refused is within its arrays
pub parts-within : (r : Record) (p q : ℕ) → pair_refusal r p q ≡ none → (r.relations ≤ 8) × (r.held ≤ 32) × (r.joined ≤ 4)
parts-within r p q accepted =
    let g = good-record r (standing r p q accepted).good in
    (few-relations r.relations r.widths g.relations, g.held, g.joined)

module _ (r : Record) (p q : ℕ) (a b : Query) (accepted : pair_refusal r p q ≡ none) (as-p : ReadAs r p a) (as-q : ReadAs r q b) (sized : SizedFor 12 a) where
  known : Queries r p q a b
  known = queries r p q a b accepted as-p as-q

  -- The tableau of the first query can be chased
  pub can-be-chased : every shaped_join r.joins ≡ true
      → JoinChasable (tableau_of a) (schema_of r) (take r.held r.dependencies) (take r.joined r.joins)
  can-be-chased shaped =
      let s = standing r p q accepted in
      record {
        widths-good = known.widths;
        dependencies-good = held-good (schema_of r) r.held r.dependencies (functional-good r s.good);
        joins-shaped = every_take shaped_join r.joined r.joins shaped;
        joins-good = used-good r.joined (good_join (schema_of r)) blank_join r.joins (good-record r s.good).joins;
        tableau-good = tableau-good (schema_of r) a sized as-p.good;
      }

  module _ (shaped : every shaped_join r.joins ≡ true) (result : Maybe Tableau)
      (is : IsJoinChased (tableau_of a) (schema_of r) (take r.held r.dependencies) (take r.joined r.joins) result) where
    fit : JoinsFit (schema_of r) (joins_of r)
    fit = good-joins-fit (schema_of r) r.joined r.joins shaped (joins-good r (standing r p q accepted).good)

    -- It ends as the chase of the query ends
    outcome : outcome_of (schema_of r) result ≡ outcome_at r p
    outcome =
        is.outcome-is
        ∙ ap (join_chase (schema_of r) (dependencies_of r) (joins_of r) 24) (tableau-query (schema_of r) a sized as-p.good known.narrow ∙ as-p.query)

    -- before a row that would be one too many
    pub answers-over : result ≡ None → Compared r p q (Err refusal.TooManyRows)
    answers-over e =
        compared-refused r p q refusal.TooManyRows
        (compare-over r p q accepted (sym outcome ∙ ap (outcome_of (schema_of r)) e))

    -- or in a query
    module _ (query : Tableau) (under : result ≡ Some query) where
      same-head : query.arity ≡ a.arity
      same-head = subst (λ (o : Maybe Tableau). IfSome o (λ t. t.arity ≡ a.arity)) under is.same-arity

      good-query-found : good_tableau (schema_of r) query ≡ true
      good-query-found = subst (λ (o : Maybe Tableau). IfSome o (λ t. good_tableau (schema_of r) t ≡ true)) under is.good

      ends : outcome_at r p ≡ chased (query_of (schema_of r) (as_query query))
      ends = sym outcome ∙ ap (outcome_of (schema_of r)) under

      chased-is : query_of (schema_of r) (as_query query) ≡ chased_at r p
      chased-is = sym (ap query_in ends)

      ends_so : outcome_at r p ≡ chased (chased_at r p)
      ends_so = ends ∙ ap chased chased-is

      -- to which a mapping can be looked for
      pub both-storable : Storable b × StorableTableau query
      both-storable = ((schema_of r, as-q.good), (schema_of r, good-query-found))

      -- It is never
      pub answers-never : query.size ≡ 0 → Compared r p q (Ok verdict.Never)
      answers-never zero =
          compared-never r p q accepted fit ends_so
          (ap (λ (x : theory.Query). x.rows) (sym chased-is) ∙ never-rows (schema_of r) (as_query query) zero)

      module _ (mapped : Maybe (List Cell)) (finds : Finds b query mapped) where
        found : IsMapped (query_at r q) (chased_at r p) mapped
        found =
            subst₂ (λ (S T : theory.Query). IsMapped S T mapped) as-q.query chased-is
            (finds (schema_of r) known.narrow as-q.good (good-query-found) (sym known.same-arity ∙ sym same-head))

        -- There is one
        pub answers-contained : (images : List Cell) → mapped ≡ Some images → Compared r p q (Ok (verdict.Mapped images))
        answers-contained images e =
            let is : answer.IsMapping (query_at r q) (chased_at r p) (images_of images) = subst (IsMapped (query_at r q) (chased_at r p)) e found in
            compared-mapped r p q accepted fit ends_so (mapping-rows (query_at r q) (chased_at r p) (images_of images) is) images is

        -- There is none
        module _ (named : length query.relations ≡ 24) (size : query.size ≢ 0) where
          some-rows : (chased_at r p).rows ≢ []
          some-rows empty =
              let t : Query = as_query query in
              let fits : t.size ≤ length t.relations = omega (arith, named, (good-query 24 (schema_of r) t (good-query-found)).size) in
              size (sym (row_count (schema_of r) t fits) ∙ ap length (ap (λ (x : theory.Query). x.rows) chased-is ∙ empty))

          pub answers-apart : mapped ≡ None → Compared r p q (Ok (verdict.Apart query))
          answers-apart e =
              let out : answer.Mapping (query_at r q) (chased_at r p) → ⊥ = subst (IsMapped (query_at r q) (chased_at r p)) e found in
              compared-apart r p q accepted fit ends_so some-rows a b sized.cells as-p as-q query chased-is (good-query-found) out

-- ---- two places

-- Two places that were found are those that were given, and are not refused
module _ (r : Record) (p q a b : ℕ) (is : looked_up r p q ≡ both a b) where
  pub places-low : (a < 8) × (b < 8)
  places-low =
      let f = paired-places (pair_refusal r p q) p q a b is in
      let s = standing r p q f.0 in
      (omega (arith, f.1, s.low-p), omega (arith, f.2, s.low-q))

  pub places-accepted : pair_refusal r a b ≡ none
  places-accepted =
      let f = paired-places (pair_refusal r p q) p q a b is in
      subst₂ (λ (x y : ℕ). pair_refusal r x y ≡ none) f.1 f.2 f.0

  pub places-compared : (c : Result Verdict Refusal) → Compared r a b c → Compared r p q c
  places-compared c =
      let f = paired-places (pair_refusal r p q) p q a b is in
      subst₂ (λ (x y : ℕ). Compared r x y c) (sym f.1) (sym f.2)

  -- The queries that are read are theirs
  pub places-read : (x y : Query) → ReadAs r a x → ReadAs r b y → (pair_refusal r p q ≡ none) × ReadAs r p x × ReadAs r q y
  places-read x y as-a as-b =
      let f = paired-places (pair_refusal r p q) p q a b is in
      (f.0, subst (λ (k : ℕ). ReadAs r k x) (sym f.1) as-a, subst (λ (k : ℕ). ReadAs r k y) (sym f.2) as-b)

-- ---- the checking of a mapping

pub checks-refused : (r : Record) (p q : ℕ) (images : List Cell) (n : Refusal) → pair_refusal r p q ≡ some (number_of n) → CheckedMapping r p q images (Err n)
checks-refused r p q images n e = ap (λ (o : Option ℕ). reply o (maps_to (query_at r q) (query_at r p) (images_at r q images))) (sym e)

module _ (r : Record) (p q : ℕ) (x y : Query) (accepted : pair_refusal r p q ≡ none) (as-p : ReadAs r p x) (as-q : ReadAs r q y) where
  pub check-storable : Storable y × Storable x
  check-storable = ((schema_of r, as-q.good), (schema_of r, as-p.good))

  module _ (images read : List Cell) (are : entries_of read ≡ images_at r q images) (b : Bool) (checks : Checks y x read b) where
    tells : b ≡ maps_to (query_at r q) (query_at r p) (images_at r q images)
    tells =
        checks (schema_of r) (queries r p q x y accepted as-p as-q).narrow as-q.good as-p.good
        ∙ ap₂ (λ (S T : theory.Query). maps_to S T (entries_of read)) as-q.query as-p.query
        ∙ ap (maps_to (query_at r q) (query_at r p)) are

    -- The answer is what the test tells
    pub checks-told : CheckedMapping r p q images (Ok b)
    checks-told = ap₂ (λ (o : Option ℕ) (m : Bool). reply o m) (sym accepted) tells
