-- A round of the chase of a tableau is a round of the theory's: the functional chase, repeated rows gone, and then, by the row that is asked for, the end, the
-- next round or no room. Assumes nothing.
use mathlib.Core.Path.{◌≡◌, refl, sym, ◌∙◌, ap, subst}
use mathlib.Core.Logic.{◌≢◌}
use mathlib.Core.Bool.{true}
use mathlib.Core.List.Memᴰ
use mathlib.Core.List.{List, [], ◌∷◌, map}
use mathlib.Core.Option.{some}
use Prim.Native.Nat.{ℕ, ◌≤◌, ◌<◌}
use native.Mathlib.Omega.{arith}
use borrow.Author.Tests.{le-leb}
use lib.Dec.{leb}
use lib.ListN.{length, get_or, length-map}
use Rattle.lists.specs.Tests.{every, between}
use Rattle.lists.proofs.Tests.{every-member, every-weaken}
use Rattle.lists.proofs.Positions.{length_none}
use Rattle.theory.specs.Query.{Entry, Row, Query}
use Rattle.theory.specs.Database as database
use Rattle.theory.specs.Chase as chasing
use Rattle.minimization.specs.Checking.{same_row}
use Rattle.joins.specs.Join.{JoinFits, JoinsFit}
use Rattle.joins.specs.JoinChase.{keep_first, without_repeats, add_row, next_row, first_unmet, settle, chased, overflow, join_chase}
use Rattle.joins.proofs.Choices.{next_row-found}
use Rattle.joins.proofs.JoinChase.{added-some, rounds, settled-falls, join-at-end, join-at-row, join-at-limit}
use Rattle.query.specs.Types.{Tableau}
use Rattle.query.specs.declared.Dependency.{Dependency}
use Rattle.query.specs.declared.JoinDependency.{JoinDependency}
use Rattle.query.specs.View.{query_of, as_query, dependency_of, join_of}
use Rattle.query.specs.Rule.{good_tableau, good_join, shaped_join}
use Rattle.query.proofs.Good.{good-query, good-join}
use Rattle.query.proofs.Shape.{row_count}
use Rattle.chase.specs.declared.Chased.{Chased}
use Rattle.chase.specs.internal.Outcome.{IsChased}
use Rattle.chase.proofs.Callers.{width-le}
use Rattle.join_rule.proofs.Fitting.{good-join-fits}
use Rattle.join_chase.specs.internal.JoinChased.{rounds_left, JoinChasable, IsJoinChased, IsNextRound}
use Rattle.std.specs.Prelude.{Option, None, Some}
use Rattle.join_step.specs.declared.NextRow.{NextRow}
use Rattle.join_step.specs.internal.Step.{with_row, distinct_to, IsNext}
use Rattle.join_step.proofs.Rows.{row_with, added-query, added-tableau, repeats-query, repeats-tableau, repeats-arity, repeats-long}

-- A query without repeated rows, where some join dependency is held
repeats-some : (js : List database.JoinDependency) (q : Query) → js ≢ [] → record { head = q.head; rows = keep_first same_row [] q.rows } ≡ without_repeats js q
unfolding without_repeats
repeats-some [] q held = absurd (held refl)
repeats-some (j ∷ js) q held = refl

module _ (schema : List ℕ) (widths : every (between 1 8) schema ≡ true) (dependencies : List Dependency) (joins : List JoinDependency)
    (shaped : every shaped_join joins ≡ true) (good-joins : every (good_join schema) joins ≡ true) where
  ds : List database.Dependency
  ds = map dependency_of dependencies

  js : List database.JoinDependency
  js = map join_of joins

  fit : JoinsFit schema js
  unfolding js
  fit = held-fit joins shaped good-joins
    where
      held-fit : (xs : List JoinDependency) → every shaped_join xs ≡ true → every (good_join schema) xs ≡ true → JoinsFit schema (map join_of xs)
      held-fit xs p q j at =
          let from = Memᴰ.of_map join_of xs at in
          subst (JoinFits schema) from.2 (good-join-fits schema from.0 (every-member shaped_join xs p from.1) (every-member (good_join schema) xs q from.1))

  module _ (t : Tableau) (c : Chased) (is : IsChased schema dependencies t c) where
    q : Query
    q = query_of schema (as_query t)

    -- With no join dependency held it is the functional chase
    pub functional-only : joins ≡ []
        → chased (query_of schema (as_query c.query)) ≡ join_chase schema (map dependency_of dependencies) (map join_of joins) 24 (query_of schema (as_query t))
    unfolding next_row first_unmet chasing.first_found settle without_repeats ds js q
    functional-only none-held =
        let empty : js ≡ [] = ap (map join_of) none-held in
        ap chased is.query-is
        ∙ sym (subst (λ l. JoinsFit schema l → join_chase schema ds l 24 q ≡ chased (chasing.chase ds q).query) (sym empty)
        (λ fits. join-at-end schema ds [] 24 fits q refl) fit)

    module _ (one : joins ≢ []) (relations-long : length c.query.relations ≡ 24) (cells-long : length c.query.cells ≡ 192) where
      narrow : (i : ℕ) → get_or schema i 0 ≤ 8
      narrow = width-le schema widths

      -- Repeated rows gone
      s : Tableau
      s = distinct_to c.query c.query.size

      pub settled-good : good_tableau schema (distinct_to c.query c.query.size) ≡ true
      settled-good = repeats-tableau schema narrow c.query relations-long cells-long is.good

      pub settled-arity : (distinct_to c.query c.query.size).arity ≡ t.arity
      settled-arity = repeats-arity schema narrow c.query relations-long cells-long is.good ∙ is.same-arity

      some-held : js ≢ []
      unfolding js
      some-held none-held = one (length_none joins (sym (length-map joins join_of) ∙ ap length none-held))

      settled_is : query_of schema (as_query s) ≡ settle ds js q
      unfolding s q ds js settle
      settled_is =
          repeats-query schema narrow c.query relations-long cells-long is.good
          ∙ repeats-some js (query_of schema (as_query c.query)) some-held ∙ ap (without_repeats js) is.query-is

      settled-size : length (settle ds js q).rows ≡ s.size
      unfolding s
      settled-size =
          let g = good-query 24 schema (as_query s) settled-good in
          let long = repeats-long schema narrow c.query relations-long cells-long is.good in
          ap (λ p. length p.rows) (sym settled_is) ∙ row_count schema (as_query s) (omega (arith, g.size, long.0))

      -- No row is asked for
      pub chase-ends : IsNext schema (distinct_to c.query c.query.size) joins None
          → chased (query_of schema (as_query (distinct_to c.query c.query.size)))
          ≡ join_chase schema (map dependency_of dependencies) (map join_of joins) 24 (query_of schema (as_query t))
      unfolding s q ds js
      chase-ends next =
          ap chased settled_is ∙ sym (join-at-end schema ds js 24 fit q (sym (next.row_is ∙ ap (λ p. next_row schema js p.rows) settled_is)))

      module _ (n : NextRow) (next : IsNext schema (distinct_to c.query c.query.size) joins (Some n)) where
        asked : next_row schema js (settle ds js q).rows ≡ some (row_with schema n.relation n.row)
        unfolding s js
        asked = sym (next.row_is ∙ ap (λ p. next_row schema js p.rows) settled_is)

        -- One is, and there is no room
        pub chase-over : (distinct_to c.query c.query.size).size ≡ 24
            → overflow ≡ join_chase schema (map dependency_of dependencies) (map join_of joins) 24 (query_of schema (as_query t))
        unfolding s q ds js
        chase-over full =
            sym (join-at-limit schema ds js 24 fit q (row_with schema n.relation n.row) asked (omega (arith, settled-size, full)))

        -- One is, and it is added
        module _ (room : (distinct_to c.query c.query.size).size < 24) (eight : length n.row ≡ 8) where
          lengths : (length s.relations ≡ 24) × (length s.cells ≡ 192)
          unfolding s
          lengths = repeats-long schema narrow c.query relations-long cells-long is.good

          more-is : query_of schema (as_query (with_row s n.relation n.row)) ≡ add_row (settle ds js q) (row_with schema n.relation n.row)
          unfolding s
          more-is =
              added-query schema narrow s lengths.0 lengths.1 settled-good room n.relation n.row eight
              ∙ ap (λ p. add_row p (row_with schema n.relation n.row)) settled_is

          some-row : 0 < s.size
          some-row = go (settle ds js q).rows settled-size (added-some schema js fit (next_row-found schema js (settle ds js q).rows _ asked))
            where
              go : (rows : List (Row Entry)) → length rows ≡ s.size → rows ≢ [] → 0 < s.size
              go [] long nonempty = absurd (nonempty refl)
              go (r ∷ rows) long nonempty = omega (arith, long)

          pub more-good : good_tableau schema (with_row (distinct_to c.query c.query.size) n.relation n.row) ≡ true
          unfolding s
          more-good =
              added-tableau schema narrow s lengths.0 lengths.1 settled-good room n.relation n.row eight some-row next.good

          pub chase-goes-on : join_chase schema (map dependency_of dependencies) (map join_of joins) 24 (query_of schema (as_query t))
              ≡ join_chase schema (map dependency_of dependencies) (map join_of joins) 24
              (query_of schema (as_query (with_row (distinct_to c.query c.query.size) n.relation n.row)))
          unfolding s q ds js
          chase-goes-on =
              join-at-row schema ds js 24 fit q (row_with schema n.relation n.row) asked (omega (arith, settled-size, room))
              ∙ ap (join_chase schema ds js 24) (sym more-is)

          pub fewer-rounds : rounds_left schema joins (with_row (distinct_to c.query c.query.size) n.relation n.row) < rounds_left schema joins t
          unfolding s q js rounds
          fewer-rounds =
              subst (λ p. rounds schema ds js 24 p < rounds schema ds js 24 q) (sym more-is)
              (settled-falls schema ds js 24 fit q (row_with schema n.relation n.row) asked (omega (arith, settled-size, room)))

-- ---- what a round promises

-- Good join dependencies have at most 4 sets each
pub counts-fit : (schema : List ℕ) (joins : List JoinDependency) → every (good_join schema) joins ≡ true → every (λ j. leb j.count 4) joins ≡ true
counts-fit schema joins good =
    every-weaken (good_join schema) (λ j. leb j.count 4) (λ j g. le-leb j.count 4 (good-join schema j g).most) joins good

module _ (t : Tableau) (schema : List ℕ) (dependencies : List Dependency) (joins : List JoinDependency) (asked : JoinChasable t schema dependencies joins)
    (c : Chased) (promised : (schema : List ℕ) → good_tableau schema t ≡ true → every (between 1 8) schema ≡ true → IsChased schema dependencies t c) where
  is : IsChased schema dependencies t c
  is = promised schema asked.tableau-good asked.widths-good

  pub made-functional : joins ≡ [] → IsJoinChased t schema dependencies joins (Some c.query)
  made-functional none-held = record {
    outcome-is = functional-only schema asked.widths-good dependencies joins asked.joins-shaped asked.joins-good t c is none-held;
    good = is.good;
    same-arity = is.same-arity;
  }

  module _ (one : joins ≢ []) (relations-long : length c.query.relations ≡ 24) (cells-long : length c.query.cells ≡ 192) (s : Tableau)
      (is-settled : s ≡ distinct_to c.query c.query.size) where
    pub settled-tableau : good_tableau schema s ≡ true
    settled-tableau =
        ap (good_tableau schema) is-settled
        ∙ settled-good schema asked.widths-good dependencies joins asked.joins-shaped asked.joins-good t c is one relations-long cells-long

    module _ (n : Option NextRow) (promised-next : (schema : List ℕ) → ((i : ℕ) → get_or schema i 0 ≤ 8) → good_tableau schema s ≡ true
        → every (good_join schema) joins ≡ true → IsNext schema s joins n) where
      next : IsNext schema (distinct_to c.query c.query.size) joins n
      next =
          subst (λ (x : Tableau). IsNext schema x joins n) is-settled
          (promised-next schema (width-le schema asked.widths-good) settled-tableau asked.joins-good)

      pub made-end : n ≡ None → IsJoinChased t schema dependencies joins (Some s)
      made-end out = record {
        outcome-is =
            ap (λ (x : Tableau). chased (query_of schema (as_query x))) is-settled
            ∙ chase-ends schema asked.widths-good dependencies joins asked.joins-shaped asked.joins-good t c is one relations-long cells-long
            (subst (IsNext schema (distinct_to c.query c.query.size) joins) out next);
        good = settled-tableau;
        same-arity =
            ap (λ (x : Tableau). x.arity) is-settled
            ∙ settled-arity schema asked.widths-good dependencies joins asked.joins-shaped asked.joins-good t c is one relations-long cells-long;
      }

      module _ (row : NextRow) (there : n ≡ Some row) where
        some-next : IsNext schema (distinct_to c.query c.query.size) joins (Some row)
        some-next = subst (IsNext schema (distinct_to c.query c.query.size) joins) there next

        pub made-over : s.size ≡ 24 → IsJoinChased t schema dependencies joins None
        made-over full = record {
          outcome-is =
              chase-over schema asked.widths-good dependencies joins asked.joins-shaped asked.joins-good t c is one relations-long cells-long row some-next
              (sym (ap (λ (x : Tableau). x.size) is-settled) ∙ full);
          good = tt;
          same-arity = tt;
        }

        pub made_more : s.size < 24 → length row.row ≡ 8 → (x : Tableau) → x ≡ with_row s row.relation row.row
            → IsNextRound t schema dependencies joins x
        made_more room eight x is-more =
            let less : (distinct_to c.query c.query.size).size < 24 = subst (λ (y : Tableau). y.size < 24) is-settled room in
            let same : x ≡ with_row (distinct_to c.query c.query.size) row.relation row.row =
            is-more ∙ ap (λ (y : Tableau). with_row y row.relation row.row) is-settled in
            record {
              good =
                  ap (good_tableau schema) same
                  ∙ more-good schema asked.widths-good dependencies joins asked.joins-shaped asked.joins-good t c is one relations-long cells-long row
                  some-next less eight;
              same-arity =
                  ap (λ (y : Tableau). y.arity) same
                  ∙ settled-arity schema asked.widths-good dependencies joins asked.joins-shaped asked.joins-good t c is one relations-long cells-long;
              same_outcome =
                  chase-goes-on schema asked.widths-good dependencies joins asked.joins-shaped asked.joins-good t c is one relations-long cells-long row
                  some-next less eight
                  ∙ ap (λ (y : Tableau). join_chase schema (map dependency_of dependencies) (map join_of joins) 24 (query_of schema (as_query y))) (sym same);
              fewer-left =
                  subst (λ (y : Tableau). rounds_left schema joins y < rounds_left schema joins t) (sym same)
                  (fewer-rounds schema asked.widths-good dependencies joins asked.joins-shaped asked.joins-good t c is one relations-long cells-long row
                  some-next less eight);
            }
