-- The search from a set on. It recurs over the sets, and its loop goes through the rows for a set. Invariant: no positions that begin with a row passed break
-- the join dependency. The measures are the sets left and the words left. Assumes nothing.
use mathlib.Core.Path.{◌≡◌, sym, ap, subst, ◌∙◌}
use mathlib.Core.Bool.{true}
use mathlib.Core.List.{List}
use Rattle.std.specs.Prelude.{Option}
use Rattle.join_testing.specs.internal.Search.{Searched}
use Prim.Native.Nat.{ℕ, suc, ◌+◌, ◌<◌}
use native.Mathlib.Omega.{arith}
use lib.Bits.{bit_and, bit_or}
use lib.ListN.{length, get_or}
use borrow.Author.Rules.{rules}
use Rattle.join_lookup.specs.internal.Starts.{BeginsAt, Has}
use Rattle.join_lookup.specs.internal.Tables.{Tabled, Reaches, FirstWith}
use Rattle.join_tables.specs.internal.Indexed.{filled_to, shared_at}
use Rattle.join_lookup.proofs.Having.{begins-room}
use Rattle.join_lookup.proofs.Reaching.{reach-less}
use Rattle.join_testing.proofs.Searching.{NoneBelow, filled_next, shared-256, going-begins, going-other, going-nothing, going-some, going-over}
use Rattle.join_testing.proofs.Searching.{going_next, last_set, made-joins, has_word}
use Rattle.join_testing.proofs.+search.Goals as goal
use Rattle.codes.specs.internal.Codes.{codes_in}
use Rattle.join_testing.proofs.+search.Goals.{Start, In-loop-at, After-has, After-following-at, then-has+in_default, else-has}

-- The columns that are shared, as the code has them
shared-is : (t : ℕ) (c : Start t) → bit_and (get_or c.args.tables.now.j.sets c.args.k 0) c.args.filled ≡ shared_at c.args.tables.now.j.sets c.args.k
shared-is t c = ap (λ (n : ℕ). bit_and (get_or c.args.tables.now.j.sets c.args.k 0) n) c.requires.k_le_count.1

-- The candidate begins at a row
begun : (t : ℕ) (c : In-loop-at t) → BeginsAt c.args.tables.now.schema.now c.args.tables.now.words.now c.loop-at.at c.loop-at.invariant.3.1.row
begun t c = let v = c.loop-at.invariant in
    going-begins v.0 v.1 c.args.k v.2 c.args.values c.loop-at.at v.3 c.loop-at-test.true

-- The row of the candidate has the relation's number first, where it has the values
holds : (t : ℕ) (c : After-has t) → bit_and (get_or c.args.tables.now.j.sets c.args.k 0) c.args.filled ≡ shared_at c.args.tables.now.j.sets c.args.k
    → BeginsAt c.args.tables.now.schema.now c.args.tables.now.words.now c.loop-at.at c.loop-at.invariant.3.1.row → c.has.result ≡ true
    → Has (codes_in c.args.tables.now.codes.now) c.args.tables.now.schema.now c.args.tables.now.words.now c.args.tables.now.x
    (shared_at c.args.tables.now.j.sets c.args.k) c.args.values c.loop-at.invariant.3.1.row
holds t c shared b e = let a = c.args in
    subst (λ (n : ℕ). Has (codes_in a.tables.now.codes.now) a.tables.now.schema.now a.tables.now.words.now a.tables.now.x n a.values
    c.loop-at.invariant.3.1.row) shared
    (c.has.ensures.by_index_2 c.loop-at.invariant.3.1.row b e)

word : (t : ℕ) (c : After-has t) → bit_and (get_or c.args.tables.now.j.sets c.args.k 0) c.args.filled ≡ shared_at c.args.tables.now.j.sets c.args.k
    → BeginsAt c.args.tables.now.schema.now c.args.tables.now.words.now c.loop-at.at c.loop-at.invariant.3.1.row → c.has.result ≡ true
    → get_or c.args.tables.now.words.now c.loop-at.at 0 ≡ c.args.tables.now.x.relation
word t c shared b e = let a = c.args in
    let v = c.loop-at.invariant in
    has_word (codes_in a.tables.now.codes.now) a.tables.now.x v.0 (shared_at a.tables.now.j.sets a.k) a.values c.loop-at.at v.3.1.row b (holds t c shared b e)

-- The way goes on
onward : (t : ℕ) (c : After-following-at t)
    → Reaches (codes_in c.args.tables.now.codes.now) c.args.tables.now.schema.now c.args.tables.now.words.now c.args.tables.now.x (c.args.k + 1)
    (shared_at c.args.tables.now.j.sets c.args.k) (get_or c.args.tables.now.j.sets c.args.k 0) c.args.values (suc c.loop-at.invariant.3.1.row) c.following-at.result
onward t c = let a = c.args in
    let v = c.loop-at.invariant in
    let wide : length a.values ≡ 8 = search rules in
    c.following-at.ensures (codes_in a.tables.now.codes.now) (shared_at a.tables.now.j.sets a.k)
    (get_or a.tables.now.j.sets a.k 0) v.3.0 a.values a.tables.now.heads.now
    (shared-256 v.0 v.1 a.k v.2 a.values) (omega (arith, v.1.known.narrow)) (v.1.levels a.k v.2) v.3.1

-- ---- after the last set

pub returns-then-k-tables : goal.returns-then-k-tables
returns-then-k-tables t c = let a = c.args in
    let wide : length a.values ≡ 8 = search rules in
    subst (λ (o : Option (List ℕ)). Searched
    (codes_in a.tables.now.codes.now) a.tables.now.schema.now a.tables.now.words.now a.tables.now.j a.tables.now.x a.k a.values o) (sym c.then_some.ensures)
    (last_set c.requires.searchable.0 c.requires.searchable.1 a.values wide a.k c.if-k-tables.true c.find-end.result
    (subst (λ (n : ℕ). FirstWith (codes_in a.tables.now.codes.now) a.tables.now.schema.now a.tables.now.words.now a.tables.now.x n a.values c.find-end.result)
    c.requires.k_le_count.1 c.find-end.ensures))

-- ---- the loop

pub loop-at-init : goal.loop-at-init
loop-at-init t c = let a = c.args in
    let g = c.requires.searchable.0 in
    let i = c.requires.searchable.1 in
    let s = shared-is t (goal.at.loop-at-init t c).Start in
    let low : a.k < a.tables.now.j.count = omega (arith, c.if-k-tables.false, c.requires.k_le_count.0) in
    let mask = get_or a.tables.now.j.sets a.k 0 in (
      g,
      i,
      low,
      (
        0,
        subst (λ (n : ℕ). Reaches (codes_in a.tables.now.codes.now) a.tables.now.schema.now a.tables.now.words.now a.tables.now.x
            (a.k + 1) n mask a.values 0 c.start-at.result) s
            (c.start-at.ensures (codes_in a.tables.now.codes.now) mask a.tables.now.nodes.now
            (subst (λ (n : ℕ). Tabled (codes_in a.tables.now.codes.now) a.tables.now.schema.now a.tables.now.words.now a.tables.now.x
            (a.k + 1) n mask a.tables.now.heads.now a.tables.now.nodes.now) (sym s) (i.levels a.k low))),
        λ q qs l. absurd (omega arith),
      ),
    )

pub has-requires-clause-by_index : goal.has-requires-clause-by_index
has-requires-clause-by_index t c = (c.loop-at.invariant.3.1.row, begun t (goal.at.has-requires-clause-by_index t c).In-loop-at)

pub with_row-row-requires : goal.with_row-row-requires
with_row-row-requires t c = let p = goal.at.with_row-row-requires t c in
    let a = c.args in
    let v = c.loop-at.invariant in
    let b = begun t p.In-loop-at in (
      begins-room (codes_in a.tables.now.codes.now) a.tables.now.schema.now a.tables.now.words.now v.0.spelled a.tables.now.x v.1.known c.loop-at.at v.3.1.row b
          (word t p.After-has (shared-is t p.Start) b c.if-has.true),
      v.1.known.narrow,
    )

pub search-found-requires : goal.search-found-requires
search-found-requires t c = let a = c.args in
    let v = c.loop-at.invariant in
    let e : bit_or a.filled (get_or a.tables.now.j.sets a.k 0) ≡ filled_to a.tables.now.j.sets (a.k + 1) =
    ap (λ (n : ℕ). bit_or n (get_or a.tables.now.j.sets a.k 0)) c.requires.k_le_count.1 ∙ filled_next a.tables.now.j.sets a.k in
    (omega (arith, v.2, c.decreases), ((v.0, v.1), (omega (arith, v.2), e)))

pub returns-in-Some : goal.returns-in-Some
returns-in-Some t c = let p = goal.at.returns-in-Some t c in
    let a = c.args in
    let v = c.loop-at.invariant in
    let r = c.with_row-row in
    let b = begun t p.In-loop-at in
    let s = shared-is t p.Start in
    let joins = made-joins v.0 v.1 a.k v.2 a.values c.loop-at.at v.3.1.row b (word t p.After-has s b c.if-has.true)
    r.result r.ensures.by_index r.ensures.by_index_2 in
    going-some v.0 v.1 a.k v.2 a.values c.loop-at.at v.3 r.result c.in-Some.places joins
    b.1 (holds t p.After-has s b c.if-has.true)
    (subst (λ (o : Option (List ℕ)). Searched (codes_in a.tables.now.codes.now) a.tables.now.schema.now a.tables.now.words.now a.tables.now.j a.tables.now.x
    (a.k + 1) r.result o) c.in-Some.is c.search-found.ensures)

pub following-at-requires-clause-by_index : goal.following-at-requires-clause-by_index
following-at-requires-clause-by_index t c = (c.loop-at.invariant.3.1.row, begun t (goal.at.following-at-requires-clause-by_index t c).In-loop-at)

pub loop-at-smaller : goal.loop-at-smaller
loop-at-smaller t c = let a = c.args in
    let v = c.loop-at.invariant in
    omega (
      arith,
      c.loop-at-test.true,
      reach-less (codes_in a.tables.now.codes.now) a.tables.now.schema.now a.tables.now.words.now v.0.spelled a.tables.now.x v.1.known (a.k + 1)
          (shared_at a.tables.now.j.sets a.k)
          (get_or a.tables.now.j.sets a.k 0) a.values v.3.1.row c.loop-at.at c.following-at.result v.3.1.place
          (onward t (goal.at.loop-at-smaller t c).After-following-at),
    )

pub loop-at-preserved : goal.loop-at-preserved
loop-at-preserved t c = let p = goal.at.loop-at-preserved t c in
    let a = c.args in
    let v = c.loop-at.invariant in
    let b = begun t p.In-loop-at in
    let s = shared-is t p.Start in
    let none : NoneBelow v.0 v.1 a.k v.2 a.values (suc v.3.1.row) =
    elim c.if-has.branch [
      | then-has+in_default w ↦
          going-nothing v.0 v.1 a.k v.2 a.values c.loop-at.at v.3 w.with_row-row.result
          (made-joins v.0 v.1 a.k v.2 a.values c.loop-at.at v.3.1.row b (word t p.After-has s b w.if-has.true)
          w.with_row-row.result w.with_row-row.ensures.by_index w.with_row-row.ensures.by_index_2)
          (subst (λ (o : Option (List ℕ)). Searched
          (codes_in a.tables.now.codes.now) a.tables.now.schema.now a.tables.now.words.now a.tables.now.j a.tables.now.x (a.k + 1) w.with_row-row.result o)
          w.in_default.is w.search-found.ensures)
      | else-has w ↦
          going-other v.0 v.1 a.k v.2 a.values c.loop-at.at v.3
          (λ has. c.has.ensures.by_index_3 v.3.1.row b w.if-has.false
          (subst (λ (n : ℕ). Has (codes_in a.tables.now.codes.now) a.tables.now.schema.now a.tables.now.words.now a.tables.now.x n a.values v.3.1.row)
          (sym s) has))
    ] in
    (v.0, v.1, v.2, going_next v.0 v.1 a.k v.2 a.values c.loop-at.at v.3 none c.following-at.result (onward t p.After-following-at))

pub returns : goal.returns
returns t c = let a = c.args in
    let v = c.loop-at.invariant in
    going-over v.0 v.1 a.k v.2 a.values c.loop-at.at v.3 c.loop-at-test.false
