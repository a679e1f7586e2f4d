-- The choice from a set on, set by set: with the sets after it arranged the first row for it is found, and the call for the next set finds the others. The
-- measure is the sets left. Assumes nothing.
use mathlib.Core.Path.{◌≡◌, refl, sym, ap, subst, ◌∙◌}
use Prim.Native.Nat.{ℕ, suc, ◌+◌}
use native.Mathlib.Numerals.{add-one}
use native.Mathlib.Omega.{arith}
use lib.Bits.{bit_or}
use lib.ListN.{get_or}
use mathlib.Core.List.{List}
use Rattle.std.specs.Prelude.{Option}
use Rattle.join_lookup.specs.internal.Starts.{BeginsAt}
use Rattle.join_tables.specs.internal.Indexed.{filled_to, Searchable}
use Rattle.join_testing.specs.internal.Search.{Searched, plainly}
use Rattle.join_lookup.proofs.Having.{begins-room}
use Rattle.join_testing.proofs.Searching.{Joins, filled_next, made-joins}
use Rattle.join_testing.proofs.Arranging.{filled-same, searched-index, plain-indexed, index-plain, arranged-searchable, arranged-none, FirstRow, first-row}
use Rattle.join_testing.proofs.Arranging.{row-begins, row-word, chosen-first, chosen-some}
use Rattle.join_order.specs.internal.Arranged.{Arranged}
use Rattle.join_testing.proofs.+choose.Goals as goal
use Rattle.codes.specs.internal.Codes.{codes_in}
use Rattle.join_testing.proofs.+choose.Goals.{After-arrange-arranged, In_ok-found, After-with_row-row}

-- The sets as they are arranged
arranged : (t : ℕ) (c : After-arrange-arranged t) → Arranged c.args.j c.arrange-arranged.result (suc c.args.k)
arranged t c = subst (λ (n : ℕ). Arranged c.args.j c.arrange-arranged.result n) (add-one c.args.k) c.arrange-arranged.ensures

searchable : (t : ℕ) (c : After-arrange-arranged t) → Searchable c.args.schema.now c.args.words.now c.arrange-arranged.result
searchable t c = let a = c.args in
    arranged-searchable a.schema.now a.words.now a.j c.arrange-arranged.result (suc a.k) (arranged t c) c.requires.0

-- The first row for set k
abbrev FirstAt : (t : ℕ) (c : In_ok-found t) → Arranged c.args.j c.arrange-arranged.result (suc c.args.k)
    → Searchable c.args.schema.now c.args.words.now c.arrange-arranged.result → ℕ → Type 0
FirstAt t c v h p = let a = c.args in
    FirstRow a.j c.arrange-arranged.result a.k v c.requires.1 c.requires.0 h c.build-x-2.result c.build-x-2.ensures
    a.values c.in_ok-found.found c.in_ok-found.ensures p

first : (t : ℕ) (c : In_ok-found t) (v : Arranged c.args.j c.arrange-arranged.result (suc c.args.k))
    (h : Searchable c.args.schema.now c.args.words.now c.arrange-arranged.result) → (p : ℕ) × FirstAt t c v h p
first t c v h = let a = c.args in
    first-row a.j c.arrange-arranged.result a.k v c.requires.1 c.requires.0 h c.build-x-2.result c.build-x-2.ensures
    a.values c.in_ok-found.found c.in_ok-found.ensures

row_begins : (t : ℕ) (c : In_ok-found t) (v : Arranged c.args.j c.arrange-arranged.result (suc c.args.k))
    (h : Searchable c.args.schema.now c.args.words.now c.arrange-arranged.result)
    → BeginsAt c.args.schema.now c.args.words.now (get_or c.in_ok-found.found c.args.k 0) (first t c v h).0
row_begins t c v h = let a = c.args in
    row-begins a.j c.arrange-arranged.result a.k v c.requires.1 c.requires.0 h c.build-x-2.result c.build-x-2.ensures
    a.values c.in_ok-found.found c.in_ok-found.ensures (first t c v h).0 (first t c v h).1

row_word : (t : ℕ) (c : In_ok-found t) (v : Arranged c.args.j c.arrange-arranged.result (suc c.args.k))
    (h : Searchable c.args.schema.now c.args.words.now c.arrange-arranged.result)
    → get_or c.args.words.now (get_or c.in_ok-found.found c.args.k 0) 0 ≡ c.args.j.relation
row_word t c v h = let a = c.args in
    row-word a.j c.arrange-arranged.result a.k v c.requires.1 c.requires.0 h c.build-x-2.result c.build-x-2.ensures
    a.values c.in_ok-found.found c.in_ok-found.ensures (first t c v h).0 (first t c v h).1

-- The values that it gives go with it
joins : (t : ℕ) (c : After-with_row-row t) (v : Arranged c.args.j c.arrange-arranged.result (suc c.args.k))
    (h : Searchable c.args.schema.now c.args.words.now c.arrange-arranged.result) (p : ℕ)
    → BeginsAt c.args.schema.now c.args.words.now (get_or c.in_ok-found.found c.args.k 0) p
    → get_or c.args.words.now (get_or c.in_ok-found.found c.args.k 0) 0 ≡ c.args.j.relation
    → Joins (codes_in c.args.codes.now) c.args.schema.now c.args.words.now (plainly c.args.schema.now c.args.j)
    (get_or c.args.j.sets c.args.k 0) p c.args.values c.with_row-row.result
joins t c v h p begins word = let a = c.args in
    let w = c.with_row-row in
    let same = index-plain a.j c.arrange-arranged.result c.build-x-2.result v.relation c.build-x-2.ensures in
    made-joins c.requires.0 (plain-indexed a.j c.requires.0) a.k c.requires.1 a.values (get_or c.in_ok-found.found a.k 0) p
    begins word w.result (λ d l bit. w.ensures.by_index d (omega (arith, same.width)) bit) w.ensures.by_index_2

pub returns-then-j-k : goal.returns-then-j-k
returns-then-j-k t c = let a = c.args in
    let x = c.build-x.result in
    searched-index (codes_in a.codes.now) a.schema.now a.words.now a.j x (plainly a.schema.now a.j)
    (index-plain a.j a.j x refl c.build-x.ensures) a.k a.values c.search.result c.search.ensures

pub build-x-requires-2 : goal.build-x-requires-2
build-x-requires-2 t c = searchable t (goal.at.build-x-requires-2 t c).After-arrange-arranged

pub search-requires-2-clause-searchable : goal.search-requires-2-clause-searchable
search-requires-2-clause-searchable t c =
    (searchable t (goal.at.search-requires-2-clause-searchable t c).After-arrange-arranged, c.build-x-2.ensures)

pub search-requires-2-clause-k_le_count : goal.search-requires-2-clause-k_le_count
search-requires-2-clause-k_le_count t c = let a = c.args in
    let v = arranged t (goal.at.search-requires-2-clause-k_le_count t c).After-arrange-arranged in (
      omega (arith, c.requires.1, v.count),
      c.requires.2 ∙ sym (filled-same c.arrange-arranged.result.sets a.j.sets a.k (λ n l. v.stay n (omega arith))),
    )

pub returns-in_err-found : goal.returns-in_err-found
returns-in_err-found t c = let p = (goal.at.returns-in_err-found t c).After-arrange-arranged in
    let a = c.args in
    subst (λ (o : Option (List ℕ)). Searched (codes_in a.codes.now) a.schema.now a.words.now a.j (plainly a.schema.now a.j) a.k a.values o)
    (sym c.from_residual.ensures)
    (arranged-none a.j c.arrange-arranged.result a.k (arranged t p) c.requires.1 c.requires.0 (searchable t p) c.build-x-2.result c.build-x-2.ensures
    a.values c.in_err-found.ensures)

pub with_row-row-requires : goal.with_row-row-requires
with_row-row-requires t c = let q = goal.at.with_row-row-requires t c in
    let v = arranged t q.After-arrange-arranged in
    let h = searchable t q.After-arrange-arranged in
    let a = c.args in
    let i = c.build-x-2.ensures in (
      begins-room (codes_in a.codes.now) a.schema.now a.words.now c.requires.0.spelled c.build-x-2.result i.known (get_or c.in_ok-found.found a.k 0)
          (first t c v h).0
          (row_begins t c v h) (row_word t c v h ∙ sym (i.relation ∙ v.relation)),
      i.known.narrow,
    )

pub choose-requires : goal.choose-requires
choose-requires t c = let a = c.args in
    let e : bit_or a.filled (get_or a.j.sets a.k 0) ≡ filled_to a.j.sets (a.k + 1) =
    ap (λ (n : ℕ). bit_or n (get_or a.j.sets a.k 0)) c.requires.2 ∙ filled_next a.j.sets a.k in
    (omega (arith, c.requires.1, c.decreases), (c.requires.0, omega (arith, c.if-j-k.false), e))

pub returns-in_err-places : goal.returns-in_err-places
returns-in_err-places t c = let q = goal.at.returns-in_err-places t c in
    let v = arranged t q.After-arrange-arranged in
    let h = searchable t q.After-arrange-arranged in
    let e = q.In_ok-found in
    let a = c.args in
    let f = first t e v h in
    subst (λ (o : Option (List ℕ)). Searched (codes_in a.codes.now) a.schema.now a.words.now a.j (plainly a.schema.now a.j) a.k a.values o)
    (sym c.from_residual-in_err-places.ensures)
    (λ ps b. absurd (chosen-some a.j c.arrange-arranged.result a.k v c.requires.1 c.requires.0 h c.build-x-2.result c.build-x-2.ensures
    a.values c.in_ok-found.found c.in_ok-found.ensures f.0 f.1 c.with_row-row.result (joins t q.After-with_row-row v h f.0 (row_begins t e v h) (row_word t e v h)) c.in_err-places.ensures))

pub returns : goal.returns
returns t c = let q = goal.at.returns t c in
    let v = arranged t q.After-arrange-arranged in
    let h = searchable t q.After-arrange-arranged in
    let e = q.In_ok-found in
    let a = c.args in
    let f = first t e v h in
    chosen-first a.j c.arrange-arranged.result a.k v c.requires.1 c.requires.0 h c.build-x-2.result c.build-x-2.ensures
    a.values c.in_ok-found.found c.in_ok-found.ensures f.0 f.1 c.with_row-row.result (joins t q.After-with_row-row v h f.0 (row_begins t e v h) (row_word t e v h)) c.in_ok-places.places c.in_ok-places.ensures
