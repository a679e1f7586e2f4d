-- The sets of a join dependency in another order. 1. What can be searched can be so arranged. 2. The same row is missing, and with the same first position.
-- 3. The first choice, from its first position and the first choice after it. Assumes nothing.
use mathlib.Core.Path.{◌≡◌, refl, sym, ◌∙◌, ap, subst}
use mathlib.Core.Logic.{inl, ⊎_elim}
use mathlib.Core.List.Memᴰ
use mathlib.Core.List.{List, [], ◌∷◌}
use Prim.Native.Nat.{ℕ, zero, suc, ◌+◌, ◌≤◌, ◌<◌}
use native.Mathlib.Numerals.{add-one}
use native.Mathlib.Omega.{arith}
use lib.Bits.{bit_or}
use lib.ListN.{length, take, get_or, set}
use Rattle.lists.proofs.Tests.{below-or-past}
use Rattle.theory.specs.Query.{Row, ◌∈◌}
use Rattle.theory.specs.Database.{Database, Agree}
use Rattle.theory.proofs.Lists.{mem-cases}
use Rattle.query.specs.View.{columns_of, join_of}
use Rattle.query.specs.declared.JoinDependency.{JoinDependency}
use Rattle.words.specs.Broken.{nth_row}
use Rattle.words.specs.Words.{database_of}
use Rattle.join_testing.specs.Meaning.{GoWith, Earlier}
use Rattle.join_lookup.specs.declared.Index.{Index}
use Rattle.std.specs.Prelude.{Option, None, Some}
use Rattle.join_lookup.specs.internal.Starts.{start_of, row_count, BeginsAt, row_with, Has}
use Rattle.join_tables.specs.internal.Indexed.{filled_to, shared_at, Searchable, Indexed}
use Rattle.join_testing.specs.internal.Search.{sets_from, BreaksFrom, FirstFrom, Searched, plainly}
use Rattle.join_order.specs.internal.Arranged.{Arranged}
use Rattle.join_testing.proofs.Sets as sets
use Rattle.theory.specs.Codes.{CodePair}
use Rattle.words.specs.Words.{database_read}
use Rattle.words.proofs.Reading.{read-length}
use Rattle.join_testing.proofs.Searching.{Joins, Going, NoneBelow, breaks-some, breaks-has, breaks-down, going-some, has_word}

-- ---- 1. what can be searched

arranged-back : (j r : JoinDependency) (first : ℕ) → Arranged j r first → length j.sets ≡ 4 → Arranged r j first
arranged-back j r first a shaped =
    let e : r.count ≡ j.count = a.count in
    record {
      relation = sym a.relation;
      count = sym a.count;
      shaped = shaped;
      stay = λ k h. sym (a.stay k h);
      from = λ k low high. let f = a.back k low (omega arith) in (f.0, f.1, omega (arith, f.2), f.3);
      back = λ k low high. let f = a.from k low (omega arith) in (f.0, f.1, omega (arith, f.2), f.3);
      past = λ k h. sym (a.past k (omega arith));
    }

-- Each set is one of the others
arranged-has : (j r : JoinDependency) (first : ℕ) → Arranged j r first → (k : ℕ) → k < j.count → (l : ℕ) × (l < j.count) × (get_or r.sets k 0 ≡ get_or j.sets l 0)
arranged-has j r first a k h =
    ⊎_elim (λ low. (k, h, a.stay k low)) (λ high. let f = a.from k high h in (f.0, f.2, f.3)) (below-or-past k first)

-- There is a set
pub some-sets : {schema words : List ℕ} {j : JoinDependency} → Searchable schema words j → 0 < j.count
some-sets {j = j} g =
    ⊎_elim (λ l. l)
    (λ l. absurd (g.fits.some-set (none (join_of j).sets (sets.sets-size j g.shaped g.few ∙ (let z : j.count ≡ 0 = omega arith in z)))))
    (below-or-past 0 j.count)
  where
    none : (l : List (List ℕ)) → length l ≡ 0 → l ≡ []
    none [] z = refl
    none (x ∷ l) z = absurd (omega arith)

module _ (schema words : List ℕ) (j r : JoinDependency) (first : ℕ) (a : Arranged j r first) (g : Searchable schema words j) where
  few : r.count ≤ 4
  few = omega (arith, a.count, g.few)

  arranged-covers : (c : ℕ) → c < get_or schema r.relation 0 → (s : List ℕ) × s ∈ (join_of r).sets × c ∈ s
  arranged-covers c h =
      let s = g.fits.covers c (omega (arith, ap (λ (n : ℕ). get_or schema n 0) a.relation)) in
      let place = sets.in-sets j g.shaped g.few 0 s.0 s.1 in
      let there = arranged-has r j first (arranged-back j r first a g.shaped) place.0 (omega (arith, place.2, a.count)) in (
        columns_of (get_or r.sets there.0 0),
        sets.sets-in r a.shaped few 0 there.0 (omega arith) there.1,
        subst (λ (l : List ℕ). c ∈ l) (sym place.3 ∙ ap columns_of there.2) s.2,
      )

  arranged-some : (join_of r).sets ≡ [] → ⊥
  arranged-some e =
      let some = some-sets g in
      let size : length (join_of r).sets ≡ 0 = ap length e in
      omega (arith, sets.sets-size r a.shaped few, a.count)

  pub arranged-searchable : Searchable schema words r
  arranged-searchable =
      let wide : get_or schema r.relation 0 ≡ get_or schema j.relation 0 = ap (λ (n : ℕ). get_or schema n 0) a.relation in
      record {
        spelled = g.spelled;
        fits = record { known = subst (λ (n : ℕ). n < length schema) (sym a.relation) g.fits.known; some-set = arranged-some; covers = arranged-covers };
        shaped = a.shaped;
        few = few;
        small =
            λ k. ⊎_elim (λ low. let s = arranged-has j r first a k low in subst (λ (n : ℕ). n < 256) (sym s.2) (g.small s.0))
            (λ high. subst (λ (n : ℕ). n < 256) (sym (a.past k high)) (g.small k)) (below-or-past k j.count);
        narrow = omega (arith, g.narrow);
        within =
            λ k h c there.
            let s = arranged-has j r first a k (omega (arith, a.count)) in
            let w = g.within s.0 s.1 c (subst (λ (n : ℕ). c ∈ columns_of n) s.2 there) in
            omega arith;
      }

-- ---- 2. the same row

-- Rows go with a row exactly where there is one for each set
goes-each : (D : Database) (r : Row ℕ) (l : List (List ℕ)) (ps : List ℕ) → GoWith l D r ps → (s : List ℕ) → s ∈ l
    → (p : ℕ) × (p < length D) × ((nth_row D p).relation ≡ r.relation) × Agree 0 s (nth_row D p) r
goes-each D r [] (p ∷ ps) g s at = elim g [ ]
goes-each D r (t ∷ l) [] g s at = elim g [ ]
goes-each D r [] [] g s at = absurd (Memᴰ.not-nil at)
goes-each D r (t ∷ l) (p ∷ ps) g s at =
    mem-cases at (λ here. (p, g.0, g.1, subst (λ (x : List ℕ). Agree 0 x (nth_row D p) r) (sym here) g.2)) (goes-each D r l ps g.3 s)

each_goes : (D : Database) (r : Row ℕ) (l : List (List ℕ))
    → ((s : List ℕ) → s ∈ l → (p : ℕ) × (p < length D) × ((nth_row D p).relation ≡ r.relation) × Agree 0 s (nth_row D p) r) → (ps : List ℕ) × GoWith l D r ps
each_goes D r [] each = ([], tt)
each_goes D r (t ∷ l) each =
    let here = each t (Memᴰ.head refl) in
    let rest = each_goes D r l (λ s at. each s (Memᴰ.tail at)) in
    (here.0 ∷ rest.0, (here.1, here.2, here.3, rest.1))

pub filled-same : (xs ys : List ℕ) (n : ℕ) → ((k : ℕ) → k < n → get_or xs k 0 ≡ get_or ys k 0) → filled_to xs n ≡ filled_to ys n
unfolding filled_to
filled-same xs ys zero same = refl
filled-same xs ys (suc n) same =
    ap (λ (m : ℕ). bit_or m (get_or xs n 0)) (filled-same xs ys n (λ k h. same k (omega arith))) ∙ ap (bit_or (filled_to ys n)) (same n (omega arith))

-- Two indexes of one relation
pub record SameRelation (x y : Index) : Type 0 where
  pub relation : x.relation ≡ y.relation
  pub width : x.width ≡ y.width

with-same : (x y : Index) → SameRelation x y → (values : List ℕ) → row_with x values ≡ row_with y values
with-same x y s values = λ t. record { relation = s.relation t; values = take (s.width t) values }

breaks-index : {codes : List CodePair} {schema words : List ℕ} {j : JoinDependency} (x y : Index) → SameRelation x y → (k : ℕ) (values ps : List ℕ)
    → BreaksFrom codes schema words j x k values ps → BreaksFrom codes schema words j y k values ps
breaks-index {j = j} x y s k values ps b =
    record {
      row = b.row;
      fits = b.fits;
      relation = b.relation ∙ s.relation;
      kept = subst (λ (r : Row ℕ). Agree 0 (columns_of (filled_to j.sets k)) r b.row) (with-same x y s values) b.kept;
      chosen = b.chosen;
      absent = b.absent;
    }

-- What a search finds does not depend on the tables
pub searched-index : (codes : List CodePair) (schema words : List ℕ) (j : JoinDependency) (x y : Index) → SameRelation x y
    → (k : ℕ) (values : List ℕ) (found : Option (List ℕ))
    → Searched codes schema words j x k values found → Searched codes schema words j y k values found
searched-index codes schema words j x y s k values None f =
    let t : SameRelation y x = record { relation = sym s.relation; width = sym s.width } in λ ps b. f ps (breaks-index y x t k values ps b)
searched-index codes schema words j x y s k values (Some at) f =
    let t : SameRelation y x = record { relation = sym s.relation; width = sym s.width } in
    let first = f.1 in (
      f.0,
      record {
        positions = first.positions;
        breaks = breaks-index x y s k values first.positions first.breaks;
        before = λ qs less b. first.before qs less (breaks-index y x t k values qs b);
        places = first.places;
      },
    )

module _ {codes : List CodePair} {schema words : List ℕ} (j r : JoinDependency) (k : ℕ) (a : Arranged j r (suc k)) (more : k < j.count)
    (g : Searchable schema words j)
    (h : Searchable schema words r) (x y : Index) (s : SameRelation x y) (values : List ℕ) where
  -- With the sets after k in another order the same row is missing, and with the same position for set k
  pub breaks-arranged : (q : ℕ) (qs : List ℕ) → BreaksFrom codes schema words r x k values (q ∷ qs) → (ps : List ℕ)
      × BreaksFrom codes schema words j y k values (q ∷ ps)
  breaks-arranged q qs b =
      let D : Database = database_read codes schema words in
      let low : k < r.count = omega (arith, a.count) in
      let c = subst (λ (l : List (List ℕ)). GoWith l D b.row (q ∷ qs)) (sets.sets-cons r h.shaped h.few k low) b.chosen in
      let rest = each_goes D b.row (sets_from j (suc k)) (λ t at.
      let place = sets.in-sets j g.shaped g.few (suc k) t at in
      let there = a.back place.0 place.1 place.2 in
      let e : columns_of (get_or r.sets there.0 0) ≡ t = ap columns_of (sym there.3) ∙ place.3 in
      goes-each D b.row (sets_from r (suc k)) qs c.3 t
      (Memᴰ.cast (sym e) (sets.sets-in r h.shaped h.few (suc k) there.0 there.1 (omega (arith, there.2, a.count))))) in
      let mask : columns_of (get_or r.sets k 0) ≡ columns_of (get_or j.sets k 0) = ap columns_of (a.stay k (omega arith)) in
      let filled : filled_to r.sets k ≡ filled_to j.sets k = filled-same r.sets j.sets k (λ n l. a.stay n (omega arith)) in (
        rest.0,
        breaks-index x y s k values (q ∷ rest.0)
            (record {
              row = b.row;
              fits = b.fits;
              relation = b.relation;
              kept = subst (λ (n : ℕ). Agree 0 (columns_of n) (row_with x values) b.row) filled b.kept;
              chosen =
                  subst (λ (l : List (List ℕ)). GoWith l D b.row (q ∷ rest.0)) (sym (sets.sets-cons j g.shaped g.few k more))
                  (c.0, c.1, subst (λ (l : List ℕ). Agree 0 l (nth_row D q) b.row) mask c.2, rest.1);
              absent = b.absent;
            }),
      )

-- ---- 3. the first choice

-- Without tables everything that a search asks of them holds
pub plain-indexed : {codes : List CodePair} {schema words : List ℕ} (j : JoinDependency) → Searchable schema words j
    → Indexed codes schema words j (plainly schema j) [] []
plain-indexed {codes} {schema} j g =
    record {
      known = record { known = g.fits.known; width = refl; narrow = g.narrow; few = omega arith };
      relation = refl;
      room = λ some. absurd (omega arith);
      levels = λ k h some. absurd (omega arith);
      whole = λ some. absurd (omega arith);
    }

-- The index of a join dependency is of the relation that is tested
pub index-plain : {codes : List CodePair} {schema words heads nodes : List ℕ} (j r : JoinDependency) (x : Index) → r.relation ≡ j.relation
    → Indexed codes schema words r x heads nodes
    → SameRelation x (plainly schema j)
index-plain {codes} {schema} j r x e i =
    record {
      relation = i.relation ∙ e;
      width = i.known.width ∙ ap (λ (n : ℕ). get_or schema n 0) (i.relation ∙ e);
    }

module _ {codes : List CodePair} {schema words heads nodes : List ℕ} (j r : JoinDependency) (k : ℕ) (a : Arranged j r (suc k)) (more : k < j.count)
    (g : Searchable schema words j)
    (h : Searchable schema words r) (x : Index) (i : Indexed codes schema words r x heads nodes) (values : List ℕ) where
  abbrev y : Index
  y = plainly schema j

  abbrev plain : Indexed codes schema words j (plainly schema j) [] []
  plain = plain-indexed j g

  same : SameRelation x (plainly schema j)
  same = index-plain j r x a.relation i

  swapped : SameRelation (plainly schema j) x
  swapped = record { relation = sym same.relation; width = sym same.width }

  abbrev back : Arranged r j (suc k)
  back = arranged-back j r (suc k) a g.shaped

  more-r : k < r.count
  more-r = omega (arith, a.count)

  -- Rows for the sets as they are held are rows for them as they are arranged
  to-arranged : (q : ℕ) (qs : List ℕ) → BreaksFrom codes schema words j (plainly schema j) k values (q ∷ qs)
      → (ps : List ℕ) × BreaksFrom codes schema words r x k values (q ∷ ps)
  to-arranged q qs b = breaks-arranged r j k back more-r h g (plainly schema j) x swapped values q qs b

  -- Where nothing is found there is nothing
  pub arranged-none : Searched codes schema words r x k values None → Searched codes schema words j (plainly schema j) k values None
  arranged-none s [] b = breaks-some g plain k more values b
  arranged-none s (q ∷ qs) b = let c = to-arranged q qs b in s (q ∷ c.0) c.1

  module _ (at : List ℕ) (s : Searched codes schema words r x k values (Some at)) where
    -- The first position for set k: some rows for the sets after it go with it, and none with one before
    pub record FirstRow (p : ℕ) : Type 0 where
      pub place : get_or at k 0 ≡ start_of schema words p
      pub rest : List ℕ
      pub breaks : BreaksFrom codes schema words j (plainly schema j) k values (p ∷ rest)
      pub before : NoneBelow g plain k more values p

    pub first-row : (p : ℕ) × FirstRow p
    first-row = go f.positions f.breaks f.before f.places
      where
        f : FirstFrom codes schema words r x k values at
        f = s.1

        go : (ps : List ℕ) → BreaksFrom codes schema words r x k values ps
            → ((qs : List ℕ) → Earlier qs ps → BreaksFrom codes schema words r x k values qs → ⊥)
            → ((n : ℕ) → get_or at (k + n) 0 ≡ start_of schema words (get_or ps n 0)) → (p : ℕ) × FirstRow p
        go [] b before places = absurd (breaks-some h i k more-r values b)
        go (p ∷ ps) b before places =
            let c = breaks-arranged j r k a more g h x (plainly schema j) same values p ps b in
            let z : k + 0 ≡ k = omega arith in (
              p,
              record {
                place = ap (λ (n : ℕ). get_or at n 0) (sym z) ∙ places 0;
                rest = c.0;
                breaks = c.1;
                before = λ q qs low d. let t = to-arranged q qs d in before (q ∷ t.0) (inl low) t.1;
              },
            )

    module _ (p : ℕ) (f : FirstRow p) where
      -- Its row has the values that are known
      pub row-has : Has codes schema words (plainly schema j) (shared_at j.sets k) values p
      row-has = breaks-has g plain k more values p f.rest f.breaks

      pub row-begins : BeginsAt schema words (get_or at k 0) p
      row-begins = (f.place, inside)
        where
          inside : p < row_count schema words
          inside =
              let goes = subst (λ (l : List (List ℕ)). GoWith l (database_read codes schema words) f.breaks.row (p ∷ f.rest))
              (sets.sets-cons j g.shaped g.few k more) f.breaks.chosen in
              omega (arith, goes.0, read-length codes (database_of schema words))

      pub row-word : get_or words (get_or at k 0) 0 ≡ j.relation
      row-word = has_word codes (plainly schema j) g (shared_at j.sets k) values (get_or at k 0) p row-begins row-has

      -- The first choice after it makes it whole
      pub chosen-first : (row : List ℕ) → Joins codes schema words (plainly schema j) (get_or j.sets k 0) p values row → (places : List ℕ)
          → Searched codes schema words j (plainly schema j) (k + 1) row (Some places)
          → Searched codes schema words j (plainly schema j) k values (Some (set places k (get_or at k 0)))
      chosen-first row joins places t = going-some g plain k more values (get_or at k 0) way row places joins row-begins.1 row-has t
        where
          way : Going g plain k more values (get_or at k 0)
          way = (
            p,
            record {
              row = p;
              place = f.place;
              after = omega arith;
              inside = omega (arith, row-begins.1);
              here = λ some. absurd (omega arith);
              passed = λ q low high. absurd (omega arith);
            },
            f.before,
          )

      -- And there is one
      pub chosen-some : (row : List ℕ) → Joins codes schema words (plainly schema j) (get_or j.sets k 0) p values row
          → Searched codes schema words j (plainly schema j) (k + 1) row None → ⊥
      chosen-some row joins t =
          t f.rest
          (subst (λ (n : ℕ). BreaksFrom codes schema words j (plainly schema j) n row f.rest) (sym (add-one k))
          (breaks-down g plain k more values p row joins f.rest f.breaks))
