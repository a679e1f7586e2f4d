-- The search for a choice of rows, set by set. 1. The sets and their columns. 2. After the last set. 3. A row more for the next set. 4. The rows that are
-- passed. Assumes nothing.
use mathlib.Core.Path.{◌≡◌, refl, sym, ◌∙◌, ap, subst}
use mathlib.Core.Logic.{inl, inr, ⊎_elim}
use mathlib.Core.Bool.{Bool, true, false}
use mathlib.Core.List.Memᴰ
use mathlib.Core.List.{List, [], ◌∷◌}
use Prim.Native.Nat.{ℕ, zero, suc, ◌+◌, ◌≤◌, ◌<◌}
use native.Mathlib.Numerals.{add-one}
use native.Mathlib.Omega.{arith}
use lib.Bits.{bit_or, or_lt, and_le_l}
use lib.Dec.{eqb, lit<}
use borrow.Author.Tests.{eqb-true, eqb-false}
use lib.ListN.{length, get_or, set, replicate, length-set}
use lib.Seq.{ext_get_or, length-take-le, get_or-set_same, get_or-set_other}
use Rattle.lists.proofs.Positions.{get_or-in, in-get_or}
use Rattle.lists.proofs.Tests.{below-or-past}
use Rattle.theory.specs.Query.{Row, column, FitsSchema, ◌∈◌}
use Rattle.theory.specs.Database.{Database, Agree}
use Rattle.theory.proofs.Lists.{mem-dec}
use Rattle.query.specs.View.{columns_of}
use Rattle.query.specs.declared.JoinDependency.{JoinDependency}
use Rattle.words.specs.Words.{database_of}
use Rattle.join_lookup.specs.declared.Index.{Index}
use Rattle.std.specs.Prelude.{None, Some}
use Rattle.std.specs.Bool.{then_some}
use Rattle.join_testing.specs.Meaning.{GoWith, Earlier}
use Rattle.join_lookup.specs.internal.Starts.{start_of, row_count, BeginsAt, row_of, row_with, Of, Has}
use Rattle.join_lookup.specs.internal.Tables.{Reaches, FirstWith}
use Rattle.join_tables.specs.internal.Indexed.{filled_to, shared_at, Searchable, Indexed}
use Rattle.join_testing.specs.internal.Search.{sets_from, BreaksFrom, FirstFrom, Searched}
use Rattle.join_lookup.proofs.Bits.{BitOf, column-bit, bit-column, or-bit, bit-or, and-bit, bit-and}
use Rattle.join_lookup.proofs.Starting.{inside-start, outside-start, start-end, start-relation, row_fits, with-past}
use Rattle.join_lookup.proofs.Having.{with-column, begins-column}
use Rattle.theory.specs.Codes.{CodePair}
use Rattle.theory.specs.Codes.{read_code}
use Rattle.words.specs.Words.{database_read}
use Rattle.words.proofs.Reading.{read-length}
use Rattle.join_testing.proofs.Sets as sets

-- ---- 1. the sets

-- A column of one of the first sets is among theirs
filled-has : (sets : List ℕ) (n k c : ℕ) → k < n → BitOf (get_or sets k 0) c → BitOf (filled_to sets n) c
unfolding filled_to
filled-has sets zero k c h bit = absurd (omega arith)
filled-has sets (suc n) k c h bit =
    bit-or (filled_to sets n) (get_or sets n 0) c
    (⊎_elim (λ low. inl (filled-has sets n k c low bit)) (λ high. let e : k ≡ n = omega arith in inr (subst (λ (i : ℕ). BitOf (get_or sets i 0) c) e bit))
    (below-or-past k n))

pub filled-small : (sets : List ℕ) → ((k : ℕ) → get_or sets k 0 < 256) → (n : ℕ) → filled_to sets n < 256
unfolding filled_to
filled-small sets small zero = lit< tt
filled-small sets small (suc n) = or_lt 8 (filled_to sets n) (get_or sets n 0) (filled-small sets small n) (small n)

pub filled_next : (sets : List ℕ) (k : ℕ) → bit_or (filled_to sets k) (get_or sets k 0) ≡ filled_to sets (k + 1)
unfolding filled_to
filled_next sets k = ap (filled_to sets) (sym (add-one k))

-- The values with those of row q in the columns of a set
abbrev pub Joins : List CodePair → List ℕ → List ℕ → Index → ℕ → ℕ → List ℕ → List ℕ → Type 0
Joins codes schema words x mask q values row =
    Agree 0 (columns_of mask) (row_of codes schema words q) (row_with x row)
    × ((c : ℕ) → (c ∈ columns_of mask → ⊥) → column 0 (row_with x row) c ≡ column 0 (row_with x values) c)

replicate-zero : (n i : ℕ) → get_or (replicate {A = ℕ} n 0) i 0 ≡ 0
replicate-zero zero i = refl
replicate-zero (suc n) zero = refl
replicate-zero (suc n) (suc i) = replicate-zero n i

module _ {codes : List CodePair} {schema words : List ℕ} {j : JoinDependency} {x : Index} {heads nodes : List ℕ} (g : Searchable schema words j)
    (i : Indexed codes schema words j x heads nodes) where
  abbrev D : Database
  D = database_read codes schema words

  -- There are as many rows as they are read
  as_many : length D ≡ row_count schema words
  as_many = read-length codes (database_of schema words)

  abbrev set_at : ℕ → ℕ
  set_at k = get_or j.sets k 0

  sets-cons : (k : ℕ) → k < j.count → sets_from j k ≡ columns_of (set_at k) ∷ sets_from j (suc k)
  sets-cons = sets.sets-cons j g.shaped g.few

  sets_end : sets_from j j.count ≡ []
  sets_end = sets.sets_end j g.shaped g.few

  x-width : x.width ≡ get_or schema j.relation 0
  x-width = i.known.width ∙ ap (λ (r : ℕ). get_or schema r 0) i.relation

  -- All columns are in the sets
  all-filled : (c : ℕ) → c < x.width → c ∈ columns_of (filled_to j.sets j.count)
  all-filled c h =
      let s = g.fits.covers c (omega (arith, x-width)) in
      let place = sets.in-sets j g.shaped g.few 0 s.0 s.1 in
      let there : c ∈ columns_of (set_at place.0) = subst (λ (l : List ℕ). c ∈ l) (sym place.3) s.2 in
      bit-column (filled_to j.sets j.count) c (filled-small j.sets g.small j.count)
      (filled-has j.sets j.count place.0 c place.2 (column-bit (set_at place.0) c (g.small place.0) there))

  -- ---- 2. after the last set

  module _ (values : List ℕ) (wide : length values ≡ 8) where
    with-length : length (row_with x values).values ≡ x.width
    with-length = length-take-le x.width values (omega (arith, i.known.narrow))

    with-fits : FitsSchema schema (row_with x values)
    with-fits = (i.known.known, with-length ∙ i.known.width)

    -- A row of the relation with the values in all columns is them
    row_is : (r : Row ℕ) → FitsSchema schema r → r.relation ≡ x.relation → ((c : ℕ) → c < x.width → column 0 (row_with x values) c ≡ column 0 r c)
        → row_with x values ≡ r
    row_is r fits relation same =
        let size : length r.values ≡ x.width = fits.1 ∙ ap (λ (n : ℕ). get_or schema n 0) relation ∙ sym i.known.width in
        let e : (row_with x values).values ≡ r.values =
        ext_get_or 0 (row_with x values).values r.values (with-length ∙ sym size) (λ c l. same c (omega (arith, with-length))) in
        let f : (row_with x values).relation ≡ r.relation = sym relation in
        λ t. record { relation = f t; values = e t }

    module _ (k : ℕ) (last : k ≡ j.count) (end : ℕ) (f : FirstWith codes schema words x (filled_to j.sets k) values end) where
      leaf-absent : end ≡ length words → row_with x values ∈ D → ⊥
      leaf-absent e at =
          let z : Row ℕ = record { relation = 0; values = [] } in
          let place = in-get_or D z at in
          let all : f.row ≡ row_count schema words =
          outside-start schema words g.spelled f.row f.inside (omega (arith, f.place)) in
          f.before place.0 (omega (arith, place.1, as_many))
          (ap (λ (r : Row ℕ). r.relation) place.2, λ c there. ap (λ (r : Row ℕ). column 0 r c) place.2)

      pub leaf-some : end ≡ length words → FirstFrom codes schema words j x k values (replicate 4 0)
      unfolding start_of
      leaf-some e =
          record {
            positions = [];
            breaks =
                record {
                  row = row_with x values;
                  fits = with-fits;
                  relation = refl;
                  kept = λ c there. refl;
                  chosen = subst (λ (l : List (List ℕ)). GoWith l D (row_with x values) []) (sym (ap (sets_from j) last ∙ sets_end)) tt;
                  absent = leaf-absent e;
                };
            before = λ qs less b. never qs less;
            places = λ n. replicate-zero 4 (k + n);
          }
        where
          never : (qs : List ℕ) → Earlier qs [] → ⊥
          never [] less = less
          never (q ∷ qs) less = less

      pub leaf-none : (end ≡ length words → ⊥) → (ps : List ℕ) → BreaksFrom codes schema words j x k values ps → ⊥
      leaf-none other ps b =
          let inside : f.row < row_count schema words =
          ⊎_elim (λ l. l)
          (λ l. let e : f.row ≡ row_count schema words = omega (arith, f.inside) in
          absurd (other (f.place ∙ ap (start_of schema words) e ∙ start-end schema words g.spelled)))
          (below-or-past f.row (row_count schema words)) in
          let has = f.here inside in
          let full : (c : ℕ) → c < x.width → c ∈ columns_of (filled_to j.sets k) =
          λ c l. subst (λ (n : ℕ). c ∈ columns_of (filled_to j.sets n)) (sym last) (all-filled c l) in
          let one : row_with x values ≡ b.row = row_is b.row b.fits b.relation (λ c l. b.kept c (full c l)) in
          let two : row_with x values ≡ row_of codes schema words f.row =
          row_is (row_of codes schema words f.row) (row_fits codes schema words g.spelled f.row inside) has.0 (λ c l. sym (has.1 c (full c l))) in
          b.absent (Memᴰ.cast (sym one ∙ two) (get_or-in D f.row (record { relation = 0; values = [] }) (omega (arith, inside, as_many))))

  -- ---- 3. a row more

  module _ (k : ℕ) (more : k < j.count) (values : List ℕ) where
    abbrev mask : ℕ
    mask = set_at k

    abbrev filled : ℕ
    filled = filled_to j.sets k

    abbrev shared : ℕ
    shared = shared_at j.sets k

    filled-256 : filled < 256
    filled-256 = filled-small j.sets g.small k

    pub shared-256 : shared < 256
    shared-256 = omega (arith, and_le_l mask filled, g.small k)

    -- Positions that break it begin with one for this set
    breaks-chosen : (q : ℕ) (qs : List ℕ) (b : BreaksFrom codes schema words j x k values (q ∷ qs))
        → (q < row_count schema words) × ((row_of codes schema words q).relation ≡ b.row.relation)
        × Agree 0 (columns_of mask) (row_of codes schema words q) b.row
        × GoWith (sets_from j (suc k)) D b.row qs
    breaks-chosen q qs b =
        let goes = subst (λ (l : List (List ℕ)). GoWith l D b.row (q ∷ qs)) (sets-cons k more) b.chosen in
        (omega (arith, goes.0, as_many), goes.1, goes.2, goes.3)

    pub breaks-some : BreaksFrom codes schema words j x k values [] → ⊥
    breaks-some b = subst (λ (l : List (List ℕ)). GoWith l D b.row []) (sets-cons k more) b.chosen

    -- Its row has the values that are known already
    pub breaks-has : (q : ℕ) (qs : List ℕ) → BreaksFrom codes schema words j x k values (q ∷ qs) → Has codes schema words x shared values q
    breaks-has q qs b =
        let s = breaks-chosen q qs b in (
          s.1 ∙ b.relation,
          λ c there.
              let both = and-bit mask filled c (column-bit shared c shared-256 there) in
              s.2 c (bit-column mask c (g.small k) both.0) ∙ sym (b.kept c (bit-column filled c filled-256 both.1)),
        )

    -- Another row with the same values in the set does as well
    breaks-other : (q p : ℕ) (qs : List ℕ) → p < q → Of codes schema words x p
        → Agree 0 (columns_of mask) (row_of codes schema words p) (row_of codes schema words q)
        → BreaksFrom codes schema words j x k values (q ∷ qs) → BreaksFrom codes schema words j x k values (p ∷ qs)
    breaks-other q p qs less of same b =
        let s = breaks-chosen q qs b in
        record {
          row = b.row;
          fits = b.fits;
          relation = b.relation;
          kept = b.kept;
          chosen =
              subst (λ (l : List (List ℕ)). GoWith l D b.row (p ∷ qs)) (sym (sets-cons k more))
              (omega (arith, less, s.0, as_many), of ∙ sym b.relation, (λ c there. same c there ∙ s.2 c there), s.3);
          absent = b.absent;
        }

    module _ (q : ℕ) (row : List ℕ) (joins : Joins codes schema words x mask q values row) where
      -- a column of the sets up to this one
      next-kept : (r : Row ℕ) → Agree 0 (columns_of filled) (row_with x values) r → Agree 0 (columns_of mask) (row_of codes schema words q) r
          → Agree 0 (columns_of (filled_to j.sets (suc k))) (row_with x row) r
      unfolding filled_to
      next-kept r old new c there =
          ⊎_elim (λ here. sym (joins.0 c here) ∙ new c here)
          (λ other.
          joins.1 c other
          ∙ ⊎_elim (λ bit. old c (bit-column filled c filled-256 bit)) (λ bit. absurd (other (bit-column mask c (g.small k) bit)))
          (or-bit filled mask c (column-bit (bit_or filled mask) c (or_lt 8 filled mask filled-256 (g.small k)) there)))
          (mem-dec c (columns_of mask))

      kept-filled : (c : ℕ) → c ∈ columns_of filled → c ∈ columns_of (filled_to j.sets (suc k))
      unfolding filled_to
      kept-filled c there =
          bit-column (bit_or filled mask) c (or_lt 8 filled mask filled-256 (g.small k)) (bit-or filled mask c (inl (column-bit filled c filled-256 there)))

      kept-mask : (c : ℕ) → c ∈ columns_of mask → c ∈ columns_of (filled_to j.sets (suc k))
      unfolding filled_to
      kept-mask c there =
          bit-column (bit_or filled mask) c (or_lt 8 filled mask filled-256 (g.small k)) (bit-or filled mask c (inr (column-bit mask c (g.small k) there)))

      pub breaks-down : (qs : List ℕ) → BreaksFrom codes schema words j x k values (q ∷ qs) → BreaksFrom codes schema words j x (suc k) row qs
      breaks-down qs b =
          let s = breaks-chosen q qs b in
          record { row = b.row; fits = b.fits; relation = b.relation; kept = next-kept b.row b.kept s.2; chosen = s.3; absent = b.absent }

      pub breaks-up : (qs : List ℕ) → q < row_count schema words → Has codes schema words x shared values q → BreaksFrom codes schema words j x (suc k) row qs
          → BreaksFrom codes schema words j x k values (q ∷ qs)
      breaks-up qs inside has b =
          record {
            row = b.row;
            fits = b.fits;
            relation = b.relation;
            kept =
                λ c there. ⊎_elim
                (λ here.
                let both = bit-column shared c shared-256 (bit-and mask filled c (column-bit mask c (g.small k) here) (column-bit filled c filled-256 there)) in
                sym (has.1 c both) ∙ joins.0 c here ∙ b.kept c (kept-filled c there))
                (λ other. sym (joins.1 c other) ∙ b.kept c (kept-filled c there)) (mem-dec c (columns_of mask));
            chosen =
                subst (λ (l : List (List ℕ)). GoWith l D b.row (q ∷ qs)) (sym (sets-cons k more))
                (omega (arith, inside, as_many), has.0 ∙ sym b.relation, (λ c there. joins.0 c there ∙ b.kept c (kept-mask c there)), b.chosen);
            absent = b.absent;
          }

    -- ---- 4. the rows that are passed

    -- No positions that begin below n break it
    abbrev pub NoneBelow : ℕ → Type 0
    NoneBelow n = (q : ℕ) (qs : List ℕ) → q < n → BreaksFrom codes schema words j x k values (q ∷ qs) → ⊥

    -- The way through the rows for this set
    abbrev pub Going : ℕ → Type 0
    Going at = (from : ℕ) × Reaches codes schema words x (k + 1) shared mask values from at × NoneBelow from

    module _ (at : ℕ) (w : Going at) where
      none-to : (n q : ℕ) (qs : List ℕ) → q < n → q < w.1.row → BreaksFrom codes schema words j x k values (q ∷ qs) → ⊥
      none-to zero q qs h low b = omega arith
      none-to (suc n) q qs h low b =
          ⊎_elim (λ before. w.2 q qs before b)
          (λ past.
          let out = w.1.passed q past low (breaks-has q qs b) in
          none-to n out.1 qs (omega (arith, out.2)) (omega (arith, out.2)) (breaks-other q out.1 qs out.2 out.3 out.4 b))
          (below-or-past q w.0)

      none_passed : NoneBelow w.1.row
      none_passed q qs low b = none-to (suc q) q qs (omega arith) low b

      pub going-begins : at < length words → BeginsAt schema words at w.1.row
      going-begins h = (w.1.place, inside-start schema words g.spelled w.1.row w.1.inside (omega (arith, w.1.place)))

      none_more : ((qs : List ℕ) → BreaksFrom codes schema words j x k values (w.1.row ∷ qs) → ⊥) → NoneBelow (suc w.1.row)
      none_more here q qs low b =
          ⊎_elim (λ l. none_passed q qs l b)
          (λ l. let e : q ≡ w.1.row = omega arith in here qs (subst (λ (n : ℕ). BreaksFrom codes schema words j x k values (n ∷ qs)) e b))
          (below-or-past q w.1.row)

      -- The row has other values
      pub going-other : (Has codes schema words x shared values w.1.row → ⊥) → NoneBelow (suc w.1.row)
      going-other other = none_more (λ qs b. other (breaks-has w.1.row qs b))

      -- There is nothing from it on
      pub going-none : (row : List ℕ) → Joins codes schema words x mask w.1.row values row
          → ((qs : List ℕ) → BreaksFrom codes schema words j x (suc k) row qs → ⊥) → NoneBelow (suc w.1.row)
      going-none row joins nothing = none_more (λ qs b. nothing qs (breaks-down w.1.row row joins qs b))

      -- There is a choice from it on
      pub going-found : (row list : List ℕ) → Joins codes schema words x mask w.1.row values row → w.1.row < row_count schema words
          → Has codes schema words x shared values w.1.row → length list ≡ 4 → FirstFrom codes schema words j x (suc k) row list
          → FirstFrom codes schema words j x k values (set list k at)
      going-found row list joins inside has size f =
          record {
            positions = w.1.row ∷ f.positions;
            breaks = breaks-up w.1.row row joins f.positions inside has f.breaks;
            before = earlier;
            places = placed;
          }
        where
          earlier : (qs : List ℕ) → Earlier qs (w.1.row ∷ f.positions) → BreaksFrom codes schema words j x k values qs → ⊥
          earlier [] less b = less
          earlier (q ∷ qs) less b =
              ⊎_elim (λ l. none_passed q qs l b)
              (λ same.
              f.before qs same.1
              (breaks-down w.1.row row joins qs (subst (λ (n : ℕ). BreaksFrom codes schema words j x k values (n ∷ qs)) same.0 b))) less

          placed : (n : ℕ) → get_or (set list k at) (k + n) 0 ≡ start_of schema words (get_or (w.1.row ∷ f.positions) n 0)
          placed zero =
              let e : k + 0 ≡ k = omega arith in
              ap (λ (m : ℕ). get_or (set list k at) m 0) e ∙ get_or-set_same list k at 0 (omega (arith, more, g.few, size)) ∙ w.1.place
          placed (suc n) =
              let e : k + suc n ≡ suc k + n = omega arith in
              get_or-set_other list k (k + suc n) at 0 (λ same. omega arith) ∙ ap (λ (m : ℕ). get_or list m 0) e ∙ f.places n

      -- No row is left
      pub going_end : length words ≤ at → (ps : List ℕ) → BreaksFrom codes schema words j x k values ps → ⊥
      going_end past [] b = breaks-some b
      going_end past (q ∷ qs) b =
          let all : w.1.row ≡ row_count schema words =
          outside-start schema words g.spelled w.1.row w.1.inside (omega (arith, w.1.place)) in
          none_passed q qs (omega (arith, (breaks-chosen q qs b).0)) b

    -- The values with those of a row put in
    pub made-joins : (at p : ℕ) → BeginsAt schema words at p → get_or words at 0 ≡ x.relation → (row : List ℕ)
        → ((c : ℕ) → c < x.width → BitOf mask c → get_or row c 0 ≡ read_code codes (get_or words (at + 1 + c) 0))
        → ((c : ℕ) → (BitOf mask c → ⊥) → get_or row c 0 ≡ get_or values c 0) → Joins codes schema words x mask p values row
    made-joins at p b relation row new old = (
      λ c there.
          let low : c < x.width = omega (arith, g.within k more c there, x-width) in
          begins-column codes schema words g.spelled x i.known at p b relation c low ∙ sym (new c low (column-bit mask c (g.small k) there))
          ∙ sym (with-column x row c low),
      λ c other. ⊎_elim
          (λ low. with-column x row c low ∙ old c (λ bit. other (bit-column mask c (g.small k) bit)) ∙ sym (with-column x values c low))
          (λ high. with-past x row c high ∙ sym (with-past x values c high)) (below-or-past c x.width),
    )

    module _ (at : ℕ) (w : Going at) where
      -- What the search from the next set on finds decides
      pub going-nothing : (row : List ℕ) → Joins codes schema words x mask w.1.row values row → Searched codes schema words j x (k + 1) row None
          → NoneBelow (suc w.1.row)
      going-nothing row joins s =
          going-none at w row joins
          (λ qs b. s qs (subst (λ (n : ℕ). BreaksFrom codes schema words j x n row qs) (sym (add-one k)) b))

      pub going-some : (row places : List ℕ) → Joins codes schema words x mask w.1.row values row → w.1.row < row_count schema words
          → Has codes schema words x shared values w.1.row → Searched codes schema words j x (k + 1) row (Some places)
          → Searched codes schema words j x k values (Some (set places k at))
      going-some row places joins inside has s = (
        length-set places k at ∙ s.0,
        going-found at w row places joins inside has s.0 (subst (λ (n : ℕ). FirstFrom codes schema words j x n row places) (add-one k) s.1),
      )

      pub going-over : length words ≤ at → Searched codes schema words j x k values None
      going-over past = going_end at w past

      -- The way goes on
      pub going_next : NoneBelow (suc w.1.row) → (r : ℕ) → Reaches codes schema words x (k + 1) shared mask values (suc w.1.row) r → Going r
      going_next none r next = (suc w.1.row, next, none)

  -- After the last set it is decided whether the row is there
  pub last_set : (values : List ℕ) → length values ≡ 8 → (k : ℕ) → k ≡ j.count → (end : ℕ) → FirstWith codes schema words x (filled_to j.sets k) values end
      → Searched codes schema words j x k values (then_some (eqb end (length words)) (replicate 4 0))
  last_set values wide k last end f = go (eqb end (length words)) refl
    where
      go : (b : Bool) → eqb end (length words) ≡ b → Searched codes schema words j x k values (then_some b (replicate 4 0))
      go true t = (refl, leaf-some values wide k last end f (eqb-true end (length words) t))
      go false t = leaf-none values wide k last end f (eqb-false end (length words) t)

-- A row that has values begins with the relation
pub has_word : (codes : List CodePair) {schema words : List ℕ} {j : JoinDependency} (x : Index) → Searchable schema words j
    → (columns : ℕ) (values : List ℕ) (at p : ℕ)
    → BeginsAt schema words at p → Has codes schema words x columns values p → get_or words at 0 ≡ x.relation
has_word codes {schema} {words} x g columns values at p b has =
    ap (λ (n : ℕ). get_or words n 0) b.0 ∙ sym (start-relation codes schema words g.spelled p b.1) ∙ has.0
