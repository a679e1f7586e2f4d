-- The chase of the wide rows is the chase of the rows: a column past a row's width holds constant 0, which no replacement changes.
-- In order: rows that narrowing changes in no column; the search and the step do not tell them from the narrow ones; so neither does the chase; the
-- wide rows of a good query are such rows, and narrowing gives the view. Assumes nothing.
use mathlib.Core.Path.{◌≡◌, refl, sym, ◌∙◌, ap, ap₂, subst}
use mathlib.Core.Bool.{true}
use mathlib.Core.List.{List, [], ◌∷◌, map}
use mathlib.Core.Option
use mathlib.Core.Option.{Option, none, some, or_else, map-map}
use Prim.Native.Nat.{ℕ, zero, suc, ◌+◌, ◌*◌, ◌≤◌, ◌<◌}
use native.Mathlib.Omega.{arith}
use lib.ListN.{length, take, drop, get_or, get_or-map}
use lib.Seq.{drop-cons, drop-drop, take-take}
use Rattle.query.specs.declared.Cell.{Cell}
use Rattle.query.specs.Types as stored
use Rattle.query.specs.View.{entry_of, entries_of, rows_of, query_of}
use Rattle.lists.specs.Tests.{every}
use Rattle.query.specs.Rule.{good_cell, blank_cell, good_rows, good_up_to}
use Rattle.first_step.specs.internal.Wide.{wide_rows, wide_query, differing, first_differing}
use Rattle.lists.proofs.Maps.{take-map, map-square}
use Rattle.lists.proofs.Tests.{used-blank}
use Rattle.query.proofs.Good.{good-query}
use Rattle.query.proofs.Shape.{blank-entry}
use Rattle.chase.proofs.Good.{good-row}
use Rattle.theory.specs.Query.{Entry, constant, Row, Query, column, map_row, map_query}
use Rattle.theory.specs.Database.{Dependency}
use Rattle.theory.specs.Chase.{first_passing, first_pair, first_found, first_broken, agree, breaks, resolve, in_head, step, substitute}
use Rattle.theory.specs.Chase.{Chases, rests, clashes, replaces}
use Rattle.lists.proofs.Tests.{and_left, and_right}
use Rattle.theory.proofs.Lists.{bool_cases}

-- ---- narrowing

-- A row cut to its relation's width
abbrev pub narrow_row : List ℕ → Row Entry → Row Entry
narrow_row schema r = record { relation = r.relation; values = take (get_or schema r.relation 0) r.values }

-- A query with each row cut to its width
abbrev pub narrow_query : List ℕ → Query → Query
narrow_query schema q = record { head = q.head; rows = map (narrow_row schema) q.rows }

-- Narrowing changes no column of the row
abbrev Padded : List ℕ → Row Entry → Type 0
Padded schema r = (c : ℕ) → column (constant 0) (narrow_row schema r) c ≡ column (constant 0) r c

-- nor of any row of a list
abbrev pub AllPadded : List ℕ → List (Row Entry) → Type 0
AllPadded schema [] = Unit {0}
AllPadded schema (r ∷ rs) = Padded schema r × AllPadded schema rs

-- ---- the search

map-or_else : {A B : Type 0} (f : A → B) (a b : Option A) → Option.map f (or_else a b) ≡ or_else (Option.map f a) (Option.map f b)
unfolding or_else
map-or_else f none b = refl
map-or_else f (some x) b = refl

module _ (schema : List ℕ) where
  agree-narrow : (columns : List ℕ) (r s : Row Entry) → Padded schema r → Padded schema s
      → agree columns (narrow_row schema r) (narrow_row schema s) ≡ agree columns r s
  unfolding agree
  agree-narrow [] r s p p' = refl
  agree-narrow (c ∷ cs) r s p p' = rw (p c, p' c, agree-narrow cs r s p p')

  breaks-narrow : (d : Dependency) (r s : Row Entry) → Padded schema r → Padded schema s → breaks d (narrow_row schema r) (narrow_row schema s) ≡ breaks d r s
  unfolding breaks
  breaks-narrow d r s p p' = rw (agree-narrow d.left r s p p', p d.right, p' d.right)

  second-narrow : (d : Dependency) (r : Row Entry) (ss : List (Row Entry)) → Padded schema r → AllPadded schema ss
      → Option.map (λ s. differing (d, (narrow_row schema r, s))) (first_passing (breaks d (narrow_row schema r)) (map (narrow_row schema) ss))
      ≡ Option.map (λ s. differing (d, (r, s))) (first_passing (breaks d r) ss)
  unfolding first_passing
  second-narrow d r [] p ps = refl
  second-narrow d r (s ∷ ss) p ps =
      rw
      (breaks-narrow d r s p ps.0)
      (bool_cases
      (breaks d r s)
      (λ e. rw (e, p d.right, ps.0 d.right))
      (λ e. rw e (second-narrow d r ss p ps.1)))

  -- A pair among the rows, by its differing entries
  pair-cons : (d : Dependency) (r : Row Entry) (rs : List (Row Entry))
      → Option.map (λ p. differing (d, p)) (first_pair (breaks d) (r ∷ rs))
      ≡ or_else (Option.map (λ s. differing (d, (r, s))) (first_passing (breaks d r) rs)) (Option.map (λ p. differing (d, p)) (first_pair (breaks d) rs))
  unfolding first_pair
  pair-cons d r rs =
      map-or_else (λ p. differing (d, p)) (Option.map (λ y. (r, y)) (first_passing (breaks d r) rs)) (first_pair (breaks d) rs)
      ∙ ap
      (λ o. or_else o (Option.map (λ p. differing (d, p)) (first_pair (breaks d) rs)))
      (map-map (λ p. differing (d, p)) (λ y. (r, y)) (first_passing (breaks d r) rs))

  pair-narrow : (d : Dependency) (rs : List (Row Entry)) → AllPadded schema rs
      → Option.map (λ p. differing (d, p)) (first_pair (breaks d) (map (narrow_row schema) rs)) ≡ Option.map (λ p. differing (d, p)) (first_pair (breaks d) rs)
  unfolding first_pair
  pair-narrow d [] ps = refl
  pair-narrow d (r ∷ rs) ps =
      pair-cons d (narrow_row schema r) (map (narrow_row schema) rs)
      ∙ ap₂ or_else (second-narrow d r rs ps.0 ps.1) (pair-narrow d rs ps.1)
      ∙ sym (pair-cons d r rs)

  differing-cons : (d : Dependency) (ds : List Dependency) (rows : List (Row Entry))
      → first_differing (d ∷ ds) rows ≡ or_else (Option.map (λ p. differing (d, p)) (first_pair (breaks d) rows)) (first_differing ds rows)
  unfolding first_broken first_found
  differing-cons d ds rows =
      map-or_else differing (Option.map (λ x. (d, x)) (first_pair (breaks d) rows)) (first_found (λ d. first_pair (breaks d) rows) ds)
      ∙ ap
      (λ o. or_else o (Option.map differing (first_found (λ d. first_pair (breaks d) rows) ds)))
      (map-map differing (λ x. (d, x)) (first_pair (breaks d) rows))

  differing-narrow : (ds : List Dependency) (rows : List (Row Entry)) → AllPadded schema rows
      → first_differing ds (map (narrow_row schema) rows) ≡ first_differing ds rows
  unfolding first_broken first_found
  differing-narrow [] rows ps = refl
  differing-narrow (d ∷ ds) rows ps =
      differing-cons d ds (map (narrow_row schema) rows)
      ∙ ap₂ or_else (pair-narrow d rows ps) (differing-narrow ds rows ps)
      ∙ sym (differing-cons d ds rows)

-- ---- the step, by the differing entries

pub step-differing : (ds : List Dependency) (q : Query) → step ds q ≡ Option.map (λ p. resolve (in_head q) p.0 p.1) (first_differing ds q.rows)
unfolding step
step-differing ds q = sym (map-map (λ p. resolve (in_head q) p.0 p.1) differing (first_broken ds q.rows))

module _ (schema : List ℕ) where
  step-narrow : (ds : List Dependency) (q : Query) → AllPadded schema q.rows → step ds (narrow_query schema q) ≡ step ds q
  step-narrow ds q ps =
      step-differing ds (narrow_query schema q)
      ∙ ap (Option.map (λ p. resolve (in_head q) p.0 p.1)) (differing-narrow schema ds q.rows ps)
      ∙ sym (step-differing ds q)

  -- ---- the chase

  narrow-map_row : (f : Entry → Entry) (r : Row Entry) → narrow_row schema (map_row f r) ≡ map_row f (narrow_row schema r)
  narrow-map_row f r = ap (λ l. record { relation = r.relation; values = l }) (take-map f (get_or schema r.relation 0) r.values)

  narrow-map_query : (f : Entry → Entry) (q : Query) → narrow_query schema (map_query f q) ≡ map_query f (narrow_query schema q)
  narrow-map_query f q =
      ap
      (λ l. record { head = map f q.head; rows = l })
      (map-square (map_row f) (narrow_row schema) (narrow_row schema) (map_row f) (narrow-map_row f) q.rows)

  substitute-padded : (v : ℕ) (e : Entry) (rows : List (Row Entry)) → AllPadded schema rows → AllPadded schema (map (map_row (substitute v e)) rows)
  unfolding substitute
  substitute-padded v e [] ps = tt
  substitute-padded v e (r ∷ rs) ps =
      let w = get_or schema r.relation 0 in (
        λ c.
            ap (λ l. get_or l c (constant 0)) (take-map (substitute v e) w r.values)
            ∙ get_or-map (substitute v e) (take w r.values) c (constant 0)
            ∙ ap (substitute v e) (ps.0 c)
            ∙ sym (get_or-map (substitute v e) r.values c (constant 0)),
        substitute-padded v e rs ps.1,
      )

  -- The chase of the rows goes as the chase of the padded rows
  pub chases-narrow : {ds : List Dependency} {q result : Query} {count : ℕ} → AllPadded schema q.rows → Chases ds q result count
      → Chases ds (narrow_query schema q) (narrow_query schema result) count
  chases-narrow {ds} {q} ps (rests is) = rests (step-narrow ds q ps ∙ is)
  chases-narrow {ds} {q} ps (clashes is) = clashes (step-narrow ds q ps ∙ is)
  chases-narrow {ds} {q} ps (replaces {result = result} {v = v} {count = count} {e = e} is later) =
      replaces
      (step-narrow ds q ps ∙ is)
      (subst (λ x. Chases ds x (narrow_query schema result) count) (narrow-map_query (substitute v e) q)
      (chases-narrow (substitute-padded v e q.rows ps) later))

-- ---- the wide rows of a good query

-- Cells that are blank after the first w: no column changes where the rest is cut off
blank-column : (xs : List Cell) (c : ℕ) → every blank_cell xs ≡ true → constant 0 ≡ get_or (entries_of xs) c (constant 0)
unfolding every
blank-column [] c blank = refl
blank-column (x ∷ xs) zero blank = sym (ap entry_of (blank-entry x.entry (and_left (blank_cell x) (every blank_cell xs) blank)))
blank-column (x ∷ xs) (suc c) blank = blank-column xs c (and_right (blank_cell x) (every blank_cell xs) blank)

cut-column : (w : ℕ) (xs : List Cell) (c : ℕ) → every blank_cell (drop w xs) ≡ true
    → get_or (take w (entries_of xs)) c (constant 0) ≡ get_or (entries_of xs) c (constant 0)
cut-column zero xs c blank = blank-column xs c blank
cut-column (suc w) [] c blank = refl
cut-column (suc w) (x ∷ xs) zero blank = refl
cut-column (suc w) (x ∷ xs) (suc c) blank = cut-column w xs c blank

module _ (schema : List ℕ) (q : stored.Query) where
  -- The stored rows from row i on, n of them
  rows_split : (i n : ℕ) → n + i ≤ length q.relations
      → good_rows schema (take n (drop i q.relations)) (drop (8 * i) q.cells) ≡ true → AllPadded schema (wide_rows q i n)
  unfolding wide_rows
  rows_split i zero fits good = tt
  rows_split i (suc n) fits good =
      let inside : i < length q.relations = omega arith in
      let on : 8 * i + 8 ≡ 8 * suc i = omega arith in
      let here = drop-cons q.relations i 0 inside in
      let relation = get_or q.relations i 0 in
      let parts = good-row schema relation (take n (drop (suc i) q.relations)) (drop (8 * i) q.cells) (rw here at good) in (
        λ c. cut-column (get_or schema relation 0) (take 8 (drop (8 * i) q.cells)) c
            (used-blank (get_or schema relation 0) good_cell blank_cell (take 8 (drop (8 * i) q.cells)) parts.1),
        rows_split (suc i) n (omega arith) (rw (drop-drop, on) at parts.2),
      )

  pub wide-padded : (most : ℕ) → good_up_to most schema q ≡ true → q.size ≤ length q.relations → AllPadded schema (wide_query q).rows
  wide-padded most good fits = rows_split 0 q.size (omega arith) (good-query most schema q good).rows

  -- Narrowed, the wide rows are those of the view
  rows-narrow : ((r : ℕ) → get_or schema r 0 ≤ 8) → (i n : ℕ) → n + i ≤ length q.relations
      → map (narrow_row schema) (wide_rows q i n) ≡ rows_of schema (take n (drop i q.relations)) (drop (8 * i) q.cells)
  unfolding wide_rows rows_of
  rows-narrow narrow i zero fits = refl
  rows-narrow narrow i (suc n) fits =
      let inside : i < length q.relations = omega arith in
      let on : 8 * i + 8 ≡ 8 * suc i = omega arith in
      let relation = get_or q.relations i 0 in
      let w = get_or schema relation 0 in
      rw
      (drop-cons q.relations i 0 inside, drop-drop 8 (8 * i) q.cells, on, ← rows-narrow narrow (suc i) n (omega arith))
      (ap
      (λ l. record { relation = relation; values = l } ∷ map (narrow_row schema) (wide_rows q (suc i) n))
      (take-map (λ c. entry_of c.entry) w (take 8 (drop (8 * i) q.cells)) ∙ ap entries_of (take-take w 8 (drop (8 * i) q.cells) (narrow relation))))

  pub narrow_wide : ((r : ℕ) → get_or schema r 0 ≤ 8) → q.size ≤ length q.relations → narrow_query schema (wide_query q) ≡ query_of schema q
  narrow_wide narrow fits = ap (λ l. record { head = entries_of (take q.arity q.head); rows = l }) (rows-narrow narrow 0 q.size (omega arith))
