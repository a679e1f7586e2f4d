-- The row that the search finds is the row to be added: its cells stand for what the first missing choice yields, of the first join dependency that has one.
-- Assumes nothing.
use mathlib.Core.Path.{◌≡◌, refl, sym, ◌∙◌, ap, subst}
use mathlib.Core.Bool.{Bool, true, cond}
use mathlib.Core.List.Memᴰ
use mathlib.Core.List.{List, [], ◌∷◌, map}
use mathlib.Core.Option
use mathlib.Core.Option.{Option, none, some, or_else}
use Prim.Native.Nat.{ℕ, zero, suc, ◌+◌, ◌-◌, ◌%◌, ◌≤◌, ◌<◌}
use native.Mathlib.Nat.{le_of_suc-le-suc}
use native.Mathlib.Omega.{arith}
use borrow.Author.Tests.{eq-eqb, ne_eqb, lt-ltb, le-leb}
use lib.Dec.{ltb, leb}
use lib.ListN.{length, take, drop, get_or, length-map, length-drop, get_or-map}
use lib.Seq.{ext_get_or, get_or-take, get_or-drop, length-take-le}
use Rattle.lists.specs.Tests.{every, in_use}
use Rattle.lists.proofs.Tests.{and_both, every-get_or, every_made, used-whole}
use Rattle.theory.specs.Query.{Entry, constant, variable, Row, ◌∈◌}
use Rattle.theory.specs.Chase.{first_found}
use Rattle.theory.specs.Database as database
use Rattle.theory.proofs.Lists.{bool_cases}
use Rattle.joins.specs.Join.{in_some, JoinFits}
use Rattle.joins.specs.JoinChase.{Choice, chosen_entry, yields, first_missing, first_unmet, next_row}
use Rattle.joins.proofs.Choices.{yields-length, yields-column, yields-relation}
use Rattle.joins.proofs.Fitting.{in_some-set}
use Rattle.query.specs.declared.Cell.{Cell}
use Rattle.query.specs.declared.JoinDependency.{JoinDependency}
use Rattle.query.specs.View.{entry_of, entries_of, columns_of, join_of}
use Rattle.query.specs.Rule.{good_entry, good_cell, blank_cell, good_row, good_join, no_cell}
use Rattle.query.specs.internal.Code.{decoded}
use Rattle.query.proofs.Stored.{Within}
use Rattle.query.proofs.Codes.{decoded-constant, decoded-variable}
use Rattle.join_rule.proofs.Fitting.{good-join-fits, good-join-within}
use Rattle.join_search.specs.internal.Search.{free_row, extend_of}
use Rattle.join_step.specs.internal.Step.{cell_of}
use Rattle.join_step.proofs.Cells.{mapped_at}
use Rattle.join_step.proofs.Choosing.{code, code-not-free, sets_of, Coded, Stands, Covers, Same, search-finds}

-- ---- cells of codes

-- The cell of the code of an entry within the limits stands for the entry, and is good
cell-entry : (e : Entry) → Within e → entry_of (cell_of (code e)).entry ≡ e
cell-entry e within = ap (λ (b : Bool). entry_of (cond b no_cell (record { entry = decoded (code e) })).entry) (ne_eqb _ _ (code-not-free e within)) ∙ back e within
  where
    back : (e : Entry) → Within e → entry_of (decoded (code e)) ≡ e
    back (constant n) h = ap entry_of (decoded-constant n h)
    back (variable v) h =
        let number : (2147483648 + v - 2147483648) % 256 ≡ v = omega arith in
        ap entry_of (decoded-variable (2147483648 + v) (omega arith)) ∙ ap variable number

cell-good : (e : Entry) → Within e → good_cell (cell_of (code e)) ≡ true
cell-good e within = ap (λ (b : Bool). good_cell (cond b no_cell (record { entry = decoded (code e) }))) (ne_eqb _ _ (code-not-free e within)) ∙ back e within
  where
    back : (e : Entry) → Within e → good_entry (decoded (code e)) ≡ true
    back (constant n) h = ap good_entry (decoded-constant n h) ∙ le-leb n 2147483647 (omega arith)
    back (variable v) h =
        let number : (2147483648 + v - 2147483648) % 256 ≡ v = omega arith in
        ap good_entry (decoded-variable (2147483648 + v) (omega arith)) ∙ ap (λ (n : ℕ). leb n 95) number ∙ le-leb v 95 (omega arith)

-- ---- the row of a choice

module _ (schema : List ℕ) (j : database.JoinDependency) (narrow : get_or schema j.relation 0 ≤ 8) (rows : List (Row Entry)) (codes relations : List ℕ)
    (coded : Coded schema rows codes relations) (choice : Choice) (chosen : List ℕ) (stands : Stands schema j narrow rows codes relations coded choice chosen)
    (covers : Covers schema j narrow rows codes relations coded choice) where
  width : ℕ
  width = get_or schema j.relation 0

  -- A column of the relation is chosen, any other is free
  cell_at : (c : ℕ) → c < 8 → get_or (map cell_of chosen) c no_cell ≡ cell_of (get_or chosen c 0)
  cell_at c low = sym (mapped_at cell_of chosen c 0 no_cell (omega (arith, stands.long)))

  cell-chosen : (c : ℕ) → c < width → get_or (map cell_of chosen) c no_cell ≡ cell_of (code (chosen_entry choice c))
  unfolding width
  cell-chosen c less =
      let low : c < 8 = omega (arith, narrow) in
      cell_at c low ∙ ap cell_of (stands.chosen_is c low (covers c less))

  cell_free : (c : ℕ) → width ≤ c → c < 8 → get_or (map cell_of chosen) c no_cell ≡ no_cell
  unfolding width
  cell_free c past low =
      cell_at c low
      ∙ bool_cases (in_some c (sets_of choice))
      (λ has.
      let found = in_some-set c (sets_of choice) has in
      let from = Memᴰ.of_map (λ (p : List ℕ × Row Entry). p.0) choice found.1 in
      let below = stands.columns from.0 from.1 c (subst (λ l. c ∈ l) (sym from.2) found.2) in
      absurd (omega (arith, below)))
      (λ out. ap cell_of (stands.free-is c low out))

  -- Its cells stand for the row that the choice yields
  pub row-yields : record { relation = j.relation; values = entries_of (take (get_or schema j.relation 0) (map cell_of chosen)) } ≡ yields schema j choice
  unfolding width
  row-yields =
      let cells = map cell_of chosen in
      let f : Cell → Entry = λ x. entry_of x.entry in
      let long : length (take width cells) ≡ width =
      length-take-le width cells (omega (arith, length-map chosen cell_of, stands.long, narrow)) in
      let wide : length (entries_of (take width cells)) ≡ width = length-map (take width cells) f ∙ long in
      let values : entries_of (take width cells) ≡ (yields schema j choice).values =
      ext_get_or (constant 0) (entries_of (take width cells)) (yields schema j choice).values (wide ∙ sym (yields-length schema j choice))
      (λ c less.
      let below : c < width = omega (arith, wide) in
      get_or-map f (take width cells) c no_cell ∙ ap f (get_or-take width cells c no_cell below ∙ cell-chosen c below)
      ∙ cell-entry (chosen_entry choice c) (stands.entries c (omega (arith, narrow))) ∙ sym (yields-column schema j choice c below)) in
      let same : j.relation ≡ (yields schema j choice).relation = sym (yields-relation schema j choice) in
      λ k. record { relation = same k; values = values k }

  -- and are good
  pub row-good : j.relation < length schema → good_row schema j.relation (map cell_of chosen) ≡ true
  unfolding width
  row-good known =
      let cells = map cell_of chosen in
      let eight : length cells ≡ 8 = length-map chosen cell_of ∙ stands.long in
      let long = length-take-le width cells (omega (arith, eight, narrow)) in
      and_both (ltb j.relation (length schema)) (in_use width good_cell blank_cell cells) (lt-ltb j.relation (length schema) known)
      (used-whole width good_cell blank_cell cells
      (every_made good_cell (take width cells) no_cell (λ c less.
      let below : c < width = omega (arith, long) in
      ap good_cell (get_or-take width cells c no_cell below ∙ cell-chosen c below)
      ∙ cell-good (chosen_entry choice c) (stands.entries c (omega (arith, narrow)))))
      (every_made blank_cell (drop width cells) no_cell (λ c less.
      let short = length-drop width cells in
      ap blank_cell (get_or-drop width cells c no_cell ∙ cell_free (width + c) (omega arith) (omega (arith, eight, short))))))

-- ---- the first of some join dependencies

-- What is found for the element at k, where nothing is found for those before it
first-at : {D A : Type 0} (find : D → Option A) (xs : List D) (k : ℕ) (z : D) (a : A) → k < length xs → ((e : ℕ) → e < k → find (get_or xs e z) ≡ none)
    → find (get_or xs k z) ≡ some a → first_found find xs ≡ some (get_or xs k z, a)
unfolding first_found or_else
first-at find [] k z a h before here = absurd (omega arith)
first-at find (x ∷ xs) zero z a h before here = rw here
first-at find (x ∷ xs) (suc k) z a h before here =
    rw (before 0 (omega arith)) (first-at find xs k z a (le_of_suc-le-suc h) (λ e l. before (suc e) (omega arith)) here)

-- Nothing is found for any
first-none : {D A : Type 0} (find : D → Option A) (xs : List D) (z : D) → ((e : ℕ) → e < length xs → find (get_or xs e z) ≡ none) → first_found find xs ≡ none
unfolding first_found or_else
first-none find [] z nothing = refl
first-none find (x ∷ xs) z nothing = rw (nothing 0 (omega arith)) (first-none find xs z (λ e l. nothing (suc e) (omega arith)))

module _ (schema : List ℕ) (narrow : (i : ℕ) → get_or schema i 0 ≤ 8) (rows : List (Row Entry)) (codes relations : List ℕ)
    (coded : Coded schema rows codes relations) (joins : List JoinDependency) (good : every (good_join schema) joins ≡ true)
    (z : JoinDependency) where
  -- Join dependency k
  at : ℕ → JoinDependency
  at k = get_or joins k z

  -- What the search over codes finds for it
  abbrev pub searched_at : ℕ → Option (List ℕ)
  searched_at k =
      extend_of codes relations (length rows) (get_or joins k z).relation (take (get_or joins k z).count (get_or joins k z).sets) free_row

  held_at : (k : ℕ) → get_or (map join_of joins) k (join_of z) ≡ join_of (at k)
  unfolding at
  held_at k = get_or-map join_of joins k z

  held-long : length (map join_of joins) ≡ length joins
  held-long = length-map joins join_of

  good-at : (k : ℕ) → k < length joins → good_join schema (at k) ≡ true
  unfolding at
  good-at k h = every-get_or (good_join schema) joins k z good h

  fits-at : (k : ℕ) → k < length joins → length (at k).sets ≡ 4 → JoinFits schema (join_of (at k))
  fits-at k h four = good-join-fits schema (at k) (eq-eqb (length (at k).sets) 4 four) (good-at k h)

  -- It is the theory's search
  same_at : (k : ℕ) → k < length joins → length (at k).sets ≡ 4
      → Same schema (join_of (at k)) (narrow (at k).relation) rows codes relations coded (searched_at k) (first_missing schema rows (join_of (at k)))
  unfolding at
  same_at k h four =
      search-finds schema (join_of (at k)) (narrow (at k).relation) rows codes relations coded (fits-at k h four) (take (at k).count (at k).sets) refl
      (λ m there c inside. good-join-within schema (at k) (good-at k h) (columns_of m) (Memᴰ.map columns_of there) c inside)

  none-at : (k : ℕ) → k < length joins → length (at k).sets ≡ 4 → searched_at k ≡ none → first_missing schema rows (join_of (at k)) ≡ none
  none-at k h four e =
      go (first_missing schema rows (join_of (at k)))
      (subst (λ o. Same schema (join_of (at k)) (narrow (at k).relation) rows codes relations coded o (first_missing schema rows (join_of (at k)))) e (same_at k h four))
    where
      go : (o : Option Choice) → Same schema (join_of (at k)) (narrow (at k).relation) rows codes relations coded none o → o ≡ none
      go none s = refl
      go (some choice) s = absurd s

  -- Nothing is found for the join dependencies before k
  abbrev pub Nothing : ℕ → Type 0
  Nothing k = (e : ℕ) → e < k → (length (get_or joins e z).sets ≡ 4) × (searched_at e ≡ none)

  pub next-none : Nothing (length joins) → none ≡ next_row schema (map join_of joins) rows
  unfolding next_row first_unmet at
  next-none nothing =
      sym (ap (Option.map (λ found. yields schema found.0 found.1))
      (first-none (first_missing schema rows) (map join_of joins) (join_of z) (λ e less.
      let h : e < length joins = omega (arith, held-long) in
      ap (first_missing schema rows) (held_at e) ∙ none-at e h (nothing e h).0 (nothing e h).1)))

  pub next-found : (k : ℕ) (chosen : List ℕ) → k < length joins → Nothing k → length (get_or joins k z).sets ≡ 4 → searched_at k ≡ some chosen
      → (some (record {
        relation = (get_or joins k z).relation;
        values = entries_of (take (get_or schema (get_or joins k z).relation 0) (map cell_of chosen));
      }) ≡ next_row schema (map join_of joins) rows)
      × (good_row schema (get_or joins k z).relation (map cell_of chosen) ≡ true)
  unfolding next_row first_unmet at
  next-found k chosen h nothing four e =
      go (first_missing schema rows (join_of (at k))) refl
      (subst (λ o. Same schema (join_of (at k)) (narrow (at k).relation) rows codes relations coded o (first_missing schema rows (join_of (at k)))) e (same_at k h four))
    where
      go : (o : Option Choice) → first_missing schema rows (join_of (at k)) ≡ o
          → Same schema (join_of (at k)) (narrow (at k).relation) rows codes relations coded (some chosen) o
          → (some (record { relation = (at k).relation; values = entries_of (take (get_or schema (at k).relation 0) (map cell_of chosen)) })
          ≡ Option.map (λ found. yields schema found.0 found.1) (first_found (first_missing schema rows) (map join_of joins)))
          × (good_row schema (at k).relation (map cell_of chosen) ≡ true)
      go none is s = absurd s
      go (some choice) is s =
          let first = first-at (first_missing schema rows) (map join_of joins) k (join_of z) choice (omega (arith, held-long))
          (λ d less.
          let low : d < length joins = omega arith in
          ap (first_missing schema rows) (held_at d) ∙ none-at d low (nothing d less).0 (nothing d less).1)
          (ap (first_missing schema rows) (held_at k) ∙ is) in (
            ap some (row-yields schema (join_of (at k)) (narrow (at k).relation) rows codes relations coded choice chosen s.0 s.1)
                ∙ sym (ap (Option.map (λ found. yields schema found.0 found.1)) first
                ∙ ap (λ d. some (yields schema d choice)) (held_at k)),
            row-good schema (join_of (at k)) (narrow (at k).relation) rows codes relations coded choice chosen s.0 s.1
                (fits-at k h four).known,
          )
