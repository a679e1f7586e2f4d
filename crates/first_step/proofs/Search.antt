-- The search for a broken pair as three nested loops over a stored query see it: what the whole search finds is what the part still to be searched
-- finds, at each dependency, row and second row. The laws for any lists are the theory's (`Step`). Assumes nothing.
use mathlib.Core.Path.{◌≡◌, refl, sym, ◌∙◌}
use mathlib.Core.Logic.{⊎_elim}
use mathlib.Core.Bool.{true, false}
use mathlib.Core.List.{List, [], ◌∷◌, map}
use mathlib.Core.Option.{Option, none, some}
use Prim.Native.Nat.{ℕ, zero, suc, ◌+◌, ◌*◌, ◌-◌, ◌≤◌, ◌<◌}
use native.Mathlib.Nat.{sub-zero}
use native.Mathlib.Numerals.{add-one}
use native.Mathlib.Omega.{arith}
use lib.ListN.{length, drop, get_or, drop_of_length-le}
use Rattle.query.specs.declared.Entry as stored-entry
use Rattle.query.specs.declared.Dependency as stored-dependency
use Rattle.query.specs.declared.Cell.{Cell}
use Rattle.query.specs.Types.{Query}
use Rattle.query.specs.View.{entry_of, dependency_of}
use Rattle.query.specs.Rule.{no_cell, no_dependency}
use Rattle.first_step.specs.internal.Wide.{wide_row, wide_rows, first_differing}
use lib.Seq.{drop-cons}
use Rattle.lists.proofs.Tests.{below-or-past}
use Rattle.first_step.proofs.Columns.{wide-column, breaks-other-first}
use Rattle.theory.specs.Query.{Entry, Row}
use Rattle.theory.specs.Database.{Dependency}
use Rattle.theory.specs.Chase.{first_broken, breaks}
use Rattle.theory.proofs.Step.{broken_for, broken_with, first_broken-nil, first_broken-cons, broken_for-nil, broken_for-cons, broken_with-nil}
use Rattle.theory.proofs.Step.{broken_with-true, broken_with-false}

-- Rows as a query: the head plays no part in the search
abbrev pub rows_only : ℕ → List ℕ → List Cell → Query
rows_only size relations cells = record { arity = 0; size = size; head = []; relations = relations; cells = cells }

pub rows-only : (q : Query) (i n : ℕ) → wide_rows (rows_only q.size q.relations q.cells) i n ≡ wide_rows q i n
unfolding wide_rows
rows-only q i zero = refl
rows-only q i (suc n) = rw (rows-only q (suc i) n)

module _ (q : Query) where
  -- The rows that are left of n after the first i
  abbrev rows_left : ℕ → ℕ → List (Row Entry)
  rows_left n i = wide_rows q i (n - i)

  rows-cons : (n i : ℕ) → i < n → rows_left n i ≡ wide_row q i ∷ rows_left n (i + 1)
  unfolding wide_rows
  rows-cons n i h =
      let one_less : n - i ≡ suc (n - (i + 1)) = omega arith in
      rw (one_less, add-one)

  rows_none : (n i : ℕ) → n ≤ i → rows_left n i ≡ []
  unfolding wide_rows
  rows_none n i h = let nothing : n - i ≡ 0 = omega arith in rw nothing

module _ (q : Query) (dependencies : List stored-dependency.Dependency) where
  -- The dependencies that are left after the first d
  abbrev dependencies_left : ℕ → List Dependency
  dependencies_left d = map dependency_of (drop d dependencies)

  -- Dependency d
  abbrev dependency_at : ℕ → Dependency
  dependency_at d = dependency_of (get_or dependencies d no_dependency)

  -- All rows
  abbrev rows_all : List (Row Entry)
  rows_all = wide_rows q 0 q.size

  -- What is found from dependency d on
  abbrev pub broken_from : ℕ → Option (Dependency × (Row Entry × Row Entry))
  broken_from d = first_broken (dependencies_left d) rows_all

  -- What is found from dependency d and first row i on
  abbrev pub broken_from_row : ℕ → ℕ → Option (Dependency × (Row Entry × Row Entry))
  broken_from_row d i = broken_for (dependency_at d) (rows_left q q.size i) (dependencies_left (d + 1)) rows_all

  -- What is found from dependency d, first row i and second row j on
  abbrev pub broken_from_pair : ℕ → ℕ → ℕ → Option (Dependency × (Row Entry × Row Entry))
  broken_from_pair d i j =
      broken_with (dependency_at d) (wide_row q i) (rows_left q q.size j) (rows_left q q.size (i + 1)) (dependencies_left (d + 1)) rows_all

  pub dependency-next : (d : ℕ) → d < length dependencies → broken_from d ≡ broken_from_row d 0
  dependency-next d h = rw (drop-cons dependencies d no_dependency h, first_broken-cons, sub-zero, add-one)

  pub dependency-last : (d : ℕ) → length dependencies ≤ d → broken_from d ≡ none
  dependency-last d h = rw (drop_of_length-le dependencies {i = d} h) (first_broken-nil rows_all)

  pub row_next : (d i : ℕ) → i < q.size → broken_from_row d i ≡ broken_from_pair d i (i + 1)
  row_next d i h = rw (rows-cons q q.size i h, broken_for-cons)

  pub row_last : (d i : ℕ) → q.size ≤ i → broken_from_row d i ≡ broken_from (d + 1)
  row_last d i h = rw (rows_none q q.size i h, broken_for-nil)

  pub pair-next : (d i j : ℕ) → j < q.size → breaks (dependency_at d) (wide_row q i) (wide_row q j) ≡ false
      → broken_from_pair d i j ≡ broken_from_pair d i (j + 1)
  pair-next d i j h whole = rw (rows-cons q q.size j h) (broken_with-false _ _ _ _ _ _ _ whole)

  pub pair-last : (d i j : ℕ) → q.size ≤ j → broken_from_pair d i j ≡ broken_from_row d (i + 1)
  pair-last d i j h = rw (rows_none q q.size j h) (broken_with-nil _ _ _ _ _)

  -- No pair is broken whose first row is of another relation
  pairs-skip : (d i : ℕ) → (get_or q.relations i 0 ≡ (dependency_at d).relation → ⊥) → (n j : ℕ) → q.size ≤ j + n
      → broken_from_pair d i j ≡ broken_from_row d (i + 1)
  pairs-skip d i other zero j end = pair-last d i j (omega arith)
  pairs-skip d i other (suc n) j end =
      ⊎_elim
      (λ (h : j < q.size).
      pair-next d i j h (breaks-other-first q.relations q.cells (get_or dependencies d no_dependency) i j other)
      ∙ pairs-skip d i other n (j + 1) (omega arith))
      (λ h. pair-last d i j h)
      (below-or-past j q.size)

  pub row-skip : (d i : ℕ) → i < q.size → (get_or q.relations i 0 ≡ (dependency_at d).relation → ⊥) → broken_from_row d i ≡ broken_from_row d (i + 1)
  row-skip d i h other = row_next d i h ∙ pairs-skip d i other q.size (i + 1) (omega arith)

  -- Where the search ends with nothing
  pub nothing-found : broken_from 0 ≡ none → none ≡ first_differing (dependencies_left 0) rows_all
  nothing-found e = rw e

  -- The entries that the code hands out for a broken pair
  pub pair_found : (d i j : ℕ) (a b : stored-entry.Entry) → j < q.size → (get_or dependencies d no_dependency).right < 8
      → true ≡ breaks (dependency_at d) (wide_row q i) (wide_row q j)
      → a ≡ (get_or q.cells (8 * i + (get_or dependencies d no_dependency).right) no_cell).entry
      → b ≡ (get_or q.cells (8 * j + (get_or dependencies d no_dependency).right) no_cell).entry
      → broken_from 0 ≡ broken_from_pair d i j → some (entry_of a, entry_of b) ≡ first_differing (dependencies_left 0) rows_all
  pair_found d i j a b h fits broken a-is b-is before =
      let right = (get_or dependencies d no_dependency).right in
      rw (
        before,
        rows-cons q q.size j h,
        broken_with-true (dependency_at d) (wide_row q i) (wide_row q j) _ _ _ _ (sym broken),
        wide-column (get_or q.relations i 0) q.cells i right fits,
        wide-column (get_or q.relations j 0) q.cells j right fits,
        a-is,
        b-is,
      )
