-- The searches of a test, from one row of the words to the next: what is found from a row on is found there or after it. Assumes nothing.
use mathlib.Core.Path.{◌≡◌, refl, ap, ap₂, sym, ◌∙◌}
use mathlib.Core.Bool.{Bool, true, false, and-false}
use mathlib.Core.List.{List, [], ◌∷◌}
use mathlib.Core.Option.{Option, none, some, or_else, map}
use Prim.Native.Nat.{ℕ, suc, ◌+◌, ◌≤◌}
use native.Mathlib.Numerals.{add-one}
use native.Mathlib.Omega.{arith}
use lib.Dec.{eqb}
use borrow.Author.Tests.{ne_eqb}
use lib.ListN.{length, drop, get_or, drop_of_length-le}
use Rattle.theory.specs.Query.{Row}
use Rattle.theory.specs.Database.{Database, Dependency}
use Rattle.theory.specs.Chase.{first_passing, first_pair, first_found, breaks}
use Rattle.theory.specs.Codes.{CodePair, read_database}
use Rattle.words.specs.Words.{rows_from, database_read}
use Rattle.words.specs.internal.Rows.{row_read, Next, rows_read}
use Rattle.words.specs.Testing.{numbered_from, breaks_rows, breaks_with, first_pair_from, first_broken_from}
use Rattle.words.specs.Broken.{violation_of}
use Rattle.words.specs.internal.Found.{partner_of, pair_of}
use Rattle.std.specs.Prelude.{Option as Maybe, None, Some}
use Rattle.words.specs.declared.Violation.{Violation}
use Rattle.words.specs.declared.Violation.TheVariants.{Functional}

-- ---- two rows of which one is of another relation

pub breaks-first : (d : Dependency) (r s : Row ℕ) → (r.relation ≡ d.relation → ⊥) → breaks_rows d r s ≡ false
unfolding breaks
breaks-first d r s h = rw (ne_eqb r.relation d.relation h)

pub breaks-second : (d : Dependency) (r s : Row ℕ) → (s.relation ≡ d.relation → ⊥) → breaks_rows d r s ≡ false
unfolding breaks
breaks-second d r s h = rw (ne_eqb s.relation d.relation h, and-false (eqb r.relation d.relation))

-- nothing passes a test that fails everywhere
pub passing-none : {A : Type 0} (test : A → Bool) (xs : List A) → ((x : A) → test x ≡ false) → first_passing test xs ≡ none
unfolding first_passing
passing-none test [] h = refl
passing-none test (x ∷ xs) h = rw (h x) (passing-none test xs h)

-- ---- from row to row

module _ (codes : List CodePair) (schema words : List ℕ) where
  -- no row is left
  pub rows_end : (at n : ℕ) → length words ≤ at → rows_read codes schema words at n ≡ []
  unfolding rows_from numbered_from
  rows_end at n h = rw (drop_of_length-le words {i = at} h)

  -- the row at `at` and the rows after it
  pub rows-cons : (at after n : ℕ) → Next schema words at after
      → rows_read codes schema words at n ≡ (n, row_read codes schema words at) ∷ rows_read codes schema words after (n + 1)
  unfolding numbered_from
  rows-cons at after n next = rw (ap (read_database codes) next.read, add-one n)

  -- the row at `at` passes, or the search goes on after it
  pub passing-here : (test : (ℕ × Row ℕ) → Bool) (at after n : ℕ) → Next schema words at after → test (n, row_read codes schema words at) ≡ true
      → first_passing test (rows_read codes schema words at n) ≡ some (n, row_read codes schema words at)
  unfolding first_passing
  passing-here test at after n next h = rw (rows-cons at after n next, h)

  pub passing-later : (test : (ℕ × Row ℕ) → Bool) (at after n : ℕ) → Next schema words at after → test (n, row_read codes schema words at) ≡ false
      → first_passing test (rows_read codes schema words at n) ≡ first_passing test (rows_read codes schema words after (n + 1))
  unfolding first_passing
  passing-later test at after n next h = rw (rows-cons at after n next, h)

  pub passing-end : (test : (ℕ × Row ℕ) → Bool) (at n : ℕ) → length words ≤ at → first_passing test (rows_read codes schema words at n) ≡ none
  unfolding first_passing
  passing-end test at n h = rw (rows_end at n h)

  -- ---- pairs of rows

  -- the pairs whose first row is the one at `at`, then the later ones
  pairs-cons : (d : Dependency) (at after n : ℕ) → Next schema words at after
      → first_pair_from d n (database_read codes schema (drop at words))
      ≡ or_else (map (λ y. ((n, row_read codes schema words at), y))
      (first_passing (breaks_with d (row_read codes schema words at)) (rows_read codes schema words after (n + 1))))
      (first_pair_from d (n + 1) (database_read codes schema (drop after words)))
  unfolding first_pair
  pairs-cons d at after n next = rw (rows-cons at after n next)

  pub pair_found : (d : Dependency) (at after n j : ℕ) → Next schema words at after
      → Some j ≡ partner_of (first_passing (breaks_with d (row_read codes schema words at)) (rows_read codes schema words after (n + 1)))
      → pair_of (first_pair_from d n (database_read codes schema (drop at words))) ≡ Some (n, j)
  unfolding or_else
  pair_found d at after n j next h = ap pair_of (pairs-cons d at after n next) ∙ go
      (first_passing (breaks_with d (row_read codes schema words at)) (rows_read codes schema words after (n + 1))) h
    where
      go : (o : Option (ℕ × Row ℕ)) → Some j ≡ partner_of o
          → pair_of (or_else (map (λ y. ((n, row_read codes schema words at), y)) o)
          (first_pair_from d (n + 1) (database_read codes schema (drop after words)))) ≡ Some (n, j)
      go none e = absurd (let z : ◌≡◌ {A = ℕ} 0 1 = cc in omega arith)
      go (some x) e = let q : x.0 ≡ j = cc in ap (λ (m : ℕ). Some (n, m)) q

  pub pair-later : (d : Dependency) (at after n : ℕ) → Next schema words at after
      → None ≡ partner_of (first_passing (breaks_with d (row_read codes schema words at)) (rows_read codes schema words after (n + 1)))
      → first_pair_from d n (database_read codes schema (drop at words)) ≡ first_pair_from d (n + 1) (database_read codes schema (drop after words))
  unfolding or_else
  pair-later d at after n next h =
      pairs-cons d at after n next ∙ go (first_passing (breaks_with d (row_read codes schema words at)) (rows_read codes schema words after (n + 1))) h
    where
      go : (o : Option (ℕ × Row ℕ)) → None ≡ partner_of o
          → or_else (map (λ y. ((n, row_read codes schema words at), y)) o) (first_pair_from d (n + 1) (database_read codes schema (drop after words)))
          ≡ first_pair_from d (n + 1) (database_read codes schema (drop after words))
      go none e = refl
      go (some x) e = absurd (let z : ◌≡◌ {A = ℕ} 0 1 = cc in omega arith)

  -- the row at `at` is of another relation
  pub pair-other : (d : Dependency) (at after n : ℕ) → Next schema words at after → (get_or words at 0 ≡ d.relation → ⊥)
      → first_pair_from d n (database_read codes schema (drop at words)) ≡ first_pair_from d (n + 1) (database_read codes schema (drop after words))
  pair-other d at after n next h =
      pair-later d at after n next
      (sym (ap partner_of (passing-none (breaks_with d (row_read codes schema words at)) (rows_read codes schema words after (n + 1))
      (λ x. breaks-first d (row_read codes schema words at) x.1 h))))

  pub pair_end : (d : Dependency) (at n : ℕ) → length words ≤ at → first_pair_from d n (database_read codes schema (drop at words)) ≡ none
  unfolding first_pair
  pair_end d at n h = rw (rows_end at n h)

-- ---- dependencies

pub violation-found : (rows : Database) (d : Dependency) (ds : List Dependency) (k i j : ℕ) → Some (i, j) ≡ pair_of (first_pair_from d 0 rows)
    → violation_of (first_broken_from k (d ∷ ds) rows) ≡ Some (Functional k i j)
unfolding first_broken_from first_found numbered_from or_else
violation-found rows d ds k i j h = go (first_pair_from d 0 rows) h
  where
    go : (o : Option ((ℕ × Row ℕ) × (ℕ × Row ℕ))) → Some (i, j) ≡ pair_of o
        → violation_of (or_else (map (λ x. ((k, d), x)) o) (first_broken_from (suc k) ds rows)) ≡ Some (Functional k i j)
    go none e = absurd (let z : ◌≡◌ {A = ℕ} 0 1 = cc in omega arith)
    go (some x) e =
        let pair : (i, j) ≡ (x.0.0, x.1.0) = cc in
        let p : x.0.0 ≡ i = sym (ap (λ (y : ℕ × ℕ). y.0) pair) in
        let q : x.1.0 ≡ j = sym (ap (λ (y : ℕ × ℕ). y.1) pair) in
        ap₂ {C = Maybe Violation} (λ (l m : ℕ). Some (Functional k l m)) p q

pub violation-later : (rows : Database) (d : Dependency) (ds : List Dependency) (k : ℕ) → None ≡ pair_of (first_pair_from d 0 rows)
    → first_broken_from k (d ∷ ds) rows ≡ first_broken_from (k + 1) ds rows
unfolding first_broken_from first_found numbered_from or_else
violation-later rows d ds k h = go (first_pair_from d 0 rows) h ∙ ap (λ (m : ℕ). first_broken_from m ds rows) (sym (add-one k))
  where
    go : (o : Option ((ℕ × Row ℕ) × (ℕ × Row ℕ))) → None ≡ pair_of o
        → or_else (map (λ x. ((k, d), x)) o) (first_broken_from (suc k) ds rows) ≡ first_broken_from (suc k) ds rows
    go none e = refl
    go (some x) e = absurd (let z : ◌≡◌ {A = ℕ} 0 1 = cc in omega arith)

pub violation-end : (rows : Database) (k : ℕ) → first_broken_from k [] rows ≡ none
unfolding first_broken_from first_found numbered_from
violation-end rows k = refl
