-- What a turn of a loop shows: over the columns of what is left of a set, and over numbers in order. Assumes nothing.
use mathlib.Core.Path.{◌≡◌, refl, ◌∙◌, ap}
use mathlib.Core.Bool.{Bool, true, false, cond, ◌||◌}
use Rattle.std.specs.List.{list_any, range_with_len}
use mathlib.Core.Option.{Option, none, some, or_else}
use Prim.Native.Nat.{ℕ, suc, ◌+◌, ◌-◌, ◌/◌, ◌%◌, ◌≤◌, ◌<◌}
use native.Mathlib.Numerals.{add-one}
use native.Mathlib.Omega.{arith}
use borrow.Author.Tests.{eq-eqb, ne_eqb}
use lib.Dec.{eqb}
use Rattle.theory.specs.Query.{member}
use Rattle.theory.proofs.Lists.{bool_cases, not-mem-member}
use Rattle.query.specs.View.{columns_from}
use Rattle.tableaux.proofs.Columns.{columns-range}
use Rattle.join_search.specs.internal.Search.{first_of, some_of}

-- ---- columns

module _ (c rest : ℕ) (h : c < 8) where
  one_less : 8 - c ≡ suc (8 - (c + 1))
  one_less = omega arith

  -- Whether the next column is one of those left
  pub member-here : member c (columns_from c (8 - c) rest) ≡ eqb (rest % 2) 1
  unfolding columns_from member
  member-here =
      let later : member c (columns_from (suc c) (8 - (c + 1)) (rest / 2)) ≡ false =
      not-mem-member c (columns_from (suc c) (8 - (c + 1)) (rest / 2))
      (λ at. let low = columns-range (suc c) (8 - (c + 1)) (rest / 2) at in absurd (omega (arith, low.0))) in
      rw one_less
      (bool_cases (eqb (rest % 2) 1) (λ e. rw (e, eq-eqb c c refl)) (λ e. rw (e, later)))

  -- and any later one
  pub member-later : (d : ℕ) → c < d → member d (columns_from c (8 - c) rest) ≡ member d (columns_from (c + 1) (8 - (c + 1)) (rest / 2))
  unfolding columns_from member
  member-later d past =
      let other : eqb d c ≡ false = ne_eqb d c (λ e. absurd (omega (arith, e))) in
      rw (one_less, add-one)
      (bool_cases (eqb (rest % 2) 1) (λ e. rw (e, other)) (λ e. rw e))

-- ---- numbers

module _ {A : Type 0} (find : ℕ → Option A) (n i : ℕ) where
  pub first-here : i < n → first_of find i (n - i) ≡ or_else (find i) (first_of find (i + 1) (n - (i + 1)))
  unfolding first_of
  first-here h = let less : n - i ≡ suc (n - (i + 1)) = omega arith in rw (less, add-one)

  pub first_next : i < n → find i ≡ none → first_of find i (n - i) ≡ first_of find (i + 1) (n - (i + 1))
  unfolding or_else
  first_next h nothing = first-here h ∙ rw nothing

  pub first-found : i < n → (x : A) → find i ≡ some x → first_of find i (n - i) ≡ some x
  unfolding or_else
  first-found h x e = first-here h ∙ rw e

  pub first-end : n ≤ i → first_of find i (n - i) ≡ none
  unfolding first_of
  first-end h = let nothing : n - i ≡ 0 = omega arith in rw nothing

-- Whether some number of a range passes a test
pub any-some : (test : ℕ → Bool) (start n : ℕ) → list_any test (range_with_len start n) ≡ some_of test start n
unfolding some_of
any-some test start Prim.Native.Nat.zero = refl
any-some test start (suc n) = or-cond (test start) _ ∙ ap (cond (test start) true) (any-some test (start + 1) n ∙ ap (λ k. some_of test k n) (add-one start))
  where
    or-cond : (t u : Bool) → t || u ≡ cond t true u
    or-cond true u = refl
    or-cond false u = refl
