-- What a loop over the columns of a set shows, and which they are. Assumes nothing.
use mathlib.Core.Path.{◌≡◌, refl, sym, ◌∙◌, ap, ap₂}
use mathlib.Core.Bool.{Bool, true, false, cond, ◌&&◌, ◌||◌}
use mathlib.Core.List.{List, ◌∷◌}
use Rattle.std.specs.List.{list_all, range_with_len}
use Prim.Native.Nat.{ℕ, suc, ◌+◌, ◌/◌, ◌%◌, ◌^◌, ◌≤◌, ◌<◌}
use lib.Pow.{shr-shr}
use native.Mathlib.Numerals.{add-one}
use native.Mathlib.Omega.{arith}
use borrow.Author.Tests.{eqb-true, eqb-false, eq-eqb, ne_eqb}
use lib.Dec.{eqb}
use Rattle.lists.specs.Tests.{every}
use Rattle.theory.specs.Query.{◌∈◌}
use Rattle.theory.proofs.Lists.{bool_cases, mem-cases}
use Rattle.query.specs.View.{columns_from}

-- What is left of a set at the first column, and at the next one
pub left-first : (set : ℕ) → set / 2 ^ 0 ≡ set
left-first set = omega arith

pub left_next : (set c : ℕ) → set / 2 ^ c / 2 ≡ set / 2 ^ (c + 1)
left_next set c = shr-shr set c 1

-- Where each of n columns from `start` on is not in a set or passes a test, each of the set's does
pub columns_all : (test : ℕ → Bool) (set start n : ℕ)
    → list_all (λ c. eqb (set / 2 ^ c % 2) 0 || test c) (range_with_len start n) ≡ every test (columns_from start n (set / 2 ^ start))
unfolding columns_from every
columns_all test set start Prim.Native.Nat.zero = refl
columns_all test set start (suc n) =
    ap (λ t. (eqb (set / 2 ^ start % 2) 0 || test start) && t)
    (columns_all test set (start + 1) n ∙ ap₂ (λ c rest. every test (columns_from c n rest)) (add-one start) (sym (left_next set start)))
    ∙ digit (set / 2 ^ start % 2) (omega arith) (columns_from (suc start) n (set / 2 ^ start / 2))
  where
    digit : (b : ℕ) → b < 2 → (cs : List ℕ) → (eqb b 0 || test start) && every test cs ≡ every test (cond (eqb b 1) (start ∷ cs) cs)
    digit b less cs =
        bool_cases (eqb b 1) (λ e. let one : b ≡ 1 = eqb-true b 1 e in rw (e, ne_eqb b 0 (λ none. absurd (omega (arith, none)))))
        (λ e. let none : b ≡ 0 = omega (arith, eqb-false b 1 e) in rw (e, eq-eqb b 0 none))

pub columns-all : (test : ℕ → Bool) (set : ℕ) → list_all (λ c. eqb (set / 2 ^ c % 2) 0 || test c) (range_with_len 0 8) ≡ every test (columns_from 0 8 set)
columns-all test set = columns_all test set 0 8 ∙ ap (λ rest. every test (columns_from 0 8 rest)) (left-first set)

-- The columns of n bits of a mask are the n from the start on
pub columns-range : (start n mask : ℕ) {c : ℕ} → c ∈ columns_from start n mask → (start ≤ c) × (c < start + n)
unfolding columns_from
columns-range start Prim.Native.Nat.zero mask {c = c} at = elim at [ ]
columns-range start (suc n) mask {c} at = go (eqb (mask % 2) 1) at (columns-range (suc start) n (mask / 2))
  where
    go : (t : Bool) → c ∈ cond t (start ∷ columns_from (suc start) n (mask / 2)) (columns_from (suc start) n (mask / 2))
        → (c ∈ columns_from (suc start) n (mask / 2) → (suc start ≤ c) × (c < suc start + n)) → (start ≤ c) × (c < start + suc n)
    go true m rest = mem-cases m (λ p. (omega arith, omega arith)) (λ l. let h = rest l in (omega (arith, h.0), omega (arith, h.1)))
    go false m rest = let h = rest m in (omega (arith, h.0), omega (arith, h.1))
