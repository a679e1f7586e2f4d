-- What `all` and `any` over the numbers of a range come to. Assumes nothing.
use Rattle.std.proofs.Common.{◌≡◌, Bool, true, ℕ, zero, suc, ◌+◌, ◌<◌, refl, arith}
use mathlib.Core.Path.{subst}
use Rattle.std.specs.List.{list_all, range_with_len}
use Rattle.lists.proofs.Tests.{and_left, and_right, and_both}

-- If all of n numbers from `a` on pass a test, each of them does
pub all_from : (test : ℕ → Bool) (a n : ℕ) → list_all test (range_with_len a n) ≡ true → (k : ℕ) → k < n → test (a + k) ≡ true
all_from test a zero e k h = absurd (omega arith)
all_from test a (suc n) e zero h = subst (λ (x : ℕ). test x ≡ true) (omega arith) (and_left (test a) (list_all test (range_with_len (a + 1) n)) e)
all_from test a (suc n) e (suc k) h =
    subst (λ (x : ℕ). test x ≡ true) (omega arith)
    (all_from test (a + 1) n (and_right (test a) (list_all test (range_with_len (a + 1) n)) e) k (omega arith))

-- and if each does, all do
pub from_all : (test : ℕ → Bool) (a n : ℕ) → ((k : ℕ) → k < n → test (a + k) ≡ true) → list_all test (range_with_len a n) ≡ true
from_all test a zero each = refl
from_all test a (suc n) each =
    and_both (test a) (list_all test (range_with_len (a + 1) n))
    (subst (λ (x : ℕ). test x ≡ true) (omega arith) (each 0 (omega arith)))
    (from_all test (a + 1) n (λ k h. subst (λ (x : ℕ). test x ≡ true) (omega arith) (each (suc k) (omega arith))))

-- The same from 0 on
pub all_below : (test : ℕ → Bool) (n : ℕ) → list_all test (range_with_len 0 n) ≡ true → (k : ℕ) → k < n → test k ≡ true
all_below test n e k h = subst (λ (x : ℕ). test x ≡ true) (omega arith) (all_from test 0 n e k h)

pub below_all : (test : ℕ → Bool) (n : ℕ) → ((k : ℕ) → k < n → test k ≡ true) → list_all test (range_with_len 0 n) ≡ true
below_all test n each = from_all test 0 n (λ k h. subst (λ (x : ℕ). test x ≡ true) (omega arith) (each k h))
