-- Positions of lists: members by position, what is left of the first elements, a test past the end, arrays filled one element a turn, and what holds at
-- each or at some position below a bound. Last, how the result of a test is shown to tell. For any elements.
-- Assumes nothing.
use mathlib.Core.Path.{◌≡◌, refl, sym, ◌∙◌, ap, subst}
use mathlib.Core.Bool.{Bool, true, false, false≢true}
use mathlib.Core.List.{List, [], ◌∷◌, Memᴰ}
use Prim.Native.Nat.{ℕ, zero, suc, ◌+◌, ◌≤◌, ◌<◌}
use native.Mathlib.Nat.{not-suc-le-zero, le_of_suc-le-suc}
use native.Mathlib.Numerals.{add-one}
use native.Mathlib.Decide.{dec_lt}
use native.Mathlib.Omega.{arith}
use lib.ListN.{length, take, drop, get_or, set, length-take, drop_of_length-le}
use lib.Seq.{drop-cons, get_or-take, length-take-le, get_or-set_same, get_or-set_other}
use Rattle.lists.specs.Tests.{every}
use Rattle.lists.specs.internal.Tells.{Tells}
use Rattle.lists.proofs.Tests.{and_left, and_right}

-- ---- members

pub get_or-in : {A : Type 0} (xs : List A) (i : ℕ) (z : A) → i < length xs → Memᴰ (get_or xs i z) xs
get_or-in [] i z h = absurd (not-suc-le-zero h)
get_or-in (x ∷ xs) zero z h = Memᴰ.head refl
get_or-in (x ∷ xs) (suc i) z h = Memᴰ.tail (get_or-in xs i z (le_of_suc-le-suc h))

pub in-get_or : {A : Type 0} {x : A} (xs : List A) (z : A) → Memᴰ x xs → (i : ℕ) × (i < length xs) × (get_or xs i z ≡ x)
in-get_or {A = A} [] z x'' = elim x'' [ ]
in-get_or (y ∷ xs) z (Memᴰ.head e) = (0, omega arith, sym e)
in-get_or (y ∷ xs) z (Memᴰ.tail at) = let w = in-get_or xs z at in let h : w.0 < length xs = w.1 in (suc w.0, omega arith, w.2)

-- A list of length 0 is empty
pub length_none : {A : Type 0} (xs : List A) → length xs ≡ 0 → xs ≡ []
length_none [] e = refl
length_none (x ∷ xs) e = let z : suc (length xs) ≡ 0 = e in absurd (omega arith)

-- A test that passes on a list, and on what stands in past its end, passes at each position
pub every-get_or-else : {A : Type 0} (test : A → Bool) (xs : List A) (k : ℕ) (d : A) → every test xs ≡ true → test d ≡ true → test (get_or xs k d) ≡ true
unfolding every
every-get_or-else test [] k d e p = p
every-get_or-else test (x ∷ xs) zero d e p = and_left (test x) (every test xs) e
every-get_or-else test (x ∷ xs) (suc k) d e p = every-get_or-else test xs k d (and_right (test x) (every test xs) e) p

-- ---- what is left of the first n elements after k

pub left-cons : {A : Type 0} (n k : ℕ) (xs : List A) (d : A) → k < n → n ≤ length xs → drop k (take n xs) ≡ get_or xs k d ∷ drop (k + 1) (take n xs)
left-cons n k xs d h fits =
    rw add-one (drop-cons (take n xs) k d (omega (arith, length-take-le n xs fits)) ∙ ap (λ x. x ∷ drop (suc k) (take n xs)) (get_or-take n xs k d h))

-- and nothing at the end
pub left-none : {A : Type 0} (n k : ℕ) (xs : List A) → n ≤ k → drop k (take n xs) ≡ []
left-none n k xs h = drop_of_length-le (take n xs) {i = k} (omega (arith, length-take n xs))

-- ---- arrays filled from the front

-- What holds of the elements before i, and of one stored at i, holds of the elements before i + 1
pub stored_more : {A : Type 0} (P : ℕ → A → Type 0) (xs : List A) (i : ℕ) (y d : A) → i < length xs
    → ((k : ℕ) → k < i → P k (get_or xs k d)) → P i y → (k : ℕ) → k < i + 1 → P k (get_or (set xs i y) k d)
stored_more {A} P xs i y d h before at k less = go (dec_lt k i)
  where
    go : Dec (k < i) → P k (get_or (set xs i y) k d)
    go (yes l) = subst (P k) (sym (get_or-set_other xs i k y d (λ e. let z : k ≡ i = e in absurd (omega arith)))) (before k l)
    go (no l) =
        let e : i ≡ k = omega arith in
        subst (λ (j : ℕ). P j (get_or (set xs i y) j d)) e (subst (P i) (sym (get_or-set_same xs i y d h)) at)

-- ---- each and some number below a bound

pub below_each : (P : ℕ → Type 0) → ((i : ℕ) → Dec (P i)) → (n : ℕ) → Dec ((i : ℕ) → i < n → P i)
below_each P test zero = yes (λ i h. absurd (not-suc-le-zero h))
below_each P test (suc n) = go (below_each P test n) (test n)
  where
    more : ((i : ℕ) → i < n → P i) → P n → (i : ℕ) → i < suc n → P i
    more before at i h = pick (dec_lt i n)
      where
        pick : Dec (i < n) → P i
        pick (yes l) = before i l
        pick (no l) = let e : n ≡ i = omega arith in subst P e at

    go : Dec ((i : ℕ) → i < n → P i) → Dec (P n) → Dec ((i : ℕ) → i < suc n → P i)
    go (yes before) (yes at) = yes (more before at)
    go (yes before) (no out) = no (λ all. out (all n (omega arith)))
    go (no out) at = no (λ all. out (λ i h. all i (omega arith)))

pub below-some : (P : ℕ → Type 0) → ((i : ℕ) → Dec (P i)) → (n : ℕ) → Dec ((i : ℕ) × (i < n) × P i)
below-some P test zero = no (λ w. not-suc-le-zero w.1)
below-some P test (suc n) = go (below-some P test n) (test n)
  where
    none : (((i : ℕ) × (i < n) × P i) → ⊥) → (P n → ⊥) → ((i : ℕ) × (i < suc n) × P i) → ⊥
    none before at w = pick (dec_lt w.0 n)
      where
        pick : Dec (w.0 < n) → ⊥
        pick (yes l) = before (w.0, l, w.2)
        pick (no l) = let h : w.0 < suc n = w.1 in let e : w.0 ≡ n = omega arith in at (subst P e w.2)

    go : Dec ((i : ℕ) × (i < n) × P i) → Dec (P n) → Dec ((i : ℕ) × (i < suc n) × P i)
    go (yes w) at = let h : w.0 < n = w.1 in yes (w.0, omega arith, w.2)
    go (no out) (yes at) = yes (n, omega arith, at)
    go (no out) (no not) = no (none out not)

-- ---- a test that tells

pub tells-true : {P : Type 0} → P → Tells true P
tells-true p = ((λ e. p), (λ q. refl))

pub tells-false : {P : Type 0} → (P → ⊥) → Tells false P
tells-false n = ((λ e. absurd (false≢true e)), (λ p. absurd (n p)))

-- Two tests that tell the same are one
pub tells-same : {P : Type 0} (a b : Bool) → Tells a P → Tells b P → a ≡ b
tells-same true b p q = sym (q.1 (p.0 refl))
tells-same false true p q = absurd (false≢true (p.1 (q.0 refl)))
tells-same false false p q = refl
