-- What a test that holds tells: of a conjunction, of every element of a list, of an array that is partly in use, of two lists compared.
-- For any elements, any number of them and any test. The lengths of arrays are the types', so a law that needs one asks it.
use mathlib.Core.Path.{◌≡◌, refl, sym, ap, ap₂, subst, ◌∙◌}
use mathlib.Core.Logic.{◌⊎◌, inl, inr, ◌↔◌}
use mathlib.Core.Bool.{Bool, true, false, ◌&&◌, false≢true}
use mathlib.Core.List.{List, [], ◌∷◌, ◌++◌, Memᴰ}
use Prim.Native.Nat.{ℕ, zero, suc, ◌+◌, ◌*◌, ◌-◌, ◌%◌, ◌^◌, ◌≤◌, ◌<◌}
use native.Mathlib.Nat.{one-mul, mod-eq_of_lt, le_of_suc-le-suc, not-suc-le-zero}
use native.Mathlib.Numerals.{add-one}
use native.Mathlib.Omega.{arith}
use lib.Pow.{pow-lt}
use lib.Dec.{eqb, ltb, leb}
use lib.ListN.{length, take, drop, get_or, set, replicate, length-drop, take-append-drop}
use lib.Seq.{take-suc-set, drop-set-lt, drop-drop}
use borrow.Author.Tests.{eqb-true, eqb-false, leb-true, ltb-true, ltb-false}
use Rattle.lists.specs.Tests.{every, in_use, between, same_lists}

-- ---- conjunctions

-- An index is below a bound or not
pub below-or-past : (i n : ℕ) → (i < n) ⊎ (n ≤ i)
below-or-past i n = go (ltb i n) refl
  where
    go : (t : Bool) → ltb i n ≡ t → (i < n) ⊎ (n ≤ i)
    go true e = inl (ltb-true i n e)
    go false e = inr (ltb-false i n e)

pub and_left : (a b : Bool) → a && b ≡ true → a ≡ true
and_left true b e = refl
and_left false b e = e

pub and_right : (a b : Bool) → a && b ≡ true → b ≡ true
and_right true b e = e
and_right false true e = refl
and_right false false e = e

pub and_both : (a b : Bool) → a ≡ true → b ≡ true → a && b ≡ true
and_both true b p q = q
and_both false b p q = p

-- ---- every element

-- A test of every element holds at each position
pub every-get_or : {A : Type 0} (test : A → Bool) (xs : List A) (i : ℕ) (d : A) → every test xs ≡ true → i < length xs → test (get_or xs i d) ≡ true
unfolding every
every-get_or test [] i d e h = absurd (not-suc-le-zero h)
every-get_or test (x ∷ xs) zero d e h = and_left (test x) (every test xs) e
every-get_or test (x ∷ xs) (suc i) d e h = every-get_or test xs i d (and_right (test x) (every test xs) e) (le_of_suc-le-suc h)

-- And where it holds at each position, it holds of every element
pub every_made : {A : Type 0} (test : A → Bool) (xs : List A) (d : A) → ((i : ℕ) → i < length xs → test (get_or xs i d) ≡ true) → every test xs ≡ true
unfolding every
every_made test [] d at = refl
every_made test (x ∷ xs) d at = and_both (test x) (every test xs) (at 0 (omega arith)) (every_made test xs d (λ i h. at (suc i) (omega arith)))

-- A test of every element holds of each
pub every-member : {A : Type 0} (test : A → Bool) (xs : List A) {x : A} → every test xs ≡ true → Memᴰ x xs → test x ≡ true
unfolding every
every-member {A = A} test [] e x4 = elim x4 [ ]
every-member test (y ∷ xs) e (Memᴰ.head p) = ap test p ∙ and_left (test y) (every test xs) e
every-member test (y ∷ xs) e (Memᴰ.tail at) = every-member test xs (and_right (test y) (every test xs) e) at

-- A weaker test
pub every-weaken : {A : Type 0} (test other : A → Bool) → ((x : A) → test x ≡ true → other x ≡ true) → (xs : List A) → every test xs ≡ true
    → every other xs ≡ true
unfolding every
every-weaken test other lift [] e = refl
every-weaken test other lift (x ∷ xs) e =
    and_both (other x) (every other xs) (lift x (and_left (test x) (every test xs) e))
    (every-weaken test other lift xs (and_right (test x) (every test xs) e))

-- Every element of two lists together
pub every_append : {A : Type 0} (test : A → Bool) (xs ys : List A) → every test xs ≡ true → every test ys ≡ true → every test (xs ++ ys) ≡ true
unfolding every
every_append test [] ys p q = q
every_append test (x ∷ xs) ys p q =
    and_both (test x) (every test (xs ++ ys)) (and_left (test x) (every test xs) p)
    (every_append test xs ys (and_right (test x) (every test xs) p) q)

-- Every element of a first part, and of a last part
pub every_take : {A : Type 0} (test : A → Bool) (n : ℕ) (xs : List A) → every test xs ≡ true → every test (take n xs) ≡ true
unfolding every
every_take test zero xs e = refl
every_take test (suc n) [] e = refl
every_take test (suc n) (x ∷ xs) e =
    and_both (test x) (every test (take n xs)) (and_left (test x) (every test xs) e) (every_take test n xs (and_right (test x) (every test xs) e))

pub every_drop : {A : Type 0} (test : A → Bool) (n : ℕ) (xs : List A) → every test xs ≡ true → every test (drop n xs) ≡ true
unfolding every
every_drop test zero xs e = e
every_drop test (suc n) [] e = refl
every_drop test (suc n) (x ∷ xs) e = every_drop test n xs (and_right (test x) (every test xs) e)

-- After one element is replaced by another that passes
pub every_set : {A : Type 0} (test : A → Bool) (xs : List A) (i : ℕ) (y : A) → every test xs ≡ true → test y ≡ true → every test (set xs i y) ≡ true
unfolding every
every_set test [] i y e p = e
every_set test (x ∷ xs) zero y e p = and_both (test y) (every test xs) p (and_right (test x) (every test xs) e)
every_set test (x ∷ xs) (suc i) y e p =
    and_both (test x) (every test (set xs i y)) (and_left (test x) (every test xs) e) (every_set test xs i y (and_right (test x) (every test xs) e) p)

-- Of one value, repeated
pub every-replicate : {A : Type 0} (test : A → Bool) (n : ℕ) (x : A) → test x ≡ true → every test (replicate n x) ≡ true
unfolding every
every-replicate test zero x e = refl
every-replicate test (suc n) x e = and_both (test x) (every test (replicate n x)) e (every-replicate test n x e)

-- A test that only one value passes
pub every-same : {A : Type 0} (test : A → Bool) (z : A) → ((x : A) → test x ≡ true → x ≡ z) → (xs : List A) → every test xs ≡ true
    → xs ≡ replicate (length xs) z
unfolding every
every-same test z only [] e = refl
every-same {A} test z only (x ∷ xs) e =
    ap₂ (λ (y : A) (ys : List A). y ∷ ys) (only x (and_left (test x) (every test xs) e))
    (every-same test z only xs (and_right (test x) (every test xs) e))

-- ---- numbers and arrays

-- A number that passes `between` is
pub between-true : (low high n : ℕ) → between low high n ≡ true → (low ≤ n) × (n ≤ high)
between-true low high n e = (leb-true low n (and_left (leb low n) (leb n high) e), leb-true n high (and_right (leb low n) (leb n high) e))

module _ {A : Type 0} (n : ℕ) (good blank : A → Bool) (xs : List A) where
  -- What is in use of an array is good
  pub used-good : in_use n good blank xs ≡ true → every good (take n xs) ≡ true
  used-good e = and_left (every good (take n xs)) (every blank (drop n xs)) e

  -- What is not in use is blank
  pub used-blank : in_use n good blank xs ≡ true → every blank (drop n xs) ≡ true
  used-blank e = and_right (every good (take n xs)) (every blank (drop n xs)) e

  -- What is in use and what is not, together
  pub used-whole : every good (take n xs) ≡ true → every blank (drop n xs) ≡ true → in_use n good blank xs ≡ true
  used-whole p q = and_both (every good (take n xs)) (every blank (drop n xs)) p q

  -- Where blank elements are good, all are good
  pub used_all : ((x : A) → blank x ≡ true → good x ≡ true) → in_use n good blank xs ≡ true → every good xs ≡ true
  used_all lift e =
      subst (λ (ys : List A). every good ys ≡ true) (take-append-drop n xs)
      (every_append good (take n xs) (drop n xs) (used-good e) (every-weaken blank good lift (drop n xs) (used-blank e)))

  -- Where only one value is blank, an array is what is in use followed by that value
  pub padded : (z : A) → ((x : A) → blank x ≡ true → x ≡ z) → every blank (drop n xs) ≡ true → xs ≡ take n xs ++ replicate (length xs - n) z
  padded z only e =
      sym (take-append-drop n xs)
      ∙ ap (λ (ys : List A). take n xs ++ ys) (every-same blank z only (drop n xs) e ∙ ap (λ (k : ℕ). replicate k z) (length-drop n xs))

  -- One element more is in use
  pub used-more : (y : A) → n < length xs → good y ≡ true → in_use n good blank xs ≡ true → in_use (n + 1) good blank (set xs n y) ≡ true
  unfolding every
  used-more y h fits e =
      let front : take (n + 1) (set xs n y) ≡ take n xs ++ (y ∷ []) = ap (λ (k : ℕ). take k (set xs n y)) (add-one n) ∙ take-suc-set xs n y h in
      let back : drop (n + 1) (set xs n y) ≡ drop 1 (drop n xs) = drop-set-lt (n + 1) xs n y (omega arith) ∙ sym (drop-drop 1 n xs) in
      and_both (every good (take (n + 1) (set xs n y))) (every blank (drop (n + 1) (set xs n y)))
      (ap (every good) front ∙ every_append good (take n xs) (y ∷ []) (used-good e) (and_both (good y) true fits refl))
      (ap (every blank) back ∙ every_drop blank 1 (drop n xs) (used-blank e))

-- A one shifted by less than the number of bits
pub shifted_one : (k w : ℕ) → w < k → 1 * 2 ^ w % 2 ^ k ≡ 2 ^ w
shifted_one k w h = ap (λ (n : ℕ). n % 2 ^ k) (one-mul (2 ^ w)) ∙ mod-eq_of_lt (pow-lt h)

-- ---- more on conjunctions and every element

-- A conjunction holds exactly when both of its sides do
pub and-iff : (a b : Bool) → (a && b ≡ true) ↔ ((a ≡ true) × (b ≡ true))
and-iff a b = (λ h. (and_left a b h, and_right a b h), λ h. and_both a b h.0 h.1)

-- A test of two lists together is a test of both
pub every-append-is : {A : Type 0} (test : A → Bool) (xs ys : List A) → every test (xs ++ ys) ≡ every test xs && every test ys
unfolding every
every-append-is test [] ys = refl
every-append-is test (x ∷ xs) ys = go (test x) (every-append-is test xs ys)
  where
    go : (t : Bool) → every test (xs ++ ys) ≡ every test xs && every test ys → t && every test (xs ++ ys) ≡ t && every test xs && every test ys
    go true e = e
    go false e = refl

-- Where it holds before a position and from there on, it holds of every element
pub every-join : {A : Type 0} (test : A → Bool) (n : ℕ) (xs : List A) → every test (take n xs) ≡ true → every test (drop n xs) ≡ true → every test xs ≡ true
every-join test n xs p q = sym (ap (every test) (take-append-drop n xs)) ∙ every_append test (take n xs) (drop n xs) p q

-- Two tests of every element as one
pub every-both : {A : Type 0} (s t : A → Bool) (xs : List A) → every s xs ≡ true → every t xs ≡ true → every (λ x. s x && t x) xs ≡ true
unfolding every
every-both s t [] p q = refl
every-both s t (x ∷ xs) p q =
    let here : s x && t x ≡ true = and_both (s x) (t x) (and_left (s x) (every s xs) p) (and_left (t x) (every t xs) q) in
    and_both (s x && t x) (every (λ y. s y && t y) xs) here
    (every-both s t xs (and_right (s x) (every s xs) p) (and_right (t x) (every t xs) q))

-- ---- two lists compared

-- Lists that the test finds to be the same are equal
pub same_lists-true : {A : Type 0} (same : A → A → Bool) → ((x y : A) → same x y ≡ true → x ≡ y) → (xs ys : List A) → same_lists same xs ys ≡ true → xs ≡ ys
unfolding same_lists
same_lists-true same exact [] [] e = refl
same_lists-true same exact [] (y ∷ ys) e = absurd (false≢true e)
same_lists-true same exact (x ∷ xs) [] e = absurd (false≢true e)
same_lists-true same exact (x ∷ xs) (y ∷ ys) e =
    ap₂ ◌∷◌ (exact x y (and_left (same x y) (same_lists same xs ys) e)) (same_lists-true same exact xs ys (and_right (same x y) (same_lists same xs ys) e))

-- and a list is the same as itself
pub same_lists-self : {A : Type 0} (same : A → A → Bool) → ((x : A) → same x x ≡ true) → (xs : List A) → same_lists same xs xs ≡ true
unfolding same_lists
same_lists-self same self [] = refl
same_lists-self same self (x ∷ xs) = and_both (same x x) (same_lists same xs xs) (self x) (same_lists-self same self xs)

-- ---- numbers

-- Two numbers are the same or not
pub same_or_other : (a b : ℕ) → (a ≡ b) ⊎ (a ≡ b → ⊥)
same_or_other a b = go (eqb a b) refl
  where
    go : (c : Bool) → eqb a b ≡ c → (a ≡ b) ⊎ (a ≡ b → ⊥)
    go true e = inl (eqb-true a b e)
    go false e = inr (eqb-false a b e)
