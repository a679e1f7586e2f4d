-- Tests of all elements of a list as a loop makes them, position by position: `every_at` takes the position too.
-- First what a turn of the loop shows, then how `every` and `in_use` are such tests. For any elements, test and length.
use mathlib.Core.Path.{◌≡◌, refl, sym, ap, ◌∙◌}
use mathlib.Core.Bool.{Bool, true, false, cond, not, ◌&&◌}
use mathlib.Core.List.{List, [], ◌∷◌, ◌++◌, map}
use Prim.Native.Nat.{ℕ, zero, suc, ◌+◌, ◌-◌, ◌≤◌, ◌<◌}
use native.Mathlib.Nat.{le_of_lt, le_of_suc-le-suc, not-suc-le-zero, sub-zero, suc-sub-suc, zero-sub}
use native.Mathlib.Numerals.{add-one}
use native.Mathlib.Omega.{arith}
use lib.Dec.{ltb}
use lib.ListN.{length, take, drop, get_or, set, replicate, length-drop, length-map, drop_of_length-le}
use lib.Seq.{drop-cons, get_or-take, get_or-drop, length-take-le, take-suc, set_at, append_snoc}
use borrow.Author.Tests.{lt-ltb, le-ltb, not-true, not-false}
use Rattle.lists.specs.Tests.{every, in_use}

-- Whether each element passes a test at its position, the first standing at position i
unfoldable pub every_at : {A : Type 0} → (ℕ → A → Bool) → ℕ → List A → Bool
every_at test i [] = true
every_at test i (x ∷ xs) = test i x && every_at test (suc i) xs

and-true : (a b : Bool) → a ≡ true → a && b ≡ b
and-true a b e = ap (λ (t : Bool). t && b) e

and-false : (a b : Bool) → a ≡ false → a && b ≡ false
and-false a b e = ap (λ (t : Bool). t && b) e

split : {A : Type 0} (test : ℕ → A → Bool) (xs : List A) (d : A) (i : ℕ) → i < length xs
    → every_at test i (drop i xs) ≡ test i (get_or xs i d) && every_at test (suc i) (drop (suc i) xs)
unfolding every_at
split test xs d i h = ap (every_at test i) (drop-cons xs i d h)

-- The invariant of a loop that tests xs: the whole test is that of what is left, from position i on
pub record Remains {A : Type 0} (test : ℕ → A → Bool) (xs : List A) (whole : Bool) (i : ℕ) : Type 0 where
  pub rest : whole ≡ every_at test i (drop i xs)

module _ {A : Type 0} {test : ℕ → A → Bool} {xs : List A} {whole : Bool} {i : ℕ} where
  -- A turn whose test passes keeps it
  pub turn-passes : Remains test xs whole i → (d : A) {t : Bool} → i < length xs → t ≡ test i (get_or xs i d) → not t ≡ false → Remains test xs whole (i + 1)
  turn-passes inv d h e holds =
      record {
        rest =
            inv.rest ∙ split test xs d i h ∙ and-true _ _ (sym e ∙ not-false _ holds)
            ∙ ap (λ (k : ℕ). every_at test k (drop k xs)) (sym (add-one i));
      }

  -- A turn whose test fails decides
  pub turn-fails : Remains test xs whole i → (d : A) {t : Bool} → i < length xs → t ≡ test i (get_or xs i d) → not t ≡ true → false ≡ whole
  turn-fails inv d h e fails = sym (inv.rest ∙ split test xs d i h ∙ and-false _ _ (sym e ∙ not-true _ fails))

  -- Past the end nothing is left
  pub turns-end : Remains test xs whole i → length xs ≤ i → true ≡ whole
  unfolding every_at
  turns-end inv h = sym (inv.rest ∙ ap (every_at test i) (drop_of_length-le xs h))

-- ---- a search

-- The invariant of a loop that looks for an element that passes a test: whether there is one is decided by what is left, from position i on
pub record Sought {A : Type 0} (test : ℕ → A → Bool) (xs : List A) (found : Bool) (i : ℕ) : Type 0 where
  pub rest : Remains (λ k x. not (test k x)) xs (not found) i

not_back : (a b : Bool) → a ≡ not b → not a ≡ b
not_back a true e = ap not e
not_back a false e = ap not e

module _ {A : Type 0} {test : ℕ → A → Bool} {xs : List A} {found : Bool} {i : ℕ} where
  -- A turn whose test passes finds one
  pub search-finds : Sought test xs found i → (d : A) {t : Bool} → i < length xs → t ≡ test i (get_or xs i d) → t ≡ true → true ≡ found
  search-finds inv d {t} h e holds = not_back false found (turn-fails inv.rest d {t = not t} h (ap not e) (ap (λ (b : Bool). not (not b)) holds))

  -- A turn whose test fails goes on
  pub search-passes : Sought test xs found i → (d : A) {t : Bool} → i < length xs → t ≡ test i (get_or xs i d) → t ≡ false → Sought test xs found (i + 1)
  search-passes inv d {t} h e fails = record { rest = turn-passes inv.rest d {t = not t} h (ap not e) (ap (λ (b : Bool). not (not b)) fails) }

  -- At the end there is none
  pub search-ends : Sought test xs found i → length xs ≤ i → false ≡ found
  search-ends inv h = not_back true found (turns-end inv.rest h)

-- ---- a stretch of an array

-- What stands at a position does not depend on what would stand past the end
pub get_or_any : {A : Type 0} (xs : List A) (i : ℕ) (d e : A) → i < length xs → get_or xs i d ≡ get_or xs i e
get_or_any [] i d e h = absurd (not-suc-le-zero h)
get_or_any (x ∷ xs) zero d e h = refl
get_or_any (x ∷ xs) (suc i) d e h = get_or_any xs i d e (le_of_suc-le-suc h)

-- A list is as long as what is made of its elements: what a struct's type tells of its arrays
pub mapped-length : (A B : Type 0) (f : A → B) (xs : List A) (n : ℕ) → length (map f xs) ≡ n → length xs ≡ n
mapped-length A B f xs n e = sym (length-map xs f) ∙ e

pub stretch-length : {A : Type 0} (start n : ℕ) (xs : List A) → start + n ≤ length xs → length (take n (drop start xs)) ≡ n
stretch-length start n xs h = length-take-le n (drop start xs) (rw length-drop (omega arith))

pub stretch-get_or : {A : Type 0} (start n : ℕ) (xs : List A) (i : ℕ) (d : A) → i < n → get_or (take n (drop start xs)) i d ≡ get_or xs (start + i) d
stretch-get_or start n xs i d h = get_or-take n (drop start xs) i d h ∙ get_or-drop start xs i d

-- ---- an array filled from the front

-- The first i elements of xs, then z up to n elements in all
abbrev pub filled_to : {A : Type 0} → ℕ → A → List A → ℕ → List A
filled_to n z xs i = take i xs ++ replicate (n - i) z

-- A store of the next element
pub filled_next : {A : Type 0} (n : ℕ) (z : A) (xs : List A) (i : ℕ) → i < length xs → i < n
    → set (filled_to n z xs i) i (get_or xs i z) ≡ filled_to n z xs (i + 1)
filled_next {A} n z xs i h room =
    let long : length (take i xs) ≡ i = length-take-le i xs (le_of_lt h) in
    let step : n - i ≡ suc (n - (i + 1)) = omega arith in
    ap (λ (k : ℕ). set (take i xs ++ replicate k z) i (get_or xs i z)) step
    ∙ set_at (take i xs) z (replicate (n - (i + 1)) z) (get_or xs i z) i long
    ∙ sym (append_snoc (take i xs) (get_or xs i z) (replicate (n - (i + 1)) z))
    ∙ ap (λ (l : List A). l ++ replicate (n - (i + 1)) z) (sym (take-suc xs i z h))
    ∙ ap (λ (k : ℕ). take k xs ++ replicate (n - (i + 1)) z) (sym (add-one i))

-- ---- the rule's tests

pub and_assoc : (a b c : Bool) → (a && b) && c ≡ a && (b && c)
and_assoc true b c = refl
and_assoc false b c = refl

-- Good below position n, blank from there on
abbrev pub used_test : {A : Type 0} → ℕ → (A → Bool) → (A → Bool) → ℕ → A → Bool
used_test n good blank i x = cond (ltb i n) (good x) (blank x)

module _ {A : Type 0} (good blank : A → Bool) where
  blank-from : (i m : ℕ) (xs : List A) → m ≤ i → every blank xs ≡ every_at (used_test m good blank) i xs
  unfolding every every_at
  blank-from i m [] e = refl
  blank-from i m (x ∷ xs) e =
      let h : ltb i m ≡ false = le-ltb i m e in
      rw h (ap (λ (t : Bool). blank x && t) (blank-from (suc i) m xs (omega arith)))

  used-from : (n i m : ℕ) (xs : List A) → m ≡ i + n → in_use n good blank xs ≡ every_at (used_test m good blank) i xs
  unfolding every every_at
  used-from zero i m xs e = blank-from i m xs (omega arith)
  used-from (suc n) i m [] e = refl
  used-from (suc n) i m (x ∷ xs) e =
      let h : ltb i m ≡ true = lt-ltb i m (omega arith) in
      let q : m ≡ suc i + n = omega arith in
      rw h (and_assoc (good x) (every good (take n xs)) (every blank (drop n xs)) ∙ ap (λ (t : Bool). good x && t) (used-from n (suc i) m xs q))

  -- A loop that tests an array of which n elements are in use starts so
  pub used_start : (n : ℕ) (xs : List A) → Remains (used_test n good blank) xs (in_use n good blank xs) 0
  used_start n xs = record { rest = used-from n 0 n xs (omega arith) }

-- ---- repeated values

-- One value repeated, without the first n
pub replicate-drop : {A : Type 0} (n m : ℕ) (a : A) → drop n (replicate m a) ≡ replicate (m - n) a
replicate-drop zero m a = rw sub-zero
replicate-drop (suc n) zero a = rw zero-sub
replicate-drop (suc n) (suc m) a = replicate-drop n m a ∙ rw suc-sub-suc
