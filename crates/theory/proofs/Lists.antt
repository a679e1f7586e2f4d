-- Laws of lists that any proof may cite: truth values, options, and whether a list is empty; membership in a list, its map and its columns; lists
-- without repeats and how long they are;
-- `member` and `distinct` of numbers. A membership is a position.
-- Laws of `length`, `take`, `drop` and `get_or` alone are the library's (`lib.Seq`). Assumes nothing.
use mathlib.Core.Path.{◌≡◌, refl, sym, ◌∙◌, ap, ap₂}
use mathlib.Core.Logic.{◌≢◌, ◌⊎◌, inl, inr, ⊎_elim}
use mathlib.Core.Bool.{Bool, true, false, ◌&&◌, beq, true≢false, false≢true}
use mathlib.Core.Option.{Option, none, some}
use mathlib.Core.List.Memᴰ
use mathlib.Core.List.{List, [], ◌∷◌, map, cons≢nil, cons-ne-nil}
use Prim.Native.Nat.{ℕ, zero, suc, ◌≤◌, zero-le}
use native.Mathlib.Omega.{arith}
use borrow.Author.Tests.{eqb-true, eqb-false}
use lib.Dec.{eqb}
use lib.ListN.{length, get_or, replicate}
use Rattle.lists.proofs.Tests.{and_left, and_right, and_both}
use Rattle.theory.specs.Query.{member, subset, distinct, ◌∈◌, without}

-- ---- truth values and options

-- By the two values of a test
pub bool_cases : {C : Type 0} (b : Bool) → (b ≡ true → C) → (b ≡ false → C) → C
bool_cases true t f = t refl
bool_cases false t f = f refl

-- A conjunction of three that is true is true in each
pub and-three : (a b c : Bool) → (a && b && c) ≡ true → (a ≡ true) × (b ≡ true) × (c ≡ true)
and-three a b c e = let both = and_left (a && b) c e in (and_left a b both, and_right a b both, and_right (a && b) c e)

-- The test of equality
pub beq-true : (a b : Bool) → beq a b ≡ true → a ≡ b
beq-true true true e = refl
beq-true true false e = absurd (true≢false (sym e))
beq-true false true e = absurd (true≢false (sym e))
beq-true false false e = refl

-- By whether something is found
pub option_cases : {A C : Type 0} (o : Option A) → ((x : A) → o ≡ some x → C) → (o ≡ none → C) → C
option_cases none there missing = missing refl
option_cases (some x) there missing = there x refl

-- By whether a list is empty
pub list_cases : {A C : Type 0} (xs : List A) → (xs ≡ [] → C) → (xs ≢ [] → C) → C
list_cases [] empty nonempty = empty refl
list_cases (x ∷ xs) empty nonempty = nonempty (cons-ne-nil x xs)

-- ---- membership

-- A position after the first one
pub mem-cases : {A C : Type 0} {x y : A} {xs : List A} → x ∈ (y ∷ xs) → (x ≡ y → C) → (x ∈ xs → C) → C
mem-cases at here later = ⊎_elim here later (Memᴰ.cases_cons at)

-- Functions that agree on a list map it alike
pub map-agree : {A B : Type 0} (f g : A → B) (xs : List A) → ((x : A) → x ∈ xs → f x ≡ g x) → map f xs ≡ map g xs
map-agree f g [] same = refl
map-agree f g (x ∷ xs) same = ap₂ ◌∷◌ (same x (Memᴰ.head refl)) (map-agree f g xs (λ y at. same y (Memᴰ.tail at)))

-- The map of two lists joined

-- A map that keeps a list keeps each of its elements
pub map-fixes : {A : Type 0} (f : A → A) (xs : List A) → map f xs ≡ xs → (x : A) → x ∈ xs → f x ≡ x
map-fixes {A = A} f [] same x x4 = elim x4 [ ]
map-fixes f (y ∷ xs) same x (Memᴰ.head e) = let first : f y ≡ y = cc in cc
map-fixes f (y ∷ xs) same x (Memᴰ.tail at) = let later : map f xs ≡ xs = cc in map-fixes f xs later x at

-- A list whose map is empty is empty
pub map-empty : {A B : Type 0} (f : A → B) (xs : List A) → map f xs ≡ [] → xs ≡ []
map-empty f [] e = refl
map-empty f (x ∷ xs) e = absurd (cons≢nil e)

-- What stands at a place of a list, or the default where it is too short
pub get_or-mem : {A : Type 0} (xs : List A) (n : ℕ) (z : A) → (get_or xs n z ≡ z) ⊎ (get_or xs n z ∈ xs)
get_or-mem [] n z = inl refl
get_or-mem (x ∷ xs) zero z = inr (Memᴰ.head refl)
get_or-mem (x ∷ xs) (suc n) z = ⊎_elim inl (λ at. inr (Memᴰ.tail at)) (get_or-mem xs n z)

-- Copies of one element are that element
pub replicate-mem : {A : Type 0} (n : ℕ) (x y : A) → y ∈ replicate n x → y ≡ x
replicate-mem zero x y at = absurd (Memᴰ.not-nil at)
replicate-mem (suc n) x y at = mem-cases at (λ here. here) (λ later. replicate-mem n x y later)

-- ---- lists without repeats

-- No element stands twice
abbrev pub Nodup : {A : Type 0} → List A → Type 0
Nodup [] = Unit {0}
Nodup (x ∷ xs) = (x ∈ xs → ⊥) × Nodup xs

-- A list without one element is one shorter
pub without-length : {A : Type 0} {x : A} (xs : List A) (at : x ∈ xs) → suc (length (without xs at)) ≡ length xs
unfolding without
without-length {A = A} [] at = elim at [ ]
without-length (y ∷ xs) (Memᴰ.head e) = refl
without-length (y ∷ xs) (Memᴰ.tail at) = ap suc (without-length xs at)

-- and has every other element still
pub without-keeps : {A : Type 0} {x y : A} (xs : List A) (at : x ∈ xs) → y ∈ xs → (y ≡ x → ⊥) → y ∈ without xs at
unfolding without
without-keeps {A = A} {y = y} [] at there other = elim at [ ]
without-keeps (z ∷ xs) (Memᴰ.head e) there other = mem-cases there (λ e'. absurd (other (e' ∙ sym e))) (λ at'. at')
without-keeps (z ∷ xs) (Memᴰ.tail at) there other =
    mem-cases there (λ e'. Memᴰ.head e') (λ at'. Memᴰ.tail (without-keeps xs at at' other))

-- Pigeonhole: a list without repeats is not longer than one that has all its elements
pub nodup-length-le : {A : Type 0} (xs ys : List A) → Nodup xs → ((x : A) → x ∈ xs → x ∈ ys) → length xs ≤ length ys
nodup-length-le [] ys once among = zero-le
nodup-length-le (x ∷ xs) ys once among =
    let at : x ∈ ys = among x (Memᴰ.head refl) in
    let rest = nodup-length-le
    xs
    (without ys at)
    once.1
    (λ y there. without-keeps ys at (among y (Memᴰ.tail there)) (λ e. once.0 (Memᴰ.cast (sym e) there))) in
    omega (arith, rest, without-length ys at)

-- Two lists without repeats and with the same elements are equally long
pub nodup-length : {A : Type 0} (xs ys : List A) → Nodup xs → Nodup ys → ((x : A) → x ∈ xs → x ∈ ys) → ((x : A) → x ∈ ys → x ∈ xs) → length xs ≡ length ys
nodup-length xs ys once once' there back = omega (arith, nodup-length-le xs ys once there, nodup-length-le ys xs once' back)

-- ---- `member` and `distinct`

-- The test is membership
pub member-mem : (n : ℕ) (ns : List ℕ) → member n ns ≡ true → n ∈ ns
unfolding member
member-mem n [] e = absurd (false≢true e)
member-mem n (m ∷ ms) e =
    bool_cases (eqb n m) (λ p. Memᴰ.head (eqb-true n m p)) (λ p. Memᴰ.tail (member-mem n ms (rw p at e)))

pub mem-member : (n : ℕ) (ns : List ℕ) → n ∈ ns → member n ns ≡ true
unfolding member
mem-member n [] at = absurd (Memᴰ.not-nil at)
mem-member n (m ∷ ms) at =
    bool_cases (eqb n m) (λ p. rw p refl) (λ p. rw p (mem-cases at (λ e. absurd (eqb-false n m p e)) (λ at'. mem-member n ms at')))

pub member-not-mem : (n : ℕ) (ns : List ℕ) → member n ns ≡ false → n ∈ ns → ⊥
member-not-mem n ns e at = true≢false (sym (mem-member n ns at) ∙ e)

pub not-mem-member : (n : ℕ) (ns : List ℕ) → (n ∈ ns → ⊥) → member n ns ≡ false
not-mem-member n ns out = bool_cases (member n ns) (λ p. absurd (out (member-mem n ns p))) (λ p. p)

-- A number is in a list or not
pub mem-dec : (n : ℕ) (ns : List ℕ) → (n ∈ ns) ⊎ (n ∈ ns → ⊥)
mem-dec n ns = bool_cases (member n ns) (λ p. inl (member-mem n ns p)) (λ p. inr (member-not-mem n ns p))

-- `distinct` keeps every number
pub mem-distinct : (n : ℕ) (ns : List ℕ) → n ∈ ns → n ∈ distinct ns
unfolding distinct
mem-distinct n [] at = at
mem-distinct n (m ∷ ms) at =
    bool_cases
    (member m ms)
    (λ p. rw p (mem-distinct n ms (mem-cases at (λ e. Memᴰ.cast e (member-mem m ms p)) (λ at'. at'))))
    (λ p. rw p (mem-cases at (λ e. Memᴰ.head e) (λ at'. Memᴰ.tail (mem-distinct n ms at'))))

-- adds none
pub distinct-mem : (n : ℕ) (ns : List ℕ) → n ∈ distinct ns → n ∈ ns
unfolding distinct
distinct-mem n [] at = at
distinct-mem n (m ∷ ms) at =
    bool_cases
    (member m ms)
    (λ p. Memᴰ.tail (distinct-mem n ms (rw p at at)))
    (λ p. mem-cases (rw p at at) (λ e. Memᴰ.head e) (λ at'. Memᴰ.tail (distinct-mem n ms at')))

-- and leaves no repeats
pub distinct-nodup : (ns : List ℕ) → Nodup (distinct ns)
unfolding distinct
distinct-nodup [] = tt
distinct-nodup (m ∷ ms) =
    bool_cases
    (member m ms)
    (λ p. rw p (distinct-nodup ms))
    (λ p. rw p (λ at. member-not-mem m ms p (distinct-mem m ms at), distinct-nodup ms))

-- A list that passes `subset` is a part of the other, and a part of it passes
pub subset-true : (ms ns : List ℕ) → subset ms ns ≡ true → (n : ℕ) → n ∈ ms → n ∈ ns
unfolding subset
subset-true [] ns e n x'' = elim x'' [ ]
subset-true (m ∷ ms) ns e n (Memᴰ.head same) = Memᴰ.cast same (member-mem m ns (and_left (member m ns) (subset ms ns) e))
subset-true (m ∷ ms) ns e n (Memᴰ.tail at) = subset-true ms ns (and_right (member m ns) (subset ms ns) e) n at

pub subset-of : (ms ns : List ℕ) → ((n : ℕ) → n ∈ ms → n ∈ ns) → subset ms ns ≡ true
unfolding subset
subset-of [] ns part = refl
subset-of (m ∷ ms) ns part =
    and_both (member m ns) (subset ms ns) (mem-member m ns (part m (Memᴰ.head refl))) (subset-of ms ns (λ n at. part n (Memᴰ.tail at)))
