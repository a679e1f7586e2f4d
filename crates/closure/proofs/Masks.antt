-- Sets of columns as masks, bit c for column c: membership, subset, union and size of a mask are those of its columns.
use mathlib.Core.Path.{◌≡◌, refl, sym, ap, ap₂, ◌∙◌}
use mathlib.Core.Bool.{Bool, true, false, cond, ◌&&◌, ◌||◌}
use mathlib.Core.List.{List, [], ◌∷◌, ◌++◌}
use Prim.Native.Nat.{ℕ, zero, suc, ◌+◌, ◌*◌, ◌/◌, ◌%◌, ◌^◌, ◌<◌, min, max}
use native.Mathlib.Nat.{two-pow-succ, mod-lt, div-one, div-div-eq-div-mul, pow-succ', div-add-mod', zero-mul}
use native.Mathlib.Nat.{one-mul, mul-one, mul-add, add-mul, add_comm, add-zero}
use native.Mathlib.Omega.{arith}
use lib.Dec.{eqb, lit<, eqb-zero-suc, eqb-suc-zero, eqb-suc-suc}
use lib.Bits.{bit_and, bit_or, and_step, or_step, and_zero_l}
use lib.Count.{ones, ones_step}
use lib.ListN.{length}
use borrow.Author.Tests.{eqb-true, eqb-false, eq-eqb, ne_eqb}
use Rattle.lists.specs.Numbers.{numbers_where}
use Rattle.theory.specs.Query.{member}
use Rattle.theory.specs.Query.{subset}
use Rattle.query.specs.View.{columns_from, columns_of, mask_of}

-- Whether column c is in a mask
unfoldable pub bit : ℕ → ℕ → Bool
bit mask zero = eqb (mask % 2) 1
bit mask (suc c) = bit (mask / 2) c

ones-zero : ones 0 ≡ 0
unfolding ones
ones-zero = refl

-- ---- the columns of a mask

bit-zero : (c : ℕ) → bit 0 c ≡ false
unfolding bit
bit-zero zero = refl
bit-zero (suc c) = bit-zero c

columns-low : (c s n mask : ℕ) → c < s → member c (columns_from s n mask) ≡ false
unfolding columns_from member
columns-low c s zero mask h = refl
columns-low c s (suc n) mask h = go (eqb (mask % 2) 1) (columns-low c (suc s) n (mask / 2) (omega arith))
  where
    go : (t : Bool) → member c (columns_from (suc s) n (mask / 2)) ≡ false
        → member c (cond t (s ∷ columns_from (suc s) n (mask / 2)) (columns_from (suc s) n (mask / 2))) ≡ false
    go true rest = rw (ne_eqb c s (λ e. omega arith)) rest
    go false rest = rest

-- A column is among those of a mask exactly when its bit is set
pub columns-member : (n s mask c : ℕ) → mask < 2 ^ n → member (s + c) (columns_from s n mask) ≡ bit mask c
unfolding columns_from member bit
columns-member zero s mask c h = let none : mask ≡ 0 = omega arith in rw none (sym (bit-zero c))
columns-member (suc n) s mask zero h = go (eqb (mask % 2) 1)
  where
    go : (t : Bool) → member (s + 0) (cond t (s ∷ columns_from (suc s) n (mask / 2)) (columns_from (suc s) n (mask / 2))) ≡ t
    go true = rw (eq-eqb (s + 0) s (omega arith))
    go false = columns-low (s + 0) (suc s) n (mask / 2) (omega arith)
columns-member (suc n) s mask (suc c) h =
    let half : mask / 2 < 2 ^ n = omega (arith, two-pow-succ n) in
    let shift : s + suc c ≡ suc s + c = omega arith in
    go (eqb (mask % 2) 1) (ap (λ (k : ℕ). member k (columns_from (suc s) n (mask / 2))) shift ∙ columns-member n (suc s) (mask / 2) c half)
  where
    go : (t : Bool) → member (s + suc c) (columns_from (suc s) n (mask / 2)) ≡ bit (mask / 2) c
        → member (s + suc c) (cond t (s ∷ columns_from (suc s) n (mask / 2)) (columns_from (suc s) n (mask / 2))) ≡ bit (mask / 2) c
    go true rest = rw (ne_eqb (s + suc c) s (λ e. omega arith)) rest
    go false rest = rest

-- A list of columns and a mask are the same set
pub record Same (known : List ℕ) (mask : ℕ) : Type 0 where
  pub at : (c : ℕ) → member c known ≡ bit mask c

pub same-columns : (mask : ℕ) → mask < 256 → Same (columns_of mask) mask
same-columns mask h =
    record {
      at = λ c. let shift : c ≡ 0 + c = omega arith in ap (λ (k : ℕ). member k (columns_of mask)) shift ∙ columns-member 8 0 mask c h;
    }

-- The number of columns of a mask is the number of its ones
pub columns-count : (n s mask : ℕ) → mask < 2 ^ n → length (columns_from s n mask) ≡ ones mask
unfolding columns_from
columns-count zero s mask h = let none : mask ≡ 0 = omega arith in rw (none, ones-zero)
columns-count (suc n) s mask h =
    let half : mask / 2 < 2 ^ n = omega (arith, two-pow-succ n) in
    go (eqb (mask % 2) 1) refl (columns-count n (suc s) (mask / 2) half) ∙ sym (ones_step mask)
  where
    go : (t : Bool) → eqb (mask % 2) 1 ≡ t → length (columns_from (suc s) n (mask / 2)) ≡ ones (mask / 2)
        → length (cond t (s ∷ columns_from (suc s) n (mask / 2)) (columns_from (suc s) n (mask / 2))) ≡ mask % 2 + ones (mask / 2)
    go true e rest = let odd : mask % 2 ≡ 1 = eqb-true (mask % 2) 1 e in omega arith
    go false e rest = let even : mask % 2 ≡ 0 = omega (arith, eqb-false (mask % 2) 1 e, mod-lt mask {m = 2} (lit< tt)) in omega arith

-- ---- one column more

-- What a half and a remainder are, of a number given by both
halved : (x y t : ℕ) → x ≡ y * 2 + t → t < 2 → (x / 2 ≡ y) × (x % 2 ≡ t)
halved x y t e h = (omega arith, omega arith)

max-one : (x y : ℕ) → x < 2 → y < 2 → (eqb (max x y) 1 ≡ eqb x 1 || eqb y 1) × (max x y < 2)
max-one zero zero h g = (refl, lit< tt)
max-one zero (suc zero) h g = (refl, lit< tt)
max-one zero (suc (suc y)) h g = absurd (omega arith)
max-one (suc zero) zero h g = (refl, lit< tt)
max-one (suc zero) (suc zero) h g = (refl, lit< tt)
max-one (suc zero) (suc (suc y)) h g = absurd (omega arith)
max-one (suc (suc x)) y h g = absurd (omega arith)

bit-or : (a b c : ℕ) → bit (bit_or a b) c ≡ bit a c || bit b c
unfolding bit
bit-or a b zero =
    let two = max-one (a % 2) (b % 2) (mod-lt a (lit< tt)) (mod-lt b (lit< tt)) in
    let parts = halved (bit_or a b) (bit_or (a / 2) (b / 2)) (max (a % 2) (b % 2)) (or_step a b) two.1 in
    ap (λ (x : ℕ). eqb x 1) parts.1 ∙ two.0
bit-or a b (suc c) =
    let two = max-one (a % 2) (b % 2) (mod-lt a (lit< tt)) (mod-lt b (lit< tt)) in
    let parts = halved (bit_or a b) (bit_or (a / 2) (b / 2)) (max (a % 2) (b % 2)) (or_step a b) two.1 in
    ap (λ (x : ℕ). bit x c) parts.0 ∙ bit-or (a / 2) (b / 2) c

bit-power : (k c : ℕ) → bit (2 ^ k) c ≡ eqb c k
unfolding bit
bit-power zero zero = refl
bit-power zero (suc c) = bit-zero c ∙ sym (eqb-suc-zero c)
bit-power (suc k) zero = let even : 2 ^ suc k % 2 ≡ 0 = omega (arith, two-pow-succ k) in rw even (sym (eqb-zero-suc k))
bit-power (suc k) (suc c) =
    let half : 2 ^ suc k / 2 ≡ 2 ^ k = omega (arith, two-pow-succ k) in
    rw half (bit-power k c ∙ sym (eqb-suc-suc c k))

-- A column added to a list and to a mask
pub same_more : (known : List ℕ) (mask c : ℕ) → Same known mask → Same (c ∷ known) (bit_or mask (2 ^ c))
unfolding member
same_more known mask c same =
    record {
      at =
          λ k. ap (λ (t : Bool). cond (eqb k c) true t) (same.at k) ∙ or-cond (eqb k c) (bit mask k) ∙ ap (λ (t : Bool). bit mask k || t) (sym (bit-power c k))
          ∙ sym (bit-or mask (2 ^ c) k);
    }
  where
    or-cond : (t b : Bool) → cond t true b ≡ b || t
    or-cond true true = refl
    or-cond true false = refl
    or-cond false true = refl
    or-cond false false = refl

-- The columns of two lists and of both their masks
pub same-union : (known others : List ℕ) (mask more : ℕ) → Same known mask → Same others more → Same (known ++ others) (bit_or mask more)
unfolding member
same-union known others mask more same also =
    record {
      at =
          λ k. member-append k known others ∙ ap₂ ◌||◌ (same.at k) (also.at k) ∙ sym (bit-or mask more k);
    }
  where
    or-cond : (t a b : Bool) → cond t true (a || b) ≡ cond t true a || b
    or-cond true a b = refl
    or-cond false a b = refl

    member-append : (k : ℕ) (xs ys : List ℕ) → member k (xs ++ ys) ≡ member k xs || member k ys
    member-append k [] ys = refl
    member-append k (x ∷ xs) ys = ap (λ (t : Bool). cond (eqb k x) true t) (member-append k xs ys) ∙ or-cond (eqb k x) (member k xs) (member k ys)

-- The bit of a column, as a shift reads it
pub bit-shift : (mask c : ℕ) → bit mask c ≡ eqb (mask / 2 ^ c % 2) 1
unfolding bit
bit-shift mask zero = ap (λ (x : ℕ). eqb (x % 2) 1) (sym (div-one mask))
bit-shift mask (suc c) =
    bit-shift (mask / 2) c ∙ ap (λ (x : ℕ). eqb (x % 2) 1) (div-div-eq-div-mul mask 2 (2 ^ c) ∙ ap (λ (x : ℕ). mask / x) (sym (pow-succ' 2 c)))

-- ---- a set within another

digits_same : (x y a b : ℕ) → a < 2 → b < 2 → eqb (x * 2 + a) (y * 2 + b) ≡ eqb a b && eqb x y
digits_same x y a b h g = go (eqb a b) refl (eqb x y) refl
  where
    go : (t : Bool) → eqb a b ≡ t → (u : Bool) → eqb x y ≡ u → eqb (x * 2 + a) (y * 2 + b) ≡ t && u
    go true e true f = let p : a ≡ b = eqb-true a b e in let q : x ≡ y = eqb-true x y f in eq-eqb (x * 2 + a) (y * 2 + b) (omega arith)
    go true e false f = ne_eqb (x * 2 + a) (y * 2 + b) (λ p. eqb-false x y f (let q : a ≡ b = eqb-true a b e in omega arith))
    go false e u f = ne_eqb (x * 2 + a) (y * 2 + b) (λ p. eqb-false a b e (omega arith))

min-one : (x y : ℕ) → x < 2 → y < 2 → (eqb (min x y) x ≡ cond (eqb x 1) (eqb y 1) true) × (min x y < 2)
min-one zero zero h g = (refl, lit< tt)
min-one zero (suc zero) h g = (refl, lit< tt)
min-one zero (suc (suc y)) h g = absurd (omega arith)
min-one (suc zero) zero h g = (refl, lit< tt)
min-one (suc zero) (suc zero) h g = (refl, lit< tt)
min-one (suc zero) (suc (suc y)) h g = absurd (omega arith)
min-one (suc (suc x)) y h g = absurd (omega arith)

and-test : (l m : ℕ) → eqb (bit_and l m) l ≡ cond (eqb (l % 2) 1) (eqb (m % 2) 1) true && eqb (bit_and (l / 2) (m / 2)) (l / 2)
and-test l m =
    let two = min-one (l % 2) (m % 2) (mod-lt l (lit< tt)) (mod-lt m (lit< tt)) in
    ap₂ eqb (and_step l m) (sym (div-add-mod' l 2))
    ∙ digits_same (bit_and (l / 2) (m / 2)) (l / 2) (min (l % 2) (m % 2)) (l % 2) two.1 (mod-lt l (lit< tt))
    ∙ ap (λ (t : Bool). t && eqb (bit_and (l / 2) (m / 2)) (l / 2)) two.0

subset-from : (n s l m : ℕ) (known : List ℕ) → l < 2 ^ n → ((k : ℕ) → member (s + k) known ≡ bit m k)
    → subset (columns_from s n l) known ≡ eqb (bit_and l m) l
unfolding columns_from subset bit
subset-from zero s l m known h same = let none : l ≡ 0 = omega arith in sym (eq-eqb (bit_and l m) l (ap (λ (x : ℕ). bit_and x m) none ∙ and_zero_l m ∙ sym none))
subset-from (suc n) s l m known h same =
    let half : l / 2 < 2 ^ n = omega (arith, two-pow-succ n) in
    let first : member s known ≡ eqb (m % 2) 1 = ap (λ (k : ℕ). member k known) (omega arith) ∙ same 0 in
    let next : (k : ℕ) → member (suc s + k) known ≡ bit (m / 2) k =
    λ k. let shift : suc s + k ≡ s + suc k = omega arith in ap (λ (i : ℕ). member i known) shift ∙ same (suc k)
    in
    go (eqb (l % 2) 1) first (subset-from n (suc s) (l / 2) (m / 2) known half next) ∙ sym (and-test l m)
  where
    go : (t : Bool) → member s known ≡ eqb (m % 2) 1 → subset (columns_from (suc s) n (l / 2)) known ≡ eqb (bit_and (l / 2) (m / 2)) (l / 2)
        → subset (cond t (s ∷ columns_from (suc s) n (l / 2)) (columns_from (suc s) n (l / 2))) known
        ≡ cond t (eqb (m % 2) 1) true && eqb (bit_and (l / 2) (m / 2)) (l / 2)
    go true first rest = ap₂ ◌&&◌ first rest
    go false first rest = rest

-- The columns of a mask stand in a list exactly when the mask has nothing outside the list's mask
pub subset-mask : (l m : ℕ) (known : List ℕ) → l < 256 → Same known m → subset (columns_of l) known ≡ eqb (bit_and l m) l
subset-mask l m known h same =
    subset-from 8 0 l m known h (λ k. let shift : 0 + k ≡ k = omega arith in ap (λ (i : ℕ). member i known) shift ∙ same.at k)

all_from : (n s m : ℕ) (known : List ℕ) → m < 2 ^ n → ((k : ℕ) → member (s + k) known ≡ bit m k)
    → subset (numbers_where (λ c. true) s n) known ≡ eqb (m + 1) (2 ^ n)
unfolding numbers_where subset bit
all_from zero s m known h same = sym (eq-eqb (m + 1) 1 (omega arith))
all_from (suc n) s m known h same =
    let half : m / 2 < 2 ^ n = omega (arith, two-pow-succ n) in
    let first : member s known ≡ eqb (m % 2) 1 = ap (λ (k : ℕ). member k known) (omega arith) ∙ same 0 in
    let next : (k : ℕ) → member (suc s + k) known ≡ bit (m / 2) k =
    λ k. let shift : suc s + k ≡ s + suc k = omega arith in ap (λ (i : ℕ). member i known) shift ∙ same (suc k)
    in
    ap₂ ◌&&◌ first (all_from n (suc s) (m / 2) known half next)
    ∙ go (eqb (m % 2) 1) refl (eqb (m / 2 + 1) (2 ^ n)) refl
  where
    go : (t : Bool) → eqb (m % 2) 1 ≡ t → (u : Bool) → eqb (m / 2 + 1) (2 ^ n) ≡ u → t && u ≡ eqb (m + 1) (2 ^ suc n)
    go true e true f =
        let p : m % 2 ≡ 1 = eqb-true (m % 2) 1 e in
        let q : m / 2 + 1 ≡ 2 ^ n = eqb-true (m / 2 + 1) (2 ^ n) f in
        sym (eq-eqb (m + 1) (2 ^ suc n) (omega (arith, two-pow-succ n)))
    go true e false f = sym (ne_eqb (m + 1) (2 ^ suc n) (λ p. eqb-false (m / 2 + 1) (2 ^ n) f (omega (arith, two-pow-succ n))))
    go false e u f = sym (ne_eqb (m + 1) (2 ^ suc n) (λ p. eqb-false (m % 2) 1 e (omega (arith, two-pow-succ n))))

-- All columns below a width stand in a list exactly when the list's mask has all their bits
pub all-columns : (width m : ℕ) (known : List ℕ) → m < 2 ^ width → Same known m → subset (numbers_where (λ c. true) 0 width) known ≡ eqb (m + 1) (2 ^ width)
all-columns width m known h same =
    all_from width 0 m known h (λ k. let shift : 0 + k ≡ k = omega arith in ap (λ (i : ℕ). member i known) shift ∙ same.at k)

-- ---- back from a mask

columns-in-from : (n s m : ℕ) (known : List ℕ) → ((k : ℕ) → member (s + k) known ≡ bit m k) → numbers_where (λ c. member c known) s n ≡ columns_from s n m
unfolding numbers_where columns_from bit
columns-in-from zero s m known same = refl
columns-in-from (suc n) s m known same =
    let first : member s known ≡ eqb (m % 2) 1 = ap (λ (k : ℕ). member k known) (omega arith) ∙ same 0 in
    let next : (k : ℕ) → member (suc s + k) known ≡ bit (m / 2) k =
    λ k. let shift : suc s + k ≡ s + suc k = omega arith in ap (λ (i : ℕ). member i known) shift ∙ same (suc k)
    in
    ap₂ (λ (t : Bool) (cs : List ℕ). cond t (s ∷ cs) cs) first (columns-in-from n (suc s) (m / 2) known next)

-- The columns below a width that stand in a list are those of the list's mask
pub columns-in : (width m : ℕ) (known : List ℕ) → Same known m → numbers_where (λ c. member c known) 0 width ≡ columns_from 0 width m
columns-in width m known same =
    columns-in-from width 0 m known (λ k. let shift : 0 + k ≡ k = omega arith in ap (λ (i : ℕ). member i known) shift ∙ same.at k)

doubled : (x p : ℕ) → x * 2 * p ≡ x * (p + p)
doubled x p = let two : x * 2 ≡ x + x = omega arith in ap (λ (k : ℕ). k * p) two ∙ add-mul x x p ∙ sym (mul-add x p p)

carried : (m s : ℕ) → m * 2 ^ s ≡ m / 2 * 2 ^ suc s + m % 2 * 2 ^ s
carried m s =
    ap (λ (k : ℕ). k * 2 ^ s) (sym (div-add-mod' m 2)) ∙ add-mul (m / 2 * 2) (m % 2) (2 ^ s)
    ∙ ap (λ (k : ℕ). k + m % 2 * 2 ^ s) (doubled (m / 2) (2 ^ s) ∙ ap (λ (k : ℕ). m / 2 * k) (sym (two-pow-succ s)))

mask-from : (n s m : ℕ) → m < 2 ^ n → mask_of (columns_from s n m) ≡ m * 2 ^ s
unfolding columns_from mask_of
mask-from zero s m h = let none : m ≡ 0 = omega arith in rw (none, zero-mul (2 ^ s))
mask-from (suc n) s m h =
    let half : m / 2 < 2 ^ n = omega (arith, two-pow-succ n) in
    go (eqb (m % 2) 1) refl (mask-from n (suc s) (m / 2) half)
  where
    go : (t : Bool) → eqb (m % 2) 1 ≡ t → mask_of (columns_from (suc s) n (m / 2)) ≡ m / 2 * 2 ^ suc s
        → mask_of (cond t (s ∷ columns_from (suc s) n (m / 2)) (columns_from (suc s) n (m / 2))) ≡ m * 2 ^ s
    go true e rest =
        ap (λ (k : ℕ). 2 ^ s + k) rest ∙ add_comm (2 ^ s) (m / 2 * 2 ^ suc s)
        ∙ ap (λ (k : ℕ). m / 2 * 2 ^ suc s + k) (sym (ap (λ (k : ℕ). k * 2 ^ s) (eqb-true (m % 2) 1 e) ∙ one-mul (2 ^ s)))
        ∙ sym (carried m s)
    go false e rest =
        let even : m % 2 ≡ 0 = omega (arith, eqb-false (m % 2) 1 e, mod-lt m {m = 2} (lit< tt)) in
        rest ∙ sym (add-zero (m / 2 * 2 ^ suc s)) ∙ ap (λ (k : ℕ). m / 2 * 2 ^ suc s + k) (sym (ap (λ (k : ℕ). k * 2 ^ s) even ∙ zero-mul (2 ^ s)))
        ∙ sym (carried m s)

-- The mask of the columns of a mask is that mask
pub mask-columns : (n m : ℕ) → m < 2 ^ n → mask_of (columns_from 0 n m) ≡ m
mask-columns n m h = mask-from n 0 m h ∙ mul-one m
