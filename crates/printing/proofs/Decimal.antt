-- Laws of numbers in decimal: how the digits of a number end, that they read back as the number, have no leading zero, and how many they are. Assumes nothing.
use mathlib.Core.Path.{◌≡◌, refl, sym, ap, ◌∙◌}
use mathlib.Core.Bool.{Bool, true, false}
use mathlib.Core.List.{List, [], ◌∷◌, ◌++◌}
use Prim.Native.Nat.{ℕ, zero, suc, ◌+◌, ◌*◌, ◌-◌, ◌/◌, ◌%◌, ◌^◌, ◌≤◌, ◌<◌}
use native.Mathlib.Nat.{not-suc-le-zero, pow-suc}
use native.Mathlib.Omega.{arith}
use lib.Dec.{ltb}
use lib.ListN.{length, get_or, length-append, get_or-append}
use borrow.Author.Tests.{lt-ltb, le-ltb, ltb-true, ltb-false}
use Rattle.printing.specs.Decimal.{digits, decimal}
use Rattle.printing.specs.Meaning.{value_after, DecimalReadsBack, DecimalLeads}

-- ---- how the digits end

-- It does not matter how many digits are allowed, if they are enough
digits-enough : (j k n : ℕ) → n < j → n < k → digits j n ≡ digits k n
unfolding digits
digits-enough zero k n p q = absurd (not-suc-le-zero p)
digits-enough (suc j) zero n p q = absurd (not-suc-le-zero q)
digits-enough (suc j) (suc k) n p q = go (digits-enough j k (n / 10)) (ltb n 10) refl
  where
    go : (n / 10 < j → n / 10 < k → digits j (n / 10) ≡ digits k (n / 10)) → (t : Bool) → ltb n 10 ≡ t → digits (suc j) n ≡ digits (suc k) n
    go more true e = rw e
    go more false e =
        let h : 10 ≤ n = ltb-false n 10 e in
        let l : digits j (n / 10) ≡ digits k (n / 10) = more (omega arith) (omega arith) in
        rw (e, l)

pub decimal-one : (n : ℕ) → n < 10 → decimal n ≡ (48 + n) ∷ []
unfolding decimal digits
decimal-one n h = let e : ltb n 10 ≡ true = lt-ltb n 10 h in rw e

pub decimal-more : (n : ℕ) → 10 ≤ n → decimal n ≡ decimal (n / 10) ++ ((48 + n % 10) ∷ [])
unfolding decimal digits
decimal-more n h =
    let e : ltb n 10 ≡ false = le-ltb n 10 h in
    let l : digits n (n / 10) ≡ digits (suc (n / 10)) (n / 10) = digits-enough n (suc (n / 10)) (n / 10) (omega arith) (omega arith) in
    rw e (ap (λ (s : List ℕ). s ++ ((48 + n % 10) ∷ [])) l)

-- What holds of the numbers of one digit, and of each number when it holds without its last digit, holds of all
by_digits : (P : ℕ → Type 0) → ((n : ℕ) → n < 10 → P n) → ((n : ℕ) → 10 ≤ n → P (n / 10) → P n) → (n : ℕ) → P n
by_digits P one more n = go (suc n) n (omega arith)
  where
    go : (k n : ℕ) → n < k → P n
    go zero n h = absurd (not-suc-le-zero h)
    go (suc k) n h = pick (go k (n / 10)) (ltb n 10) refl
      where
        pick : (n / 10 < k → P (n / 10)) → (t : Bool) → ltb n 10 ≡ t → P n
        pick rest true e = one n (ltb-true n 10 e)
        pick rest false e = let l : 10 ≤ n = ltb-false n 10 e in more n l (rest (omega arith))

-- ---- what the digits mean

value-append : (a : ℕ) (s t : List ℕ) → value_after a (s ++ t) ≡ value_after (value_after a s) t
unfolding value_after
value-append a [] t = refl
value-append a (x ∷ s) t = value-append (10 * a + (x - 48)) s t

-- A number in decimal reads back as the number
pub decimal-reads-back : DecimalReadsBack
unfolding value_after
decimal-reads-back n = by_digits (λ n. value_after 0 (decimal n) ≡ n) one more n
  where
    one : (n : ℕ) → n < 10 → value_after 0 (decimal n) ≡ n
    one n h = rw (decimal-one n h) (omega arith)

    more : (n : ℕ) → 10 ≤ n → value_after 0 (decimal (n / 10)) ≡ n / 10 → value_after 0 (decimal n) ≡ n
    more n h ih = rw (decimal-more n h, value-append 0 (decimal (n / 10)) ((48 + n % 10) ∷ []), ih) (omega arith)

-- There is a digit, and only 0 starts with the digit 0
pub decimal-leads : DecimalLeads
decimal-leads n = by_digits (λ n. (0 < length (decimal n)) × (get_or (decimal n) 0 0 ≡ 48 → n ≡ 0)) one more n
  where
    one : (n : ℕ) → n < 10 → (0 < length (decimal n)) × (get_or (decimal n) 0 0 ≡ 48 → n ≡ 0)
    one n h = rw (decimal-one n h) (omega arith, λ e. omega arith)

    more : (n : ℕ) → 10 ≤ n → (0 < length (decimal (n / 10))) × (get_or (decimal (n / 10)) 0 0 ≡ 48 → n / 10 ≡ 0)
        → (0 < length (decimal n)) × (get_or (decimal n) 0 0 ≡ 48 → n ≡ 0)
    more n h ih =
        rw (decimal-more n h) (
          rw length-append (omega arith),
          λ e. let z : n / 10 ≡ 0 = ih.1 (sym (get_or-append (decimal (n / 10)) ((48 + n % 10) ∷ []) 0 0 ih.0) ∙ e) in omega arith,
        )

-- ---- how many digits there are

-- A number below 10 ^ k has at most k digits, if k is not 0
pub decimal-length : (k n : ℕ) → n < 10 ^ suc k → length (decimal n) ≤ suc k
decimal-length zero n h = rw (decimal-one n h) (omega arith)
decimal-length (suc k) n h = go (decimal-length k (n / 10)) (ltb n 10) refl
  where
    go : (n / 10 < 10 ^ suc k → length (decimal (n / 10)) ≤ suc k) → (t : Bool) → ltb n 10 ≡ t → length (decimal n) ≤ suc (suc k)
    go shorter true e = rw (decimal-one n (ltb-true n 10 e)) (omega arith)
    go shorter false e =
        let p : 10 ^ suc (suc k) ≡ 10 ^ suc k * 10 = pow-suc 10 (suc k) in
        let l : length (decimal (n / 10)) ≤ suc k = shorter (omega arith) in
        rw (decimal-more n (ltb-false n 10 e), length-append) (omega arith)
