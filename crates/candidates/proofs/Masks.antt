-- Masks made bit by bit from the highest down: each turn doubles the mask and adds the next lower bit.
-- Assumes nothing.
use Rattle.consistency.specs.internal.Solution.{Bit as Has}
use mathlib.Core.Bool.{Bool, true, false, false≢true}
use Rattle.std.specs.Int.{from_bool}
use Rattle.lists.specs.internal.Tells.{Tells}
use mathlib.Core.Path.{◌≡◌, refl, sym, ◌∙◌, ap, subst}
use mathlib.Core.Logic.{◌↔◌, ◌⊎◌, inl, inr}
use Prim.Native.Nat.{ℕ, zero, suc, ◌+◌, ◌-◌, ◌*◌, ◌/◌, ◌%◌, ◌^◌, ◌≤◌, ◌<◌}
use native.Mathlib.Nat.{div-div-eq-div-mul, pow-succ', not-suc-le-zero, le_of_suc-le-suc, div-eq_of_lt, le_trans}
use lib.Pow.{pow_mono}
use native.Mathlib.Omega.{arith}
use Rattle.lists.proofs.Tests.{below-or-past}
use Rattle.candidates.specs.internal.Candidates.{Marks, Tested}

-- The lowest bit of a doubled mask is the added one
has-lowest : (m b : ℕ) → b < 2 → (m * 2 + b) / 2 ^ 0 % 2 ≡ b
has-lowest m b h = omega arith

half_is : (m b : ℕ) → b < 2 → (m * 2 + b) / 2 ≡ m
half_is m b h = omega arith

-- and the others are the mask's, one place up
has-higher : (m b i : ℕ) → b < 2 → (m * 2 + b) / 2 ^ suc i % 2 ≡ m / 2 ^ i % 2
has-higher m b i h =
    ap (λ (x : ℕ). x % 2)
    (ap (λ (x : ℕ). (m * 2 + b) / x) (pow-succ' 2 i) ∙ sym (div-div-eq-div-mul (m * 2 + b) 2 (2 ^ i)) ∙ ap (λ (x : ℕ). x / 2 ^ i) (half_is m b h))

pub marks-none : (P : ℕ → Type 0) → Marks 0 0 P
marks-none P = (omega arith, λ e h. absurd (not-suc-le-zero h))

doubled-lt : (n m b : ℕ) → m < 2 ^ n → b < 2 → m * 2 + b < 2 ^ suc n
doubled-lt n m b h k = subst (λ (x : ℕ). m * 2 + b < x) (sym (pow-succ' 2 n)) (omega arith)

cons-bits : (n m b : ℕ) (P : ℕ → Type 0) → b < 2 → ((b ≡ 1) ↔ P 0) → ((e : ℕ) → e < n → (Has m e ↔ P (suc e)))
    → (e : ℕ) → e < suc n → (Has (m * 2 + b) e ↔ P e)
cons-bits n m b P h first later zero k = ((λ x. first.0 (sym (has-lowest m b h) ∙ x)), (λ p. has-lowest m b h ∙ first.1 p))
cons-bits n m b P h first later (suc e) k =
    ((λ x. (later e (le_of_suc-le-suc k)).0 (sym (has-higher m b e h) ∙ x)), (λ p. has-higher m b e h ∙ (later e (le_of_suc-le-suc k)).1 p))

-- One more bit, below the others
pub marks-more : (n m b : ℕ) (P : ℕ → Type 0) → b < 2 → ((b ≡ 1) ↔ P 0) → Marks n m (λ e. P (suc e)) → Marks (suc n) (m * 2 + b) P
marks-more n m b P h first later = (doubled-lt n m b later.0 h, cons-bits n m b P h first later.1)

-- A mask has no bit past its bits
pub has-below : (n m e : ℕ) → m < 2 ^ n → Has m e → e < n
has-below n m e h has = go (below-or-past e n)
  where
    gone : n ≤ e → ◌≡◌ {A = ℕ} 0 1
    gone k = sym (ap (λ (x : ℕ). x % 2) (div-eq_of_lt (le_trans h (pow_mono k)))) ∙ has

    go : (e < n) ⊎ (n ≤ e) → e < n
    go (inl k) = k
    go (inr k) = let z : ◌≡◌ {A = ℕ} 0 1 = gone k in absurd (omega arith)

-- All numbers below n
pub all-marks : (n : ℕ) → Marks n (2 ^ n - 1) (λ e. Unit {0})
all-marks zero = marks-none (λ e. Unit {0})
all-marks (suc n) =
    let low : 0 ≤ n = omega arith in
    let some : 2 ^ 0 ≤ 2 ^ n = pow_mono low in
    let twice : 2 ^ suc n ≡ 2 * 2 ^ n = pow-succ' 2 n in
    let same : (2 ^ n - 1) * 2 + 1 ≡ 2 ^ suc n - 1 = omega arith in
    subst (λ (m : ℕ). Marks (suc n) m (λ e. Unit {0})) same
    (marks-more n (2 ^ n - 1) 1 (λ e. Unit {0}) (omega arith) ((λ e. tt), (λ u. refl)) (all-marks n))

-- ---- what a test answers

-- Where the answers tell P, the mask is of those with P
pub marks-tested : (R : ℕ → Bool → Type 0) (P : ℕ → Type 0) (n m : ℕ) → ((e : ℕ) (b : Bool) → e < n → R e b → Tells b (P e)) → Tested R n m → Marks n m P
marks-tested R P n m tells tested = (
  tested.0,
  (λ e h.
      let t = tested.1 e h in
      let told = tells e t.0 h t.1 in
      ((λ has. told.0 (t.2.1 has)), (λ p. t.2.0 (told.1 p)))),
)

bit-small : (b : Bool) → from_bool b < 2
bit-small true = omega arith
bit-small false = omega arith

bit-true : (b : Bool) → (b ≡ true) ↔ (from_bool b ≡ 1)
bit-true true = ((λ e. refl), (λ e. refl))
bit-true false = ((λ e. absurd (false≢true e)), (λ e. absurd (omega arith)))

-- One more bit, below the others
tested-more : (R : ℕ → Bool → Type 0) (n m : ℕ) (b : Bool) → R 0 b → Tested (λ e. R (suc e)) n m → Tested R (suc n) (m * 2 + from_bool b)
tested-more R n m b here later = (doubled-lt n m (from_bool b) later.0 (bit-small b), each)
  where
    each : (e : ℕ) → e < suc n → (b' : Bool) × R e b' × ((b' ≡ true) ↔ Has (m * 2 + from_bool b) e)
    each zero h =
        let t = bit-true b in
        (b, here, ((λ x. has-lowest m (from_bool b) (bit-small b) ∙ t.0 x), (λ x. t.1 (sym (has-lowest m (from_bool b) (bit-small b)) ∙ x))))
    each (suc e) h =
        let w = later.1 e (le_of_suc-le-suc h) in
        let same = has-higher m (from_bool b) e (bit-small b) in
        (w.0, w.1, ((λ x. same ∙ w.2.0 x), (λ x. w.2.1 (sym same ∙ x))))

-- ---- as a loop makes them, from number c down to 0

-- A mask for the numbers from e on, with the number before them
pub tested-down : (R : ℕ → Bool → Type 0) (c e m : ℕ) (b : Bool) → 0 < e → e ≤ c → R (e - 1) b → Tested (λ i. R (e + i)) (c - e) m
    → Tested (λ i. R (e - 1 + i)) (c - (e - 1)) (m * 2 + from_bool b)
tested-down R c e m b pos le here later =
    let longer : suc (c - e) ≡ c - (e - 1) = omega arith in
    let front : e - 1 ≡ e - 1 + 0 = omega arith in
    subst (λ (n : ℕ). Tested (λ i. R (e - 1 + i)) n (m * 2 + from_bool b)) longer
    (tested-more (λ i. R (e - 1 + i)) (c - e) m b (subst (λ (k : ℕ). R k b) front here) (
      later.0,
      (λ i h.
          let step : e + i ≡ e - 1 + suc i = omega arith in
          let w = later.1 i h in
          (w.0, subst (λ (k : ℕ). R k w.0) step w.1, w.2)),
    ))

-- The loop's end
pub tested-end : (R : ℕ → Bool → Type 0) (c e m : ℕ) → e ≤ 0 → Tested (λ i. R (e + i)) (c - e) m → Tested R c m
tested-end R c e m le later =
    let all : c - e ≡ c = omega arith in
    let front : (i : ℕ) → e + i ≡ i = λ i. omega arith in
    subst (λ (n : ℕ). Tested R n m) all (later.0, (λ i h. let w = later.1 i h in (w.0, subst (λ (k : ℕ). R k w.0) (front i) w.1, w.2)))
