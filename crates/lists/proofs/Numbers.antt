-- Laws of the numbers of a range that pass a test: which they are, that tests that agree pass the same, and ranges put together. Assumes nothing.
use mathlib.Core.Path.{◌≡◌, refl, sym, ap, ◌∙◌}
use mathlib.Core.Bool.{Bool, true, false, cond, true≢false}
use mathlib.Core.List.{List, [], ◌∷◌, ◌++◌, Memᴰ}
use Prim.Native.Nat.{ℕ, zero, suc, ◌+◌, ◌≤◌, ◌<◌}
use native.Mathlib.Nat.{zero-add}
use native.Mathlib.Decide.{ℕ_discrete}
use native.Mathlib.Omega.{arith}
use Rattle.lists.specs.Numbers.{numbers_where}

-- ---- which they are

module _ (test : ℕ → Bool) where
  -- Each is in the range and passes
  pub where-from : (start n c : ℕ) → Memᴰ c (numbers_where test start n) → (start ≤ c) × (c < start + n) × (test c ≡ true)
  unfolding numbers_where
  where-from start zero c at = elim at [ ]
  where-from start (suc n) c at = go (test start) refl (where-from (suc start) n c) at
    where
      go : (b : Bool) → test start ≡ b → (Memᴰ c (numbers_where test (suc start) n) → (suc start ≤ c) × (c < suc start + n) × (test c ≡ true))
          → Memᴰ c (cond b (start ∷ numbers_where test (suc start) n) (numbers_where test (suc start) n))
          → (start ≤ c) × (c < start + suc n) × (test c ≡ true)
      go true e rest (Memᴰ.head same) = (omega arith, omega arith, ap test same ∙ e)
      go true e rest (Memᴰ.tail at) = let r = rest at in (omega arith, omega arith, r.2)
      go false e rest at = let r = rest at in (omega arith, omega arith, r.2)

  -- and what is in the range and passes is one of them
  pub where-of : (start n c : ℕ) → start ≤ c → c < start + n → test c ≡ true → Memᴰ c (numbers_where test start n)
  unfolding numbers_where
  where-of start zero c low high passes = absurd (omega arith)
  where-of start (suc n) c low high passes = go (test start) refl (ℕ_discrete c start) (where-of (suc start) n c)
    where
      go : (b : Bool) → test start ≡ b → Dec (c ≡ start) → (suc start ≤ c → c < suc start + n → test c ≡ true → Memᴰ c (numbers_where test (suc start) n))
          → Memᴰ c (cond b (start ∷ numbers_where test (suc start) n) (numbers_where test (suc start) n))
      go true e (yes same) rest = Memᴰ.head same
      go true e (no other) rest = Memᴰ.tail (rest (omega arith) (omega arith) passes)
      go false e (yes same) rest = absurd (true≢false (sym passes ∙ ap test same ∙ e))
      go false e (no other) rest = rest (omega arith) (omega arith) passes

-- Tests that agree pass the same numbers
pub where-same : (test other : ℕ → Bool) (start n : ℕ) → ((v : ℕ) → test v ≡ other v) → numbers_where test start n ≡ numbers_where other start n
unfolding numbers_where
where-same test other start zero same = refl
where-same test other start (suc n) same =
    let e : test start ≡ other start = same start in
    let rest : numbers_where test (suc start) n ≡ numbers_where other (suc start) n = where-same test other (suc start) n same in
    rw (e, rest)

-- ---- ranges put together

where-none : (test : ℕ → Bool) (start n : ℕ) → ((v : ℕ) → start ≤ v → test v ≡ false) → numbers_where test start n ≡ []
unfolding numbers_where
where-none test start zero none = refl
where-none test start (suc n) none =
    let e : test start ≡ false = none start (omega arith) in
    rw e (where-none test (suc start) n (λ v h. none v (omega arith)))

-- Further numbers that do not pass change nothing
pub where-more : (test : ℕ → Bool) (start n m : ℕ) → ((v : ℕ) → start + n ≤ v → test v ≡ false) → numbers_where test start (n + m) ≡ numbers_where test start n
unfolding numbers_where
where-more test start zero m none = rw zero-add (where-none test start m (λ v h. none v (omega arith)))
where-more test start (suc n) m none =
    let e : suc n + m ≡ suc (n + m) = omega arith in
    let rest : numbers_where test (suc start) (n + m) ≡ numbers_where test (suc start) n = where-more test (suc start) n m (λ v h. none v (omega arith)) in
    rw (e, rest)

-- Those of one range and then of the next
pub where-append : (test : ℕ → Bool) (start m n : ℕ) → numbers_where test start (m + n) ≡ numbers_where test start m ++ numbers_where test (start + m) n
unfolding numbers_where
where-append test start zero n =
    let e : 0 + n ≡ n = omega arith in
    let f : start ≡ start + 0 = omega arith in
    ap (λ (k : ℕ). numbers_where test start k) e ∙ ap (λ (k : ℕ). numbers_where test k n) f
where-append test start (suc m) n =
    let e : suc m + n ≡ suc (m + n) = omega arith in
    let f : suc start + m ≡ start + suc m = omega arith in
    ap (λ (k : ℕ). numbers_where test start k) e
    ∙ go (test start) (where-append test (suc start) m n ∙ ap (λ (k : ℕ). numbers_where test (suc start) m ++ numbers_where test k n) f)
  where
    go : (t : Bool) → numbers_where test (suc start) (m + n) ≡ numbers_where test (suc start) m ++ numbers_where test (start + suc m) n
        → cond t (start ∷ numbers_where test (suc start) (m + n)) (numbers_where test (suc start) (m + n))
        ≡ cond t (start ∷ numbers_where test (suc start) m) (numbers_where test (suc start) m) ++ numbers_where test (start + suc m) n
    go true e = ap (λ (ps : List ℕ). start ∷ ps) e
    go false e = e

-- A range of one number
pub where-one : (test : ℕ → Bool) (n : ℕ) → test n ≡ true → numbers_where test n 1 ≡ n ∷ []
unfolding numbers_where
where-one test n e = rw e

pub where-not : (test : ℕ → Bool) (n : ℕ) → test n ≡ false → numbers_where test n 1 ≡ []
unfolding numbers_where
where-not test n e = rw e
