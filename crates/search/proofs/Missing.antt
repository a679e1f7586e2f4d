-- How many rows are missing in a mask.
-- Assumes nothing.
use mathlib.Core.Path.{◌≡◌, refl, subst}
use Prim.Native.Nat.{ℕ, zero, suc, ◌/◌, ◌^◌, ◌<◌, ◌≤◌}
use native.Mathlib.Nat.{zero-div}
use native.Mathlib.Omega.{arith}
use native.Mathlib.Decide.{dec_lt}
use lib.Bits.{bit_or}
use Rattle.consistency.specs.internal.Solution.{Bit}
use Rattle.consistency.specs.internal.Consistent.{NoBit}
use Rattle.lists.proofs.Bits.{or-digit}
use Rattle.consistency.proofs.Masks.{bit_or_right, bit-one}
use Rattle.search.specs.internal.Invariant.{missing}

pub missing-none : (n : ℕ) → missing 0 n ≡ n
unfolding missing
missing-none zero = refl
missing-none (suc n) =
    let z : ◌≡◌ {A = ℕ} (0 / 2 ^ n) 0 = zero-div (2 ^ n) in
    let h : missing 0 n ≡ n = missing-none n in
    omega arith

missing-or : (p m n : ℕ) → missing (bit_or p m) n ≤ missing p n
unfolding missing
missing-or p m zero = omega arith
missing-or p m (suc n) = let h : missing (bit_or p m) n ≤ missing p n = missing-or p m n in omega (arith, or-digit p m n)

pub missing-less : (p r n : ℕ) → r < n → NoBit p r → missing (bit_or p (2 ^ r)) n < missing p n
unfolding missing
missing-less p r zero h f = omega arith
missing-less p r (suc n) h f = go (dec_lt r n) (λ k. missing-less p r n k f)
  where
    last : r ≡ n → missing (bit_or p (2 ^ r)) (suc n) < missing p (suc n)
    last e =
        let free : NoBit p n = subst (NoBit p) e f in
        let held : Bit (bit_or p (2 ^ r)) n = subst (Bit (bit_or p (2 ^ r))) e (bit_or_right p (2 ^ r) r (bit-one r)) in
        omega (arith, missing-or p (2 ^ r) n)

    go : Dec (r < n) → (r < n → missing (bit_or p (2 ^ r)) n < missing p n) → missing (bit_or p (2 ^ r)) (suc n) < missing p (suc n)
    go (yes k) ih = let less : missing (bit_or p (2 ^ r)) n < missing p n = ih k in omega (arith, or-digit p (2 ^ r) n)
    go (no k) ih = last (omega arith)
