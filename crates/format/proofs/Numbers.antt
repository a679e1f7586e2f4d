-- Little-endian numbers: reading what was written, and writing what was read. One law for every number of bytes.
use mathlib.Core.Path.{◌≡◌, refl, ap}
use mathlib.Core.List.{List, [], ◌∷◌, ◌++◌}
use Prim.Native.Nat.{ℕ, zero, suc, ◌+◌, ◌*◌, ◌^◌, ◌/◌, ◌%◌, ◌≤◌, ◌<◌}
use native.Mathlib.Nat.{pow-succ', div-lt_iff_lt-mul, not-suc-le-zero, le_of_suc-le-suc, mul_comm}
use native.Mathlib.Omega.{arith}
use lib.Dec.{ltb, lit<}
use borrow.Author.Tests.{ltb-true}
use lib.ListN.{length, take}
use Rattle.lists.specs.Tests.{every}
use Rattle.format.specs.Bytes.{number, bytes_of, Bytes}
use Rattle.lists.proofs.Tests.{and_left, and_right}

pub length-bytes : (k n : ℕ) → length (bytes_of k n) ≡ k
unfolding bytes_of
length-bytes zero n = refl
length-bytes (suc k) n = ap suc (length-bytes k (n / 256))

-- the next bytes_of of a number that fits
div-fits : (k n : ℕ) → n < 256 ^ suc k → n / 256 < 256 ^ k
div-fits k n h = (div-lt_iff_lt-mul {k = 256} {x = n} {y = 256 ^ k} (lit< tt)).1 (rw (mul_comm (256 ^ k) 256) (rw pow-succ' at h))

pub number-bytes : (k n : ℕ) (rest : List ℕ) → n < 256 ^ k → number k (bytes_of k n ++ rest) ≡ n
unfolding number bytes_of
number-bytes zero n rest h = omega arith
number-bytes (suc k) n rest h =
    let ih : number k (bytes_of k (n / 256) ++ rest) ≡ n / 256 = number-bytes k (n / 256) rest (div-fits k n h) in
    omega arith

pub bytes-number : (k : ℕ) (bytes : List ℕ) → Bytes bytes → k ≤ length bytes → bytes_of k (number k bytes) ≡ take k bytes
unfolding number bytes_of every
bytes-number zero bytes b h = refl
bytes-number (suc k) [] b h = absurd (not-suc-le-zero h)
bytes-number (suc k) (x ∷ bytes) b h =
    let l : x < 256 = ltb-true x 256 (and_left (ltb x 256) (every (λ n. ltb n 256) bytes) b) in
    let ih : bytes_of k (number k bytes) ≡ take k bytes = bytes-number k bytes (and_right (ltb x 256) (every (λ n. ltb n 256) bytes) b) (le_of_suc-le-suc h) in
    let m : (x + 256 * number k bytes) % 256 ≡ x = omega arith in
    let d : (x + 256 * number k bytes) / 256 ≡ number k bytes = omega arith in
    rw (m, d, ih)

-- the number of k bytes is below that
pub number-below : (k : ℕ) (bytes : List ℕ) → Bytes bytes → number k bytes < 256 ^ k
unfolding number every
number-below zero bytes b = lit< tt
number-below (suc k) [] b =
    let ih : number k [] < 256 ^ k = number-below k [] refl in
    let p : 256 ^ suc k ≡ 256 * 256 ^ k = pow-succ' 256 k in
    omega arith
number-below (suc k) (x ∷ bytes) b =
    let l : x < 256 = ltb-true x 256 (and_left (ltb x 256) (every (λ n. ltb n 256) bytes) b) in
    let ih : number k bytes < 256 ^ k = number-below k bytes (and_right (ltb x 256) (every (λ n. ltb n 256) bytes) b) in
    let p : 256 ^ suc k ≡ 256 * 256 ^ k = pow-succ' 256 k in
    omega arith
