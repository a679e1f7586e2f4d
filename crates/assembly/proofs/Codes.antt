-- The bytes of pairs of codes: none, or some, and how many.
use mathlib.Core.Path.{◌≡◌, refl}
use mathlib.Core.List.{List, [], ◌∷◌, flat_map}
use Prim.Native.Nat.{ℕ, ◌+◌, ◌*◌, ◌≤◌}
use native.Mathlib.Omega.{arith}
use lib.Dec.{eqb}
use mathlib.Core.Bool.{Bool, true, false, cond}
use lib.ListN.{length, take, length-append}
use lib.Seq.{length-take-le}
use borrow.Author.Tests.{eq-eqb, ne_eqb}
use Rattle.query.specs.declared.CodePair.{CodePair}
use Rattle.format.proofs.Numbers.{length-bytes}
use Rattle.format.proofs.Lengths.{length-flat_map}
use Rattle.format.specs.Bytes.{bytes_of}
use Rattle.assembly.specs.internal.Pieces.{put_pair, codes_bytes, codes_long}

pub length-pair : (p : CodePair) → length (put_pair p) ≡ 8
length-pair p = omega (arith, length-append (bytes_of 4 p.old) (bytes_of 4 p.current), length-bytes 4 p.old, length-bytes 4 p.current)

module _ (coded : ℕ) where
  -- None is held
  pub codes-none : (list : List CodePair) → coded ≡ 0 → codes_bytes coded list ≡ []
  codes-none list e = rw (eq-eqb coded 0 e)

  pub none-long : coded ≡ 0 → codes_long coded ≡ 0
  none-long e = rw (eq-eqb coded 0 e)

  -- Some are held
  pub codes-some : (list : List CodePair) → (coded ≡ 0 → ⊥) → codes_bytes coded list ≡ coded ∷ flat_map put_pair (take coded list)
  codes-some list e = rw (ne_eqb coded 0 e)

  pub some-long : (coded ≡ 0 → ⊥) → codes_long coded ≡ 1 + 8 * coded
  some-long e = rw (ne_eqb coded 0 e)

-- so many bytes
pub pairs-long : (coded : ℕ) (list : List CodePair) → coded ≤ length list → length (flat_map put_pair (take coded list)) ≡ 8 * coded
pairs-long coded list h =
    let e = length-flat_map put_pair 8 length-pair (take coded list) in
    let k : length (take coded list) ≡ coded = length-take-le coded list h in
    omega arith

pub codes-length : (coded : ℕ) (list : List CodePair) → coded ≤ length list → length (codes_bytes coded list) ≡ codes_long coded
codes-length coded list h = go (eqb coded 0)
  where
    go : (t : Bool) → length (cond t [] (coded ∷ flat_map put_pair (take coded list))) ≡ cond t 0 (1 + 8 * coded)
    go true = refl
    go false = omega (arith, pairs-long coded list h)
