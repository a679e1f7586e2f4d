-- Lists of bytes: parts of one, and a slice.
use mathlib.Core.Path.{refl, sym, ◌∙◌}
use mathlib.Core.List.{List, [], ◌∷◌, ◌++◌}
use Prim.Native.Nat.{ℕ, suc, ◌<◌}
use lib.Dec.{ltb}
use lib.ListN.{get_or}
use borrow.Author.Tests.{lt-ltb}
use Rattle.lists.specs.Tests.{every}
use Rattle.lists.proofs.Tests.{and_both, and-iff, every-append-is}
use Rattle.format.specs.Bytes.{Bytes}

pub bytes-append : (xs ys : List ℕ) → Bytes (xs ++ ys) → Bytes xs × Bytes ys
bytes-append xs ys h =
    (and-iff (every (λ n. ltb n 256) xs) (every (λ n. ltb n 256) ys)).0 (sym (every-append-is (λ n. ltb n 256) xs ys) ∙ h)

-- a slice of bytes is a list of bytes
pub bytes-known : (s : List ℕ) → ((i : ℕ) → get_or s i 0 < 256) → Bytes s
unfolding every
bytes-known [] h = refl
bytes-known (b ∷ s) h = and_both _ _ (lt-ltb b 256 (h 0)) (bytes-known s (λ i. h (suc i)))
