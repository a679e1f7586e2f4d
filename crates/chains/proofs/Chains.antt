-- The library says of a chain's `all` that it is `list_all`, which is `every`. Assumes nothing.
use Rattle.std.proofs.Common.{◌≡◌, Bool, ◌&&◌, List, [], ◌∷◌, refl, ap}
use Rattle.std.specs.List.{list_all}
use Rattle.lists.specs.Tests.{every}

-- Whether all elements pass a test
pub all_every : {A : Type 0} (test : A → Bool) (xs : List A) → list_all test xs ≡ every test xs
unfolding every
all_every test [] = refl
all_every test (x ∷ xs) = ap (λ t. test x && t) (all_every test xs)
