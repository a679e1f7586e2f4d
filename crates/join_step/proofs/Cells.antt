-- Lists that a loop goes through, element by element. Assumes nothing.
use mathlib.Core.Path.{◌≡◌, sym, ◌∙◌}
use mathlib.Core.List.{List, map}
use Prim.Native.Nat.{ℕ, ◌-◌, ◌<◌}
use native.Mathlib.Omega.{arith}
use lib.ListN.{length, get_or, length-map, get_or-map}
use lib.Seq.{ext_get_or}
use Rattle.lists.proofs.Loops.{get_or_any}

-- What stands at a position of the images of some elements
pub mapped_at : {A B : Type 0} (f : A → B) (xs : List A) (i : ℕ) (d : A) (z : B) → i < length xs → f (get_or xs i d) ≡ get_or (map f xs) i z
mapped_at f xs i d z h =
    sym (get_or-map f xs i d) ∙ get_or_any (map f xs) i (f d) z (omega (arith, length-map xs f))

-- A list whose elements are what a function makes of another's
pub mapped : {A B : Type 0} (f : A → B) (xs : List A) (ys : List B) (d : A) (e : B) → length ys ≡ length xs
    → ((k : ℕ) → k < length xs → get_or ys k e ≡ f (get_or xs k d)) → ys ≡ map f xs
mapped f xs ys d e long each =
    ext_get_or e ys (map f xs) (long ∙ sym (length-map xs f))
    (λ k h. let inside : k < length xs = omega (arith, long) in each k inside ∙ mapped_at f xs k d e inside)
