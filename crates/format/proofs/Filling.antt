-- A loop that reads n values into an array, for any format: the whole reading is what is in the array so far with what the bytes left give.
use mathlib.Core.Path.{◌≡◌, refl, sym, ap, ◌∙◌}
use mathlib.Core.List.{List, ◌∷◌}
use Prim.Native.Nat.{ℕ, suc, ◌+◌, ◌-◌, ◌≤◌, ◌<◌}
use native.Mathlib.Nat.{sub-zero}
use native.Mathlib.Numerals.{add-one}
use native.Mathlib.Omega.{arith}
use lib.ListN.{length, set, replicate}
use Rattle.lists.specs.Over.{over, pad}
use Rattle.format.specs.Format.{Reading, none, got, then_read, map_reading, get_times}
use Rattle.lists.proofs.Over.{over-nil, over-set}
use Rattle.lists.proofs.Over.{pad-over}

-- The whole reading of n values, of which i are in the array and the others are read off the bytes
pub record Filling {A : Type 0} (get : List ℕ → Reading A) (all : Reading (List A)) (n : ℕ) (xs : List A) (i : ℕ) (bytes : List ℕ) : Type 0 where
  pub rest : all ≡ map_reading (over xs i) (get_times get (n - i) bytes)

map_same : {A B : Type 0} (f g : A → B) → ((a : A) → f a ≡ g a) → (o : Reading A) → map_reading f o ≡ map_reading g o
unfolding map_reading
map_same f g h none = refl
map_same {B = B} f g h (got a rest) = ap (λ (b : B). got b rest) (h a)

pub filling-starts : {A : Type 0} (get : List ℕ → Reading A) (total : ℕ) (blank : A) (n : ℕ) (bytes : List ℕ)
    → Filling get (map_reading (pad total blank) (get_times get n bytes)) n (replicate total blank) 0 bytes
filling-starts get total blank n bytes =
    record { rest = rw sub-zero (map_same (pad total blank) (over (replicate total blank) 0) (pad-over total blank) (get_times get n bytes)) }

-- one value more
turn : {A : Type 0} (get : List ℕ → Reading A) (m : ℕ) (bytes : List ℕ) (x : A) (rest : List ℕ) → get bytes ≡ got x rest
    → get_times get (suc m) bytes ≡ map_reading (λ ys. x ∷ ys) (get_times get m rest)
unfolding get_times then_read
turn get m bytes x rest e = rw e

stored : {A : Type 0} (xs : List A) (i : ℕ) (x : A) → i < length xs → (o : Reading (List A))
    → map_reading (over xs i) (map_reading (λ ys. x ∷ ys) o) ≡ map_reading (over (set xs i x) (i + 1)) o
unfolding map_reading
stored xs i x l none = refl
stored {A = A} xs i x l (got ys rest) = ap (λ (zs : List A). got zs rest) (rw add-one (sym (over-set xs i x ys l)))

module _ {A : Type 0} {get : List ℕ → Reading A} {all : Reading (List A)} {n : ℕ} {xs : List A} {i : ℕ} {bytes : List ℕ} (f : Filling get all n xs i bytes)
  where
    pub filling-turns : (x : A) (rest : List ℕ) → i < n → i < length xs → get bytes ≡ got x rest → Filling get all n (set xs i x) (i + 1) rest
    filling-turns x rest h l e =
        let m : n - i ≡ suc (n - (i + 1)) = omega arith in
        record {
          rest = f.rest ∙ ap (λ (k : ℕ). map_reading (over xs i) (get_times get k bytes)) m
              ∙ ap (map_reading (over xs i)) (turn get (n - (i + 1)) bytes x rest e) ∙ stored xs i x l (get_times get (n - (i + 1)) rest);
        }

    pub filling-fails : i < n → get bytes ≡ none → all ≡ none
    unfolding get_times then_read map_reading
    filling-fails h e =
        let m : n - i ≡ suc (n - (i + 1)) = omega arith in
        f.rest ∙ rw (m, e)

    pub filling-ends : n ≤ i → all ≡ got xs bytes
    unfolding get_times map_reading
    filling-ends h =
        let m : n - i ≡ 0 = omega arith in
        f.rest ∙ ap (λ (k : ℕ). map_reading (over xs i) (get_times get k bytes)) m ∙ ap (λ (ys : List A). got ys bytes) (over-nil xs i)
