-- The first condition that holds: what a test that holds or fails makes of it, for any list of conditions. And what a reply tells.
use mathlib.Core.Path.{◌≡◌, refl, ap}
use mathlib.Core.Logic.{◌⊎◌, inl, inr}
use mathlib.Core.Bool.{Bool, true, false, cond}
use mathlib.Core.List.{List, [], ◌∷◌, ◌++◌}
use mathlib.Core.Option.{Option, none, some, or_else}
use Prim.Native.Nat.{ℕ}
use native.Mathlib.Omega.{arith}
use Rattle.refusals.specs.Refusals.{first_holding, refused, gives, reply, refusal_in}

module _ (b : Bool) (n : ℕ) (rest : List (Bool × ℕ)) where
  -- One that does not is passed over
  pub first_goes : b ≡ false → first_holding ((b, n) ∷ rest) ≡ first_holding rest
  unfolding first_holding
  first_goes e = ap (λ (t : Bool). cond t (some n) (first_holding rest)) e

  -- Where none holds, this one does not, and none of the rest
  pub none-holds : first_holding ((b, n) ∷ rest) ≡ none → (b ≡ false) × (first_holding rest ≡ none)
  unfolding first_holding
  none-holds e = go b refl e
    where
      go : (t : Bool) → b ≡ t → cond t (some n) (first_holding rest) ≡ none → (b ≡ false) × (first_holding rest ≡ none)
      go true p q = let z : ◌≡◌ {A = ℕ} 0 1 = cc in absurd (omega arith)
      go false p q = (p, q)

  -- Where one holds, it is this one, or this one is passed over
  pub some_holds : (m : ℕ) → first_holding ((b, n) ∷ rest) ≡ some m → ((b ≡ true) × (n ≡ m)) ⊎ ((b ≡ false) × (first_holding rest ≡ some m))
  unfolding first_holding
  some_holds m e = go b refl e
    where
      go : (t : Bool) → b ≡ t → cond t (some n) (first_holding rest) ≡ some m → ((b ≡ true) × (n ≡ m)) ⊎ ((b ≡ false) × (first_holding rest ≡ some m))
      go true p q = inl (p, cc)
      go false p q = inr (p, q)

-- Of no conditions none holds
pub nothing-holds : (m : ℕ) → first_holding [] ≡ some m → ⊥
unfolding first_holding
nothing-holds m e = let z : ◌≡◌ {A = ℕ} 0 1 = cc in omega arith

-- Of some conditions followed by others the first that holds is one of the first ones, or where none of these does one of the others
pub holds-append : (cs ds : List (Bool × ℕ)) → first_holding (cs ++ ds) ≡ or_else (first_holding cs) (first_holding ds)
unfolding first_holding or_else
holds-append [] ds = refl
holds-append (c ∷ cs) ds = go c.0 (holds-append cs ds)
  where
    go : (t : Bool) → first_holding (cs ++ ds) ≡ or_else (first_holding cs) (first_holding ds)
        → cond t (some c.1) (first_holding (cs ++ ds)) ≡ or_else (cond t (some c.1) (first_holding cs)) (first_holding ds)
    go true rest = refl
    go false rest = rest

-- ---- replies

-- A refusal gives no value
pub refused-gives : {A : Type 0} {n : ℕ} {a : A} → refused n ≡ gives a → ⊥
refused-gives e = let z : ◌≡◌ {A = ℕ} 0 1 = cc in omega arith

-- A reply that gives a value is not refused, and gives this one
pub reply-gives : {A : Type 0} (o : Option ℕ) (a b : A) → reply o a ≡ gives b → (o ≡ none) × (a ≡ b)
reply-gives none a b e = (refl, cc)
reply-gives (some n) a b e = absurd (refused-gives e)

-- One that is refused has this number
pub reply-refused : {A : Type 0} (o : Option ℕ) (a : A) (n : ℕ) → reply o a ≡ refused n → o ≡ some n
reply-refused none a n e = let z : ◌≡◌ {A = ℕ} 0 1 = cc in absurd (omega arith)
reply-refused (some m) a n e = cc

-- The refusal in a reply is the one that it was made with
pub refusal-reply : {A : Type 0} (o : Option ℕ) (a : A) → refusal_in (reply o a) ≡ o
refusal-reply none a = refl
refusal-reply (some n) a = refl
