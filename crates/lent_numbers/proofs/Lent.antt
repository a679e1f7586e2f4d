-- What a result leaves in what a call is lent. Assumes nothing.
use mathlib.Core.Path.{◌≡◌, refl, sym, ap, subst}
use mathlib.Core.List.{List}
use Prim.Native.Nat.{ℕ}
use Rattle.std.specs.Prelude.{Result, Err}
use Rattle.refusals.specs.declared.Refusal.{Refusal}
use Rattle.refusals.specs.Refusal.{number_of, reply_of}
use Rattle.refusals.specs.Refusals.{◌>>=◌, gives, refused, Reply}
use Rattle.lent_numbers.specs.Lent.{returned, leaves, Wrote}

-- What an accepted result returns and leaves
module _ {A : Type 0} {x : Reply A} {a : A} (p : x ≡ gives a) where
  pub done-number : 0 ≡ returned x
  done-number = ap returned (sym p)

  pub done-leaves : {B : Type 0} (value : A → B) (before : B) → value a ≡ leaves x value before
  done-leaves value before = ap (λ (y : Reply A). leaves y value before) (sym p)

-- What a refused one does
module _ {A : Type 0} {x : Reply A} {n : ℕ} (p : x ≡ refused n) where
  pub refused-number : n ≡ returned x
  refused-number = ap returned (sym p)

  pub refused-leaves : {B : Type 0} (value : A → B) (before : B) → before ≡ leaves x value before
  refused-leaves value before = ap (λ (y : Reply A). leaves y value before) (sym p)

  pub still-refused : {B : Type 0} (next : A → Reply B) → (x >>= next) ≡ refused n
  unfolding ◌>>=◌
  still-refused next = rw p

pub goes_on : {A B : Type 0} {x : Reply A} {a : A} → x ≡ gives a → (next : A → Reply B) → (x >>= next) ≡ next a
unfolding ◌>>=◌
goes_on p next = rw p

-- An equal result returns and leaves the same
pub leaves-same : {A B : Type 0} {x y : Reply A} → x ≡ y → (value : A → B) (before : B) → leaves x value before ≡ leaves y value before
leaves-same {A = A} p value before = ap (λ (z : Reply A). leaves z value before) p

pub wrote-same : {x y : Reply (List ℕ)} → x ≡ y → (out : List ℕ) (n number : ℕ) (after : List ℕ) (m : ℕ) → Wrote y out n number after m
    → Wrote x out n number after m
wrote-same p out n number after m w = subst (λ (z : Reply (List ℕ)). Wrote z out n number after m) (sym p) w

pub wrote_none : {x : Reply (List ℕ)} {number : ℕ} → x ≡ refused number → (out : List ℕ) (n : ℕ) → Wrote x out n number out n
wrote_none {number = number} p out n = wrote-same p out n number out n (refl, refl, refl)

-- A refusal that is handed on, and everything as it was
pub wrote_err : {x : Reply (List ℕ)} (said : Result (Unit {0}) Refusal) (why : Refusal) → (e : Refusal) × (said ≡ Err e) × (e ≡ why)
    → x ≡ refused (number_of why) → (out : List ℕ) (n : ℕ) → Wrote x out n (returned (reply_of said)) out n
wrote_err said why left p out n = rw (left.1, left.2) (wrote_none p out n)

-- and the number of a call that is refused so
pub err-number : {A : Type 0} {x : Reply A} (said : Result (Unit {0}) Refusal) (why : Refusal) → (e : Refusal) × (said ≡ Err e) × (e ≡ why)
    → x ≡ refused (number_of why) → returned (reply_of said) ≡ returned x
err-number said why left p = rw (left.1, left.2) (refused-number p)
