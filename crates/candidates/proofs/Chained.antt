-- What `all` over a chain tells, where the closure's result tells of each element. For any elements.
-- Assumes nothing.
use mathlib.Core.Path.{◌≡◌, sym, ◌∙◌, ap, ap₂, subst}
use mathlib.Core.Bool.{Bool, true, false}
use mathlib.Core.Logic.{◌↔◌}
use mathlib.Core.List.{List}
use lib.Seq.{ext_get_or}
use Prim.Native.Nat.{ℕ, ◌+◌, ◌-◌, ◌≤◌, ◌<◌}
use native.Mathlib.Omega.{arith}
use lib.ListN.{length, take, drop, get_or, length-take, length-drop}
use Rattle.std.proofs.lemmas.List.{get_or-take, get_or-drop}
use Rattle.std.specs.Bool.{MatchBool}
use Rattle.std.specs.List.{AllWithin, HoldsAt, zip}
use Rattle.std.proofs.lemmas.Slice.Zip.{length-zip, get_or-zip}
use Rattle.lists.specs.internal.Tells.{Tells}
use Rattle.lists.proofs.Positions.{tells-true, tells-false}

-- `all` over elements of which each call tells P
pub all-tells : {A : Type 0} (P : A → Type 0) (xs : List A) (d : A) (r : Bool)
    → MatchBool r (AllWithin P xs 0 (length xs)) ((k : ℕ) × (k < length xs) × HoldsAt (λ x. P x → ⊥) xs k)
    → Tells r ((i : ℕ) → i < length xs → P (get_or xs i d))
all-tells P xs d true h = tells-true (λ i l. h i d (omega arith) l)
all-tells P xs d false h = tells-false (λ all. h.2 d (all h.0 h.1))

-- The n elements from a on, as the code names them
abbrev pub part : {A : Type 0} → ℕ → ℕ → List A → List A
part a n xs = take (a + n - a) (drop a xs)

pub part-length : {A : Type 0} (a n : ℕ) (xs : List A) → a + n ≤ length xs → length (part a n xs) ≡ n
part-length a n xs h = rw length-take (omega (arith, length-drop a xs))

pub part-at : {A : Type 0} (a n : ℕ) (xs : List A) (d : A) (i : ℕ) → i < n → get_or (part a n xs) i d ≡ get_or xs (a + i) d
part-at a n xs d i h = get_or-take (a + n - a) (drop a xs) i d (omega arith) ∙ get_or-drop a xs i d

-- `all` over two parts of the same length at once
pub all-parts : {A B : Type 0} (P : A × B → Type 0) (a b n : ℕ) (xs : List A) (ys : List B) (d : A) (e : B) (r : Bool) → a + n ≤ length xs → b + n ≤ length ys
    → (let zs = zip (part a n xs) (part b n ys) in
    MatchBool r (AllWithin P zs 0 (length zs)) ((k : ℕ) × (k < length zs) × HoldsAt (λ x. P x → ⊥) zs k))
    → Tells r ((i : ℕ) → i < n → P (get_or xs (a + i) d, get_or ys (b + i) e))
all-parts {A} {B} P a b n xs ys d e r h k found = ((λ t i l. pair i l ((tells.0 t) i (rw long l))), (λ all. tells.1 (λ i l. back i (rw long at l) (all i (rw long at l)))))
  where
    zs : List (A × B)
    zs = zip (part a n xs) (part b n ys)

    tells : Tells r ((i : ℕ) → i < length zs → P (get_or zs i (d, e)))
    tells = all-tells P zs (d, e) r found

    long : length zs ≡ n
    long = rw length-zip (omega (arith, part-length a n xs h, part-length b n ys k))

    at : (i : ℕ) → i < n → get_or zs i (d, e) ≡ (get_or xs (a + i) d, get_or ys (b + i) e)
    at i l =
        get_or-zip (part a n xs) (part b n ys) i (d, e) (rw (part-length a n xs h) l) (rw (part-length b n ys k) l)
        ∙ ap₂ (λ x y. (x, y)) (part-at a n xs d i l) (part-at b n ys e i l)

    pair : (i : ℕ) → i < n → P (get_or zs i (d, e)) → P (get_or xs (a + i) d, get_or ys (b + i) e)
    pair i l p = subst P (at i l) p

    back : (i : ℕ) → i < n → P (get_or xs (a + i) d, get_or ys (b + i) e) → P (get_or zs i (d, e))
    back i l p = subst P (sym (at i l)) p

-- Two parts are the same where they are the same at each place
pub same-parts : {A : Type 0} (a b n : ℕ) (xs ys : List A) (d : A) → a + n ≤ length xs → b + n ≤ length ys
    → ((part a n xs ≡ part b n ys) ↔ ((i : ℕ) → i < n → get_or xs (a + i) d ≡ get_or ys (b + i) d))
same-parts a b n xs ys d h k = (
  (λ e i l. sym (part-at a n xs d i l) ∙ ap (λ zs. get_or zs i d) e ∙ part-at b n ys d i l),
  (λ same.
      ext_get_or d (part a n xs) (part b n ys) (part-length a n xs h ∙ sym (part-length b n ys k))
      (λ i l. let m : i < n = rw (← part-length a n xs h) l in part-at a n xs d i m ∙ same i m ∙ sym (part-at b n ys d i m))),
)
