-- Lists without the element at one position, and lists without repeats: membership, lengths, and the pigeonhole principle by removal.
-- Assumes nothing.
use mathlib.Core.Path.{◌≡◌, refl, sym, ◌∙◌, ap}
use mathlib.Core.Logic.{◌⊎◌, inl, inr}
use mathlib.Core.List.Memᴰ
use mathlib.Core.List.{List, [], ◌∷◌, ◌++◌}
use Prim.Native.Nat.{◌≤◌, ◌<◌}
use native.Mathlib.Omega.{arith}
use lib.ListN.{length}
use Rattle.theory.specs.Query.{◌∈◌, without}
use Rattle.theory.proofs.Lists.{Nodup, without-length, without-keeps}
use Rattle.theory.proofs.Members.{◌⊆◌, cons-part}

-- ---- one element less

-- What is left stood there before
pub without-part : {A : Type 0} {x : A} (xs : List A) (at : x ∈ xs) → without xs at ⊆ xs
unfolding without
without-part {A = A} [] at = elim at [ ]
without-part (y ∷ xs) (Memᴰ.head e) = λ z there. Memᴰ.tail there
without-part (y ∷ xs) (Memᴰ.tail at) = cons-part y (without-part xs at)

-- What stood there is the element taken out, or is left
pub without-cases : {A : Type 0} {x z : A} (xs : List A) (at : x ∈ xs) → z ∈ xs → (z ≡ x) ⊎ (z ∈ without xs at)
unfolding without
without-cases {A = A} {x = x} {z = z} [] at _ = elim at [ ]
without-cases (y ∷ xs) (Memᴰ.head e) (Memᴰ.head same) = inl (same ∙ sym e)
without-cases (y ∷ xs) (Memᴰ.head e) (Memᴰ.tail there) = inr there
without-cases (y ∷ xs) (Memᴰ.tail at) (Memᴰ.head same) = inr (Memᴰ.head same)
without-cases {A} {x} {z} (y ∷ xs) (Memᴰ.tail at) (Memᴰ.tail there) = go (without-cases xs at there)
  where
    go : (z ≡ x) ⊎ (z ∈ without xs at) → (z ≡ x) ⊎ (z ∈ y ∷ without xs at)
    go (inl same) = inl same
    go (inr left) = inr (Memᴰ.tail left)

-- Of two positions either may be taken out first: a position of x after y went is a position of x from the start, y is left without it, and so is all
-- that is left without both
pub without-swap : {A : Type 0} {x y : A} (xs : List A) (here : y ∈ xs) (at : x ∈ without xs here)
    → (at' : x ∈ xs) × y ∈ without xs at' × without (without xs here) at ⊆ without xs at'
unfolding without
without-swap {A = A} {y = y} [] here at = elim here [ ]
without-swap (w ∷ ws) (Memᴰ.head e) at = (Memᴰ.tail at, Memᴰ.head e, λ z there. Memᴰ.tail there)
without-swap (w ∷ ws) (Memᴰ.tail here) (Memᴰ.head e) = (Memᴰ.head e, here, without-part ws here)
without-swap {A} (w ∷ ws) (Memᴰ.tail here) (Memᴰ.tail at) =
    let found = without-swap ws here at in
    (Memᴰ.tail found.0, Memᴰ.tail found.1, cons-part w found.2)

-- A position of two lists in a row is one of the first or one of the second
pub without-append : {A : Type 0} {x : A} (xs ys : List A) (at : x ∈ xs ++ ys)
    → ((here : x ∈ xs) × (without (xs ++ ys) at ≡ without xs here ++ ys)) ⊎ ((there : x ∈ ys) × (without (xs ++ ys) at ≡ xs ++ without ys there))
unfolding without
without-append [] ys at = inr (at, refl)
without-append (z ∷ xs) ys (Memᴰ.head same) = inl (Memᴰ.head same, refl)
without-append {A} {x} (z ∷ xs) ys (Memᴰ.tail at) = go (without-append xs ys at)
  where
    go : ((here : x ∈ xs) × (without (xs ++ ys) at ≡ without xs here ++ ys)) ⊎ ((there : x ∈ ys) × (without (xs ++ ys) at ≡ xs ++ without ys there))
        → ((here : x ∈ z ∷ xs) × (z ∷ without (xs ++ ys) at ≡ without (z ∷ xs) here ++ ys))
        ⊎ ((there : x ∈ ys) × (z ∷ without (xs ++ ys) at ≡ z ∷ xs ++ without ys there))
    go (inl found) = inl (Memᴰ.tail found.0, ap (λ l. z ∷ l) found.1)
    go (inr found) = inr (found.0, ap (λ l. z ∷ l) found.1)

pub without-singleton : {A : Type 0} {x y : A} (at : x ∈ y ∷ []) → without (y ∷ []) at ≡ []
unfolding without
without-singleton (Memᴰ.head same) = refl
without-singleton (Memᴰ.tail at) = absurd (Memᴰ.not-nil at)

-- ---- pigeonholes

-- A choice between two lists for a first element and for all later ones
on_cons : {A : Type 0} {y : A} {ys zs ws : List A} → (y ∈ zs) ⊎ (y ∈ ws) → ((z : A) → z ∈ ys → (z ∈ zs) ⊎ (z ∈ ws))
    → (z : A) → z ∈ y ∷ ys → (z ∈ zs) ⊎ (z ∈ ws)
on_cons (inl at) later z (Memᴰ.head same) = inl (Memᴰ.cast same at)
on_cons (inr at) later z (Memᴰ.head same) = inr (Memᴰ.cast same at)
on_cons (inl at) later z (Memᴰ.tail there) = later z there
on_cons (inr at) later z (Memᴰ.tail there) = later z there

-- Each element of ys stands in zs or in xs
abbrev Inside : {A : Type 0} → List A → List A → List A → Type 0
Inside {A} zs ys xs = (y : A) → y ∈ ys → (y ∈ zs) ⊎ (y ∈ xs)

-- xs has a position without which this still holds
abbrev Room : {A : Type 0} → List A → List A → List A → Type 0
Room {A} zs ys xs = (x : A) × (at : x ∈ xs) × Inside zs ys (without xs at)

-- One element of ys more, that stands in xs at a position of its own
room_cons : {A : Type 0} {y : A} (zs ys xs : List A) (here : y ∈ xs) → Room (y ∷ zs) ys (without xs here) → Room zs (y ∷ ys) xs
room_cons {A} {y} zs ys xs here found = (found.0, swap.0, on_cons (inr swap.1) (λ z there. back z (found.2 z there)))
  where
    swap : (at' : found.0 ∈ xs) × y ∈ without xs at' × without (without xs here) found.1 ⊆ without xs at'
    swap = without-swap xs here found.1

    back : (z : A) → (z ∈ y ∷ zs) ⊎ (z ∈ without (without xs here) found.1) → (z ∈ zs) ⊎ (z ∈ without xs swap.0)
    back z (inl (Memᴰ.head same)) = inr (Memᴰ.cast same swap.1)
    back z (inl (Memᴰ.tail there)) = inl there
    back z (inr there) = inr (swap.2 z there)

-- Where y is known to stand at a position of xs, the others stand in zs, are y, or stand at another position
inside-without : {A : Type 0} {y : A} (zs ys xs : List A) (here : y ∈ xs) → Inside zs ys xs → Inside (y ∷ zs) ys (without xs here)
inside-without {A} {y} zs ys xs here inside z there = go (inside z there)
  where
    further : (z ≡ y) ⊎ (z ∈ without xs here) → (z ∈ y ∷ zs) ⊎ (z ∈ without xs here)
    further (inl same) = inl (Memᴰ.head same)
    further (inr left) = inr left

    go : (z ∈ zs) ⊎ (z ∈ xs) → (z ∈ y ∷ zs) ⊎ (z ∈ without xs here)
    go (inl at) = inl (Memᴰ.tail at)
    go (inr at) = further (without-cases xs here at)

room : {A : Type 0} (zs ys xs : List A) → Inside zs ys xs → length ys < length xs → Room zs ys xs
room zs [] [] inside longer = absurd (omega arith)
room zs [] (x ∷ xs) inside longer = (x, Memᴰ.head refl, λ y there. absurd (Memᴰ.not-nil there))
room {A} zs (y ∷ ys) xs inside longer =
    go (inside y (Memᴰ.head refl)) (room zs ys xs (λ z there. inside z (Memᴰ.tail there)) (omega arith))
    (λ here. room (y ∷ zs) ys (without xs here) (inside-without zs ys xs here (λ z there. inside z (Memᴰ.tail there)))
    (omega (arith, without-length xs here)))
  where
    go : (y ∈ zs) ⊎ (y ∈ xs) → Room zs ys xs → ((here : y ∈ xs) → Room (y ∷ zs) ys (without xs here)) → Room zs (y ∷ ys) xs
    go (inl already) same less = (same.0, same.1, on_cons (inl already) same.2)
    go (inr here) same less = room_cons zs ys xs here (less here)

-- If the elements of ys stand in a longer list, that has a position without which they still do
pub pigeonhole : {A : Type 0} (ys xs : List A) → ys ⊆ xs → length ys < length xs → (x : A) × (at : x ∈ xs) × ys ⊆ without xs at
pigeonhole {A} ys xs part longer =
    let found = room [] ys xs (λ y there. inr (part y there)) longer in
    (found.0, found.1, λ y there. in_rest (found.2 y there))
  where
    in_rest : {y : A} {zs : List A} → (y ∈ []) ⊎ (y ∈ zs) → y ∈ zs
    in_rest (inl never) = absurd (Memᴰ.not-nil never)
    in_rest (inr there) = there

-- ---- lists without repeats

-- If no element stands in a list without one of its positions, the list has no repeats
pub nodup-of : {A : Type 0} (xs : List A) → ((x : A) (at : x ∈ xs) → x ∈ without xs at → ⊥) → Nodup xs
unfolding without
nodup-of [] once = tt
nodup-of (x ∷ xs) once = (once x (Memᴰ.head refl), nodup-of xs (λ z at again. once z (Memᴰ.tail at) (Memᴰ.tail again)))

-- A list without repeats that stands in one no longer than itself fills it
pub nodup-fills : {A : Type 0} (xs ys : List A) → Nodup xs → xs ⊆ ys → length ys ≤ length xs → ys ⊆ xs
nodup-fills [] [] once part short y there = there
nodup-fills [] (z ∷ ys) once part short y there = absurd (omega arith)
nodup-fills (x ∷ xs) ys once part short y there =
    go (nodup-fills xs (without ys here) once.1
    (λ z at. without-keeps ys here (part z (Memᴰ.tail at)) (λ same. once.0 (Memᴰ.cast (sym same) at))) (omega (arith, without-length ys here)))
    (without-cases ys here there)
  where
    here : x ∈ ys
    here = part x (Memᴰ.head refl)

    go : without ys here ⊆ xs → (y ≡ x) ⊎ (y ∈ without ys here) → y ∈ x ∷ xs
    go filled (inl same) = Memᴰ.head same
    go filled (inr rest) = Memᴰ.tail (filled y rest)
