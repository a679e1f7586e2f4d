-- Inclusion of lists by membership, and lists that have an element. Other laws of membership are in `Lists` and `Entries`.
-- Assumes nothing.
use mathlib.Core.Path.{refl, sym, subst}
use mathlib.Core.Logic.{◌≢◌, ◌⊎◌, inl, inr}
use mathlib.Core.List.Memᴰ
use mathlib.Core.List.{List, [], ◌∷◌, ◌++◌, map}
use Rattle.theory.specs.Query.{Entry, Row, row_entries, ◌∈◌}
use Rattle.theory.proofs.Entries.{row-row_entries}

infix 25 ◌⊆◌
-- Each element of one list stands in another
abbrev pub ◌⊆◌ : {A : Type 0} → List A → List A → Type 0
◌⊆◌ {A} xs ys = (x : A) → x ∈ xs → x ∈ ys

pub cons-part : {A : Type 0} (w : A) {xs ys : List A} → xs ⊆ ys → w ∷ xs ⊆ w ∷ ys
cons-part w part x (Memᴰ.head same) = Memᴰ.head same
cons-part w part x (Memᴰ.tail there) = Memᴰ.tail (part x there)

pub append-part : {A : Type 0} (ws : List A) {xs ys : List A} → xs ⊆ ys → ws ++ xs ⊆ ws ++ ys
append-part [] part = part
append-part (w ∷ ws) part = cons-part w (append-part ws part)

pub insert-part : {A : Type 0} (ws : List A) (x : A) (xs : List A) → ws ++ xs ⊆ ws ++ x ∷ xs
insert-part ws x xs = append-part ws (λ y at. Memᴰ.tail at)

pub map-part : {A B : Type 0} (f : A → B) {xs ys : List A} → xs ⊆ ys → map f xs ⊆ map f ys
map-part f {xs} part y at = let found = Memᴰ.of_map f xs at in Memᴰ.cast (sym found.2) (Memᴰ.map f (part found.0 found.1))

-- A list that is not empty has an element
pub member-of-some : {A : Type 0} (xs : List A) → xs ≢ [] → (x : A) × x ∈ xs
member-of-some [] some = absurd (some refl)
member-of-some (x ∷ xs) some = (x, Memᴰ.head refl)

-- A list with an element is not empty
pub some-of-member : {A : Type 0} {x : A} (xs : List A) → x ∈ xs → xs ≢ []
some-of-member {x = x} xs at none = Memᴰ.not-nil (subst (λ ys. x ∈ ys) none at)

-- Each entry of the rows is an entry of one
pub row-of-entry : {e : Entry} (rows : List (Row Entry)) → e ∈ row_entries rows → (r : Row Entry) × r ∈ rows × e ∈ r.values
unfolding row_entries
row-of-entry [] at = elim at [ ]
row-of-entry {e} (s ∷ rows) at = go (row-of-entry rows) (Memᴰ.append_cases s.values at)
  where
    go : (e ∈ row_entries rows → (r : Row Entry) × r ∈ rows × e ∈ r.values) → (e ∈ s.values) ⊎ (e ∈ row_entries rows)
        → (r : Row Entry) × r ∈ s ∷ rows × e ∈ r.values
    go later (inl here) = (s, Memᴰ.head refl, here)
    go later (inr there) = let found = later there in (found.0, Memᴰ.tail found.1, found.2)

-- Fewer rows have no new entries
pub row_entries-part : {rows' rows : List (Row Entry)} → rows' ⊆ rows → row_entries rows' ⊆ row_entries rows
row_entries-part {rows'} {rows} part e at =
    let found = row-of-entry rows' at in
    row-row_entries rows found.0 e (part found.0 found.1) found.2
