-- Checking given images (SPECIFICATION, Checking a mapping): a test that computes, and the statement that it tells exactly the mappings.
use Rattle.std.specs.Prelude.{◌≡◌, Bool, true, false, cond, ◌&&◌, ◌↔◌, List, [], ◌∷◌, map, ℕ, suc, eqb, get_or}
use Rattle.lists.specs.Tests.{same_lists}
use Rattle.theory.specs.Query.{Entry, constant, Row, Query, same_entry, map_row, variables, member}
use Rattle.theory.specs.Answer.{value_of, IsMapping}

-- The image of variable v in a list of images: constant 0 past its end
abbrev pub image_at : List Entry → ℕ → Entry
image_at images v = get_or images v (constant 0)

-- Whether two rows have the same relation and entries
unfoldable pub same_row : Row Entry → Row Entry → Bool
same_row r s = eqb r.relation s.relation && same_lists same_entry r.values s.values

-- Whether a row stands among some rows
unfoldable pub stands_in : Row Entry → List (Row Entry) → Bool
stands_in r [] = false
stands_in r (s ∷ rows) = cond (same_row r s) true (stands_in r rows)

-- Whether f carries each of some rows to one of the others in the same relation
unfoldable pub rows_carried : (ℕ → Entry) → List (Row Entry) → List (Row Entry) → Bool
rows_carried f [] others = true
rows_carried f (r ∷ rows) others = stands_in (map_row (value_of constant f) r) others && rows_carried f rows others

-- Whether each image of a variable that is not among the given ones is constant 0, the first image being that of variable v
unfoldable pub rest_zero : List ℕ → ℕ → List Entry → Bool
rest_zero among v [] = true
rest_zero among v (e ∷ images) = cond (member v among) true (same_entry e (constant 0)) && rest_zero among (suc v) images

-- Whether a list has an element
unfoldable pub nonempty : {A : Type 0} → List A → Bool
nonempty [] = false
nonempty (x ∷ xs) = true

-- Whether the images are a mapping from S to T: S is not never, its head goes to T's head, each of its rows to a row of T, and what is not in S has constant 0
unfoldable pub maps_to : Query → Query → List Entry → Bool
maps_to S T images =
    nonempty S.rows && same_lists same_entry (map (value_of constant (image_at images)) S.head) T.head && rows_carried (image_at images) S.rows T.rows
    && rest_zero (variables S) 0 images

-- The test says yes exactly to the mappings
abbrev pub MapsToExact : Type 0
MapsToExact = (S T : Query) (images : List Entry) → (maps_to S T images ≡ true) ↔ IsMapping S T (image_at images)
