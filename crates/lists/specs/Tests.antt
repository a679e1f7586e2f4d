-- Tests on numbers and lists that the rules of a record and of a file are made of.
use Rattle.std.specs.Prelude.{Bool, true, false, ◌&&◌, List, [], ◌∷◌, ℕ, eqb, leb, take, drop}

-- Whether n is at least low and at most high
abbrev pub between : ℕ → ℕ → ℕ → Bool
between low high n = leb low n && leb n high

-- Whether each element of a list passes a test
unfoldable pub every : {A : Type 0} → (A → Bool) → List A → Bool
every test [] = true
every test (x ∷ xs) = test x && every test xs

-- Whether the first n elements of an array are good and those after them, which are not in use, are blank
abbrev pub in_use : {A : Type 0} → ℕ → (A → Bool) → (A → Bool) → List A → Bool
in_use n good blank xs = every good (take n xs) && every blank (drop n xs)

-- A number that is not in use is 0
abbrev pub is_zero : ℕ → Bool
is_zero n = eqb n 0

-- Whether two lists are the same position by position, where `same` tells whether two elements are
unfoldable pub same_lists : {A : Type 0} → (A → A → Bool) → List A → List A → Bool
same_lists same [] [] = true
same_lists same [] (y ∷ ys) = false
same_lists same (x ∷ xs) [] = false
same_lists same (x ∷ xs) (y ∷ ys) = same x y && same_lists same xs ys
