-- Testing a database against functional dependencies: the first in held order that it breaks, with its first pair of rows. The search is the chase's own,
-- over dependencies and rows that carry their positions. Join dependencies come after them, in `join_testing/specs/Unmet`.
use Rattle.std.specs.Prelude.{Bool, List, [], ◌∷◌, ℕ, suc}
use Rattle.std.proofs.Math.Option.{Option}
use Rattle.theory.specs.Query.{Row, constant, map_row}
use Rattle.theory.specs.Database.{Database, Dependency}
use Rattle.theory.specs.Chase.{first_pair, first_found, breaks}

-- The elements of a list with their positions, the first at position n
unfoldable pub numbered_from : {A : Type 0} → ℕ → List A → List (ℕ × A)
numbered_from n [] = []
numbered_from n (x ∷ xs) = (n, x) ∷ numbered_from (suc n) xs

-- Whether two rows of numbers break a dependency: as rows of constants they do
abbrev pub breaks_rows : Dependency → Row ℕ → Row ℕ → Bool
breaks_rows d r s = breaks d (map_row constant r) (map_row constant s)

-- Whether a row, given with its position, breaks a dependency with the row r
abbrev pub breaks_with : Dependency → Row ℕ → (ℕ × Row ℕ) → Bool
breaks_with d r b = breaks_rows d r b.1

-- The first pair of rows that break a dependency, with their positions, the first row at position n
abbrev pub first_pair_from : Dependency → ℕ → Database → Option ((ℕ × Row ℕ) × (ℕ × Row ℕ))
first_pair_from d n rows = first_pair (λ a. breaks_with d a.1) (numbered_from n rows)

-- The first broken dependency in held order with its first pair of rows, all with their positions; the first dependency is at position k
unfoldable pub first_broken_from : ℕ → List Dependency → Database → Option ((ℕ × Dependency) × ((ℕ × Row ℕ) × (ℕ × Row ℕ)))
first_broken_from k ds rows = first_found (λ d. first_pair_from d.1 0 rows) (numbered_from k ds)
