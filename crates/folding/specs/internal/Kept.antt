-- The rows of a stored query that are kept, as a mask: bit d for row d.
use Rattle.std.specs.Prelude.{◌≡◌, true, cond, List, [], ◌∷◌, ℕ, ◌/◌, ◌%◌, ◌==◌}
use Rattle.query.specs.Types.{Query}
use Rattle.query.specs.View.{query_of}
use Rattle.query.specs.Rule.{good_query}
use Rattle.mapping.specs.internal.Mapped.{Narrow}
use Rattle.minimization.specs.Kept.{kept}

-- A query that some schema makes good, no relation having more than 8 columns
abbrev pub Readable : Query → Type 0
Readable q = (schema : List ℕ) × Narrow schema × (good_query schema q ≡ true)

-- The elements at the positions of a mask
unfoldable pub marked : {A : Type 0} → ℕ → List A → List A
marked mask [] = []
marked mask (x ∷ xs) = cond (mask % 2 == 1) (x ∷ marked (mask / 2) xs) (marked (mask / 2) xs)

-- The mask has the rows that are kept
abbrev pub IsKept : List ℕ → Query → ℕ → Type 0
IsKept schema q left = marked left (query_of schema q).rows ≡ kept (query_of schema q)
