-- Mappings from a stored query (SPECIFICATION, Answers and mappings): what finding one to a tableau and checking one to a stored query promise.
use Rattle.std.specs.Prelude.{◌≡◌, Bool, true, List, Option, None, Some, ℕ, ◌≤◌, get_or}
use Rattle.theory.specs.Query as theory
use Rattle.theory.specs.Answer.{IsMapping, Mapping}
use Rattle.minimization.specs.Checking.{maps_to}
use Rattle.query.specs.declared.Cell.{Cell}
use Rattle.query.specs.Types.{Query}
use Rattle.query.specs.Types.{Tableau}
use Rattle.query.specs.View.{entries_of, query_of, as_query, images_of}
use Rattle.query.specs.Rule.{good_query, good_tableau}

-- A query that some schema makes good
abbrev pub Storable : Query → Type 0
Storable q = (schema : List ℕ) × (good_query schema q ≡ true)

-- A tableau that some schema makes good
abbrev pub StorableTableau : Tableau → Type 0
StorableTableau t = (schema : List ℕ) × (good_tableau schema t ≡ true)

-- A schema in which no relation has more than 8 columns, as a record's
abbrev pub Narrow : List ℕ → Type 0
Narrow schema = (i : ℕ) → get_or schema i 0 ≤ 8

-- What is found: images that are a mapping, or none where there is no mapping
abbrev pub IsMapped : theory.Query → theory.Query → Option (List Cell) → Type 0
IsMapped source target (Some images) = IsMapping source target (images_of images)
IsMapped source target None = Mapping source target → ⊥

-- The same of the queries that a stored query and a tableau are under every schema that makes both good, where their arities are equal
abbrev pub Finds : Query → Tableau → Option (List Cell) → Type 0
Finds source target r =
    (schema : List ℕ) → Narrow schema → good_query schema source ≡ true → good_tableau schema target ≡ true → source.arity ≡ target.arity
    → IsMapped (query_of schema source) (query_of schema (as_query target)) r

-- What checking promises: the theory's test of the images, on the queries that the stored ones are under every schema that makes both good
abbrev pub Checks : Query → Query → List Cell → Bool → Type 0
Checks source target images r =
    (schema : List ℕ) → Narrow schema → good_query schema source ≡ true → good_query schema target ≡ true
    → r ≡ maps_to (query_of schema source) (query_of schema target) (entries_of images)
