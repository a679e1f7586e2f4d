-- The search for a choice of rows: the sets are gone through in order, and the columns of those that have a row are known.
use Rattle.std.specs.Prelude.{◌≡◌, List, [], ◌∷◌, ℕ, ◌+◌, length, drop, get_or, Option as Maybe, None, Some}
use Rattle.std.proofs.Math.Option.{Option, none, some}
use Rattle.theory.specs.Query.{Row, FitsSchema, ◌∈◌}
use Rattle.theory.specs.Database.{Agree}
use Rattle.query.specs.View.{columns_of, join_of}
use Rattle.query.specs.declared.JoinDependency.{JoinDependency}
use Rattle.words.specs.Words.{database_read}
use Rattle.join_testing.specs.Meaning.{GoWith, Earlier}
use Rattle.join_lookup.specs.declared.Index.{Index}
use Rattle.join_lookup.specs.internal.Starts.{start_of, row_with}
use Rattle.theory.specs.Codes.{CodePair}
use Rattle.join_tables.specs.internal.Indexed.{filled_to}

-- The sets from k on
abbrev pub sets_from : JoinDependency → ℕ → List (List ℕ)
sets_from j k = drop k (join_of j).sets

-- The rows at some positions, one for each of the sets from k on, go with a row that has the known values and is not there
pub record BreaksFrom (codes : List CodePair) (schema words : List ℕ) (j : JoinDependency) (x : Index) (k : ℕ) (values : List ℕ) (ps : List ℕ) : Type 0 where
  pub row : Row ℕ
  pub fits : FitsSchema schema row
  pub relation : row.relation ≡ x.relation
  pub kept : Agree 0 (columns_of (filled_to j.sets k)) (row_with x values) row
  pub chosen : GoWith (sets_from j k) (database_read codes schema words) row ps
  pub absent : row ∈ database_read codes schema words → ⊥

-- The first such positions; those of set i begin at word `at i`
pub record FirstFrom (codes : List CodePair) (schema words : List ℕ) (j : JoinDependency) (x : Index) (k : ℕ) (values at : List ℕ) : Type 0 where
  pub positions : List ℕ
  pub breaks : BreaksFrom codes schema words j x k values positions
  pub before : (qs : List ℕ) → Earlier qs positions → BreaksFrom codes schema words j x k values qs → ⊥
  pub places : (i : ℕ) → get_or at (k + i) 0 ≡ start_of schema words (get_or positions i 0)

-- What a search from set k on finds: the words at which the rows of the first choice begin, or that there is none
abbrev pub Searched : List CodePair → List ℕ → List ℕ → JoinDependency → Index → ℕ → List ℕ → Maybe (List ℕ) → Type 0
Searched codes schema words j x k values None = (ps : List ℕ) → BreaksFrom codes schema words j x k values ps → ⊥
Searched codes schema words j x k values (Some at) = (length at ≡ 4) × FirstFrom codes schema words j x k values at

-- The relation that is tested, without tables
abbrev pub plainly : List ℕ → JoinDependency → Index
plainly schema j = record { relation = j.relation; width = get_or schema j.relation 0; buckets = 0 }

-- The positions of the rows of a choice that is found, 0 where there is no set
abbrev pub rows_chosen : Option (List ℕ) → Maybe (List ℕ)
rows_chosen none = None
rows_chosen (some ps) = Some (get_or ps 0 0 ∷ get_or ps 1 0 ∷ get_or ps 2 0 ∷ get_or ps 3 0 ∷ [])
