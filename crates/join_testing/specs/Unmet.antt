-- Testing a database against join dependencies: the first in held order that it does not obey, with its first choice of rows. The choices are the chase's
-- own, by the positions of the rows.
use Rattle.std.specs.Prelude.{Bool, true, List, [], ◌∷◌, map, ℕ, length, get_or}
use Rattle.std.specs.Prelude.{Option as Maybe, None, Some}
use Rattle.std.proofs.Math.Option.{Option, none, some}
use Rattle.lists.specs.Numbers.{numbers_where}
use Rattle.theory.specs.Query.{constant, map_row}
use Rattle.theory.specs.Database.{Database, Dependency, JoinDependency}
use Rattle.theory.specs.Chase.{first_passing, first_found}
use Rattle.joins.specs.JoinChase.{picks, Choice, missing}
use Rattle.words.specs.Testing.{numbered_from, first_broken_from}
use Rattle.words.specs.Broken.{nth_row, violation_of}
use Rattle.words.specs.declared.Violation.{Violation}
use Rattle.words.specs.declared.Violation.TheVariants.{Join}

-- The rows at some positions, one for each set of columns, as rows of constants
unfoldable pub chosen_at : List (List ℕ) → Database → List ℕ → Choice
chosen_at [] D ps = []
chosen_at (set ∷ sets) D [] = []
chosen_at (set ∷ sets) D (p ∷ ps) = (set, map_row constant (nth_row D p)) ∷ chosen_at sets D ps

-- Whether the rows at some positions go together and yield a row that is not there
unfoldable pub missing_at : List ℕ → JoinDependency → Database → List ℕ → Bool
missing_at schema j D ps = missing schema j (map (map_row constant) D) (chosen_at j.sets D ps)

-- For each set the positions of all rows
abbrev pub positions_for : List (List ℕ) → ℕ → List (List ℕ)
positions_for sets n = map (λ set. numbers_where (λ p. true) 0 n) sets

-- The positions of the first choice of rows for a join dependency that yields a row that is not there
unfoldable pub first_choice : List ℕ → JoinDependency → Database → Option (List ℕ)
first_choice schema j D = first_passing (missing_at schema j D) (picks (positions_for j.sets (length D)))

-- The first join dependency in held order with such a choice, with its position, and its first choice; the first dependency is at position k
unfoldable pub first_unmet_from : ℕ → List ℕ → List JoinDependency → Database → Option ((ℕ × JoinDependency) × List ℕ)
first_unmet_from k schema js D = first_found (λ j. first_choice schema j.1 D) (numbered_from k js)

-- Position k of a join dependency and the positions of the rows chosen for its sets, 0 where there is no set
abbrev pub joined_at : ℕ → List ℕ → Maybe Violation
joined_at k ps = Some (Join k (get_or ps 0 0 ∷ get_or ps 1 0 ∷ get_or ps 2 0 ∷ get_or ps 3 0 ∷ []))

-- The positions of a join dependency and of its choice of rows that are found
abbrev pub unmet_of : Option ((ℕ × JoinDependency) × List ℕ) → Maybe Violation
unmet_of none = None
unmet_of (some found) = joined_at found.0.0 found.1

-- What is found first, or, where nothing is, what is found second
abbrev pub or_joined : Maybe Violation → Maybe Violation → Maybe Violation
or_joined None second = second
or_joined (Some first) second = Some first

-- What a test finds: the first functional dependency that is broken, or, where none is, the first join dependency
unfoldable pub violation_in : List ℕ → List Dependency → List JoinDependency → Database → Maybe Violation
violation_in schema ds js D = or_joined (violation_of (first_broken_from 0 ds D)) (unmet_of (first_unmet_from 0 schema js D))
