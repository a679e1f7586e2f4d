-- Join dependencies, and the databases that obey them. With functional ones alone see `Database` and `Containment` of the theory.
use Rattle.std.specs.Prelude.{◌≡◌, ◌≢◌, ◌↔◌, Bool, true, false, cond, ◌&&◌, List, [], ◌∷◌, ℕ, ◌<◌, ltb, length, get_or}
use Rattle.lists.specs.Tests.{every}
use Rattle.lists.specs.Numbers.{numbers_where}
use Rattle.theory.specs.Query.{Row, member, FitsSchema, ◌∈◌}
use Rattle.theory.specs.Database.{Database, Dependency, Agree, Obeys, Sound, JoinDependency}
use Rattle.theory.specs.Codes.{CodePair, WithoutOld}
use Rattle.minimization.specs.Checking.{nonempty}

-- Row r is in the join of the projections of some rows: on each set it agrees with a row of the relation
abbrev pub InJoin : {A : Type 0} → A → JoinDependency → List (Row A) → Row A → Type 0
InJoin {A} z j rows r = (set : List ℕ) → set ∈ j.sets → (s : Row A) × s ∈ rows × (s.relation ≡ j.relation) × Agree z set s r

-- A database obeys a join dependency when the relation is the join of its projections: of the rows that the relation can have, those in the join are there
abbrev pub ObeysJoin : List ℕ → JoinDependency → Database → Type 0
ObeysJoin widths j D = (r : Row ℕ) → FitsSchema widths r → r.relation ≡ j.relation → (r ∈ D) ↔ InJoin 0 j D r

-- A database obeys a list of join dependencies when it obeys each
abbrev pub ObeysJoins : List ℕ → List JoinDependency → Database → Type 0
ObeysJoins widths js D = (j : JoinDependency) → j ∈ js → ObeysJoin widths j D

-- A database obeys both kinds when it obeys the functional and the join dependencies
pub record ObeysBoth (widths : List ℕ) (ds : List Dependency) (js : List JoinDependency) (D : Database) : Type 0 where
  pub functional : Obeys ds D
  pub joins : ObeysJoins widths js D

-- A database that is legal for both kinds: its rows fit the schema, and it obeys both
pub record LegalForBoth (widths : List ℕ) (ds : List Dependency) (js : List JoinDependency) (D : Database) : Type 0 where
  pub sound : Sound widths D
  pub obeys : ObeysBoth widths ds js D

-- The databases that statements on both kinds speak of: legal for both, and without old codes
pub record LegalForBothAsRead (ps : List CodePair) (widths : List ℕ) (ds : List Dependency) (js : List JoinDependency) (D : Database) : Type 0 where
  pub legal : LegalForBoth widths ds js D
  pub current : WithoutOld ps D

-- A join dependency fits a schema: its relation is known, it has a set, and its sets together have all columns of the relation
pub record JoinFits (widths : List ℕ) (j : JoinDependency) : Type 0 where
  pub known : j.relation < length widths
  pub some-set : j.sets ≢ []
  pub covers : (c : ℕ) → c < get_or widths j.relation 0 → (set : List ℕ) × set ∈ j.sets × c ∈ set

-- Each of some join dependencies fits
abbrev pub JoinsFit : List ℕ → List JoinDependency → Type 0
JoinsFit widths js = (j : JoinDependency) → j ∈ js → JoinFits widths j

-- Whether a column stands in one of some sets
unfoldable pub in_some : ℕ → List (List ℕ) → Bool
in_some c [] = false
in_some c (set ∷ sets) = cond (member c set) true (in_some c sets)

-- Whether a join dependency fits a schema
unfoldable pub join_fits : List ℕ → JoinDependency → Bool
join_fits widths j =
    ltb j.relation (length widths) && nonempty j.sets
    && every (λ c. in_some c j.sets) (numbers_where (λ c. true) 0 (get_or widths j.relation 0))
