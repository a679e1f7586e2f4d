-- What its type tells of a record's arrays: how long they are. Assumes nothing.
use mathlib.Core.Path.{◌≡◌, refl}
use mathlib.Core.Bool.{true}
use mathlib.Core.List.{List, [], ◌∷◌}
use Prim.Native.Nat.{ℕ}
use lib.ListN.{length}
use mir.Val.{Val}
use denote.Array.{Array, each}
use denote.Builtin.{u8}
use denote.Laws.{Is}
use denote.RattleType.{RattleType}
use denote.Shadow.{shadow}
use denote.Param.{number}
use Rattle.query.specs.Types.{Query}
use Rattle.query.specs.declared.Place.{Place}
use Rattle.query.specs.declared.JoinDependency.{JoinDependency}
use Rattle.record.specs.declared.Record.{Record}
use Rattle.lists.specs.Tests.{every}
use Rattle.query.specs.contracts.Cell as cell
use Rattle.query.specs.contracts.CodePair as pair
use Rattle.query.specs.contracts.Dependency as dependency
use Rattle.query.specs.contracts.JoinDependency as joined
use Rattle.query.specs.contracts.ConjunctiveQuery as query
use Rattle.query.specs.contracts.Place as place
use Rattle.query.specs.Rule.{shaped_query, shaped_join}
use Rattle.record.specs.contracts.Record as recorded
use Rattle.format.specs.File.{shaped}

-- An array of n elements
pub long : (R : RattleType) (n : ℕ) (xs : List R.Denot) (vs : List Val) → Is (Array R n) xs vs → length xs ≡ n
long R n xs vs p = p.1.0.1

-- A query's arrays
pub query-shaped : (q : Query) (vs : List Val) → Is (query.the_row (number 12) (number 96)) q vs → shaped_query q ≡ true
query-shaped q vs p =
    let head = long cell.the_row 8 q.head _ p.1.1.1.1.0 in
    let relations = long u8 12 q.relations _ p.1.1.1.1.1.0 in
    let cells = long cell.the_row 96 q.cells _ p.1.1.1.1.1.1.0 in rw (head, relations, cells)

-- Each of some places
places-shaped : (places : List Place) (us : List Val)
    → shadow (each (place.the_row).Denot (place.the_row).own_val places us)
    → every (λ p. shaped_query p.query) places ≡ true
unfolding every
places-shaped [] us p = refl
places-shaped (x ∷ xs) [] p = absurd p
places-shaped (x ∷ xs) (u ∷ us) p =
    let first = query-shaped x.query _ p.0.1.1.1.0 in
    let rest = places-shaped xs us p.1 in rw (first, rest)

-- Each of some join dependencies
joins-shaped : (joins : List JoinDependency) (us : List Val)
    → shadow (each (joined.the_row).Denot (joined.the_row).own_val joins us)
    → every shaped_join joins ≡ true
unfolding every
joins-shaped [] us p = refl
joins-shaped (x ∷ xs) [] p = absurd p
joins-shaped (x ∷ xs) (u ∷ us) p =
    let four = long u8 4 x.sets _ p.0.1.1.1.1.0 in
    let rest = joins-shaped xs us p.1 in rw (four, rest)

-- A record's
pub record-shaped : (r : Record) (vs : List Val) → Is recorded.the_row r vs → shaped r ≡ true
record-shaped r vs p =
    let widths = long u8 8 r.widths _ p.1.1.1.0 in
    let codes = long pair.the_row 16 r.codes _ p.1.1.1.1.1.0 in
    let dependencies = long dependency.the_row 32 r.dependencies _ p.1.1.1.1.1.1.1.0 in
    let joins = long joined.the_row 4 r.joins _ p.1.1.1.1.1.1.1.1.1.0 in
    let sets = joins-shaped r.joins _ p.1.1.1.1.1.1.1.1.1.0.1.1 in
    let places = long place.the_row 8 r.places _ p.1.1.1.1.1.1.1.1.1.1.0 in
    let queries = places-shaped r.places _ p.1.1.1.1.1.1.1.1.1.1.0.1.1 in
    rw (widths, codes, dependencies, joins, sets, places, queries)
