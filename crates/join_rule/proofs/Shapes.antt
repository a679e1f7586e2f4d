-- What its type tells of an array of join dependencies: each has 4 sets. Assumes nothing.
use mathlib.Core.Path.{◌≡◌, refl}
use mathlib.Core.Bool.{true}
use mathlib.Core.List.{List, [], ◌∷◌, map}
use Prim.Native.Nat.{ℕ}
use lib.ListN.{length}
use mir.Val.{Val}
use denote.Array.{Array, each}
use denote.Laws.{Is}
use denote.Shadow.{shadow}
use denote.Struct.Field.{array_field}
use Rattle.lists.specs.Tests.{every}
use Rattle.query.specs.declared.JoinDependency.{JoinDependency}
use Rattle.query.specs.contracts.JoinDependency as dependency
use Rattle.query.specs.Rule.{shaped_join}

-- One of them
join-shaped : (j : JoinDependency) (vs : List Val) → Is dependency.the_row j vs → shaped_join j ≡ true
join-shaped j vs p =
    let four : length j.sets ≡ 4 = p.1.1.1.1.0.1.0.1 in rw four

elements-shaped : (joins : List JoinDependency) (us : List Val)
    → shadow (each (dependency.the_field).row.Denot (dependency.the_field).row.own_val (map (dependency.the_field).into joins) us)
    → every shaped_join joins ≡ true
unfolding every
elements-shaped [] us p = refl
elements-shaped (j ∷ js) [] p = absurd p
elements-shaped (j ∷ js) (u ∷ us) p =
    let first = join-shaped j _ p.0 in
    let rest = elements-shaped js us p.1 in rw (first, rest)

-- All of an array
pub joins-shaped : (n : ℕ) (joins : List JoinDependency) (vs : List Val)
    → Is (array_field dependency.the_field n).row ((array_field dependency.the_field n).into joins) vs → every shaped_join joins ≡ true
joins-shaped n joins vs p = elements-shaped joins _ p.1.1

-- All of an array that is handed over
arguments-shaped : (joins : List JoinDependency) (us : List Val)
    → shadow (each (dependency.the_row).Denot (dependency.the_row).own_val joins us) → every shaped_join joins ≡ true
unfolding every
arguments-shaped [] us p = refl
arguments-shaped (j ∷ js) [] p = absurd p
arguments-shaped (j ∷ js) (u ∷ us) p =
    let first = join-shaped j _ p.0 in
    let rest = arguments-shaped js us p.1 in rw (first, rest)

pub argument-shaped : (n : ℕ) (joins : List JoinDependency) (vs : List Val)
    → Is (Array dependency.the_row n) joins vs → every shaped_join joins ≡ true
argument-shaped n joins vs p = arguments-shaped joins _ p.1.1
