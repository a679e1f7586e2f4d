-- `join_search::firsts` meets its contract: element by element. Assumes nothing.
use mathlib.Core.Path.{◌≡◌}
use mathlib.Core.Bool.{false}
use Prim.Native.Nat.{ℕ, ◌<◌}
use lib.ListN.{length, get_or}
use mathlib.Core.Bool.{Bool}
use mathlib.Core.List.{List}
use Prim.Native.Nat.{◌/◌, ◌%◌}
use Rattle.query.specs.declared.JoinDependency.{JoinDependency}
use Rattle.join_search.specs.internal.Search.{is_first}
use Rattle.join_search.proofs.firsts.Given as goal

-- What element t is to be
abbrev pub Right : List ℕ → List ℕ → JoinDependency → ℕ → Bool → Type 0
Right codes relations j t b = b ≡ is_first codes relations j.relation (get_or j.sets (t / 24) 0) (t % 24)

abbrev pub invariant-loop-t : goal.invariant-loop-t
invariant-loop-t l = (length l.tried-items ≡ 96) × ((s : ℕ) → s < l.t → Right l.codes l.relations l.j s (get_or l.tried-items s false))
