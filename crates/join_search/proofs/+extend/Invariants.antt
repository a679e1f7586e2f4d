-- `join_search::extend` meets its contract. It recurs over the sets; the measure is the number of sets left. The loop's invariant: what is found is what is found
-- from row i on, and nothing is found with the rows before it. Assumes nothing.
use mathlib.Core.Path.{◌≡◌}
use mathlib.Core.Option.{none}
use Prim.Native.Nat.{ℕ, ◌+◌, ◌-◌, ◌≤◌, ◌<◌}
use lib.ListN.{length, take, drop}
use Rattle.join_search.specs.internal.Search.{extend_of, first_of}
use Rattle.join_search.proofs.Search.{find_with}
use Rattle.join_search.proofs.+extend.Given as goal

abbrev pub decreases-extend : goal.decreases-extend
decreases-extend l = l.j.count - l.k

abbrev pub invariant-loop-i : goal.invariant-loop-i
invariant-loop-i l =
    (l.i ≤ l.size) × (length l.j.sets ≡ 4)
    × (extend_of l.codes l.relations l.size l.j.relation (drop l.k (take l.j.count l.j.sets)) l.chosen
    ≡ first_of (find_with l.codes l.relations l.size l.j.relation l.set (drop (l.k + 1) (take l.j.count l.j.sets)) l.chosen) l.i (l.size - l.i))
    × ((e : ℕ) → e < l.i → find_with l.codes l.relations l.size l.j.relation l.set (drop (l.k + 1) (take l.j.count l.j.sets)) l.chosen e ≡ none)
