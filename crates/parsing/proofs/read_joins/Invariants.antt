-- `parsing::read_joins` meets its contract. Invariant: what has been read of the bytes. Assumes nothing.
use mathlib.Core.Path.{◌≡◌}
use mathlib.Core.List.{List, ◌++◌}
use Prim.Native.Nat.{ℕ, ◌≤◌}
use lib.ListN.{length, drop, replicate}
use Rattle.lists.specs.Tests.{between}
use Rattle.query.specs.declared.JoinDependency.{JoinDependency}
use Rattle.query.specs.Rule.{no_join}
use Rattle.format.specs.Parts.{join, unused_join}
use Rattle.limits.specs.internal.Schema.{widths_in}
use Rattle.parsing.proofs.Counted.{Counting}
use Rattle.parsing.proofs.read_joins.Given as goal

-- What has been read of the part
abbrev pub At : List ℕ → List ℕ → ℕ → List JoinDependency → ℕ → List ℕ → Type 0
At schema part n js i left = Counting (between 1 4) 4 no_join unused_join (join schema) part n js i left

-- The slots, of which the first n are lent to the loop
abbrev pub slots : ℕ → List JoinDependency → List JoinDependency
slots n lent = lent ++ drop n (replicate 4 no_join)

abbrev pub invariant-loop-slot : goal.invariant-loop-slot
invariant-loop-slot l = (l.n ≤ 4) × (length l.slot-items ≡ l.n) × At (widths_in l.schema) l.part l.n (slots l.n l.slot-items) l.slot-index l.rest
