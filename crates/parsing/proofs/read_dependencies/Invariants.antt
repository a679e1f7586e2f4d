use mathlib.Core.Path.{◌≡◌}
use mathlib.Core.List.{List, ◌++◌}
use Prim.Native.Nat.{ℕ, ◌≤◌}
use lib.Dec.{leb}
use lib.ListN.{length, drop, replicate}
use Rattle.query.specs.declared.Dependency.{Dependency}
use Rattle.query.specs.Rule.{blank_dependency, no_dependency}
use Rattle.format.specs.Parts.{dependency}
use Rattle.limits.specs.internal.Schema.{widths_in}
use Rattle.parsing.proofs.Counted.{Counting}
use Rattle.parsing.proofs.read_dependencies.Given as goal

-- What has been read of the part
abbrev pub At : List ℕ → List ℕ → ℕ → List Dependency → ℕ → List ℕ → Type 0
At schema part n ds i left = Counting (λ n. leb n 32) 32 no_dependency blank_dependency (dependency schema) part n ds i left

-- The slots, of which the first n are lent to the loop
abbrev pub slots : ℕ → List Dependency → List Dependency
slots n lent = lent ++ drop n (replicate 32 no_dependency)

abbrev pub invariant-loop-slot : goal.invariant-loop-slot
invariant-loop-slot l =
    (l.n ≤ 32) × (length l.slot-items ≡ l.n) × At (widths_in l.schema) l.part l.n (slots l.n l.slot-items) l.slot-index l.rest
