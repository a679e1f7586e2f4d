use mathlib.Core.Path.{◌≡◌}
use mathlib.Core.List.{List, ◌++◌}
use Prim.Native.Nat.{ℕ, ◌≤◌}
use Rattle.lists.specs.Tests.{between}
use lib.ListN.{length, drop, replicate}
use Rattle.query.specs.declared.CodePair.{CodePair}
use Rattle.query.specs.Rule.{blank_pair, no_pair}
use Rattle.format.specs.Parts.{code_pair}
use Rattle.parsing.proofs.Counted.{Counting}
use Rattle.parsing.proofs.read_pairs.Given as goal

-- What has been read of the part
abbrev pub At : List ℕ → ℕ → List CodePair → ℕ → List ℕ → Type 0
At part n ps i left = Counting (between 1 16) 16 no_pair blank_pair code_pair part n ps i left

-- The slots, of which the first n are lent to the loop
abbrev pub slots : ℕ → List CodePair → List CodePair
slots n lent = lent ++ drop n (replicate 16 no_pair)

abbrev pub invariant-loop-slot : goal.invariant-loop-slot
invariant-loop-slot l =
    (l.n ≤ 16) × (length l.slot-items ≡ l.n) × At l.part l.n (slots l.n l.slot-items) l.slot-index l.rest
