-- `assembly::put_join` meets its contract. Assumes nothing.
use mathlib.Core.Path.{◌≡◌}
use mathlib.Core.List.{List}
use Prim.Native.Nat.{ℕ, ◌+◌}
use lib.ListN.{length, set}
use borrow.Author.Rules.{rules}
use Rattle.lists.proofs.Loops.{mapped-length}
use Rattle.assembly.proofs.put_join.Goals as goal
use Rattle.assembly.proofs.put_join.Goals.{Start}

-- The buffer with the two bytes before the sets
abbrev begun : List ℕ → ℕ → ℕ → ℕ → List ℕ
begun buffer at relation n = set (set buffer at relation) (at + 1) n

four : (c : goal.Start) → length c.args.j.sets ≡ 4
four c = search (mapped-length, rules)
