-- `compare` finds the leader of a row's group and compares their right values. Invariant: no leader from the node on is that of the group.
-- Assumes nothing.
use Prim.Native.Nat.{ℕ}
use Rattle.grouping.specs.internal.Chains.{Chained}
use Rattle.grouping.specs.internal.Leaders.{link_of}
use Rattle.grouping.proofs.Following.{Following}
use Rattle.grouping.proofs.compare.Given as goal

abbrev pub invariant-loop-node : goal.invariant-loop-node
invariant-loop-node l =
    (key : ℕ → ℕ) → Chained key l.heads (link_of l.nodes) l.count → Following key l.heads l.nodes l.count l.sought l.node

abbrev pub decreases-loop-node : goal.decreases-loop-node
decreases-loop-node l = l.node
