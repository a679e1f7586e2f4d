-- `compare` finds the leader of a row's group and compares their right values. Invariant: no leader from the node on is that of the group.
-- Assumes nothing.
use mathlib.Core.Path.{◌≡◌}
use Prim.Native.Nat.{ℕ, suc, ◌≤◌, ◌-◌, ◌+◌, ◌*◌, ◌<◌}
use native.Mathlib.Omega.{arith}
use lib.ListN.{length}
use Rattle.grouping.specs.internal.Chains.{Chained}
use Rattle.grouping.specs.internal.Leaders.{link_of}
use Rattle.grouping.proofs.Following.{follow-start, link-le, follow-next}
use Rattle.grouping.proofs.compare.Goals as goal
use Rattle.grouping.proofs.compare.Goals.{In-loop-node}

-- The node is one of the leaders
below : (c : In-loop-node) → c.loop-node.node - 1 < c.args.count
below c = let chains = c.requires.by_index in
    omega (arith, (c.loop-node.invariant chains.0 chains.1).low)

-- Its words are in the slice
stored : (c : In-loop-node) → 4 * (c.loop-node.node - 1) + 3 < length c.args.nodes.now
stored c = omega (arith, below c, c.requires.bucket_in_bounds.1)

-- It is in the row's bucket
bucket : (c : In-loop-node) (key : ℕ → ℕ)
    → Chained key c.args.heads.now (link_of c.args.nodes.now) c.args.count
    → key (c.loop-node.node - 1) ≡ c.args.sought.bucket
bucket c key chained = let l = c.loop-node in
    (l.invariant key chained).same (l.node - 1) (omega arith)

pub loop-node-init : goal.loop-node-init
loop-node-init c = let s = c in
    let a = s.args in
    λ key chained. follow-start key a.heads.now a.nodes.now a.count a.sought chained s.requires.bucket_in_bounds.0

pub loop-node-smaller : goal.loop-node-smaller
loop-node-smaller c = let i = c in
    let l = i.loop-node in
    let s = i in
    let a = s.args in
    let back : link_of a.nodes.now (l.node - 1) ≤ l.node - 1 =
    link-le s.requires.by_index.0 a.heads.now a.nodes.now a.count a.sought s.requires.by_index.1 (l.node - 1) (below (goal.at.loop-node-smaller c).In-loop-node) in
    omega arith

pub loop-node-preserved : goal.loop-node-preserved
loop-node-preserved c = let i = c in
    let l = i.loop-node in
    let a = i.args in
    let is : l.node ≡ suc (l.node - 1) = omega arith in
    λ key chained.
    follow-next key a.heads.now a.nodes.now a.count a.sought chained l.node (l.node - 1) is (l.invariant key chained) c.if-nodes-s.false
