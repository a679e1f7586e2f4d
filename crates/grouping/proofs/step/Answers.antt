-- `step` passes one row: it is of another relation, or of a group with a leader, or it is a leader, or there is no room for it as one.
-- Assumes nothing.
use mathlib.Core.Path.{sym, subst}
use mathlib.Core.List.{List}
use Prim.Native.Nat.{ℕ, ◌≤◌, ◌+◌, ◌*◌}
use native.Mathlib.Omega.{arith}
use lib.ListN.{length, set}
use Rattle.query.specs.View.{dependency_of}
use Rattle.words.specs.Words.{database_read}
use Rattle.words.specs.declared.Position.{Position}
use Rattle.grouping.specs.internal.Leaders.{key_of}
use Rattle.grouping.specs.internal.Walked.{Walked}
use Rattle.grouping.specs.declared.Walk.{Walk}
use Rattle.codes.specs.internal.Codes.{codes_in}
use Rattle.grouping.proofs.Passing.{row_room, walked-other, walked_same, walked-differ, walked-full, walked-new}
use Rattle.grouping.proofs.step.Goals as goal
use Rattle.grouping.proofs.step.Goals.{Start}

-- The bucket of each leader
keys : Start → ℕ → ℕ
keys c = let a = c.args in
    let C = codes_in a.codes.now in
    key_of (dependency_of a.d) (database_read C a.schema.now a.words.now) (length a.heads.now) a.nodes.now

pub returns-then-words-row : goal.returns-then-words-row
returns-then-words-row c = let a = c.args in
    let C = codes_in a.codes.now in
    λ after next. walked-other C a.schema.now a.words.now a.d a.row a.walk a.heads.now a.nodes.now c.requires.walked after next c.if-words-row.true

pub sought_of-sought-requires-clause-width_in_bounds : goal.sought_of-sought-requires-clause-width_in_bounds
sought_of-sought-requires-clause-width_in_bounds c = let a = c.args in
    let C = codes_in a.codes.now in
    row_room C a.schema.now a.words.now a.d a.row a.walk a.heads.now a.nodes.now c.requires.walked c.requires.at_in_bounds c.if-words-row.false

pub returns-then-row-lt4294967295 : goal.returns-then-row-lt4294967295
unfolding keys
returns-then-row-lt4294967295 c = let a = c.args in
    let C = codes_in a.codes.now in
    let q = c.sought_of-sought in
    let w : Walk = record { count = a.walk.count + 1; least = a.walk.least; key = a.walk.key } in
    let stored : 4 * a.walk.count ≤ length a.nodes.now = c.requires.walked.table.stored in
    λ after next.
    let p : Position = record { at = after; number = a.row.number + 1 } in
    subst (λ (x : List ℕ). Walked C a.schema.now a.words.now a.d p w x c.enter.new.nodes) (sym c.enter.ensures.heads_after)
    (subst (λ (x : List ℕ). Walked C a.schema.now a.words.now a.d p w (set a.heads.now q.result.bucket (a.walk.count + 1)) x)
    (sym c.enter.ensures.nodes_after)
    (walked-new C a.schema.now a.words.now a.d a.row a.walk a.heads.now a.nodes.now c.requires.walked after next
    c.if-words-row.false q.result q.ensures.value (c.in-Alone.ensures (keys (goal.at.returns-then-row-lt4294967295 c).Start) c.requires.walked.table.chained)
    q.ensures.bucket_lt_buckets (omega (arith, c.if-nodes-walk-ge4.true))))

pub returns-in-Same : goal.returns-in-Same
unfolding keys
returns-in-Same c = let a = c.args in
    let C = codes_in a.codes.now in
    let q = c.sought_of-sought in
    let l = c.in-Same.ensures (keys (goal.at.returns-in-Same c).Start) c.requires.walked.table.chained in
    λ after next.
    walked_same C a.schema.now a.words.now a.d a.row a.walk a.heads.now a.nodes.now c.requires.walked after next
    c.if-words-row.false q.result q.ensures.value l.0 l.1 l.2 l.3

pub returns-in-Differs : goal.returns-in-Differs
unfolding keys
returns-in-Differs c = let a = c.args in
    let C = codes_in a.codes.now in
    let q = c.sought_of-sought in
    let l = c.in-Differs.ensures (keys (goal.at.returns-in-Differs c).Start) c.requires.walked.table.chained in
    λ after next.
    walked-differ C a.schema.now a.words.now a.d a.row a.walk a.heads.now a.nodes.now c.requires.walked after next
    c.if-words-row.false q.result q.ensures.value l.0 l.1 l.2 c.min.result (omega (arith, c.min.ensures)) (omega (arith, c.min.ensures, l.3))

pub returns-else-nodes-walk-ge4 : goal.returns-else-nodes-walk-ge4
unfolding keys
returns-else-nodes-walk-ge4 c = let a = c.args in
    let C = codes_in a.codes.now in
    let q = c.sought_of-sought in
    λ after next.
    walked-full C a.schema.now a.words.now a.d a.row a.walk a.heads.now a.nodes.now c.requires.walked after next
    c.if-words-row.false q.result q.ensures.value (c.in-Alone.ensures (keys (goal.at.returns-else-nodes-walk-ge4 c).Start) c.requires.walked.table.chained)
    c.min-in-Alone.result (omega (arith, c.min-in-Alone.ensures)) (omega (arith, c.min-in-Alone.ensures))
