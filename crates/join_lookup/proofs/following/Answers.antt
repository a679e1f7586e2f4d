-- `following` is the link of a row, or where the next row begins. Assumes nothing.
use mathlib.Core.Path.{◌≡◌, sym, ap, ◌∙◌, subst}
use mathlib.Core.Bool.{true}
use Prim.Native.Nat.{ℕ, suc, ◌+◌, ◌*◌, ◌<◌}
use native.Mathlib.Omega.{arith}
use lib.ListN.{length, drop, get_or}
use Rattle.words.specs.Words.{spells_rows}
use Rattle.join_lookup.specs.internal.Starts.{start_of}
use Rattle.join_lookup.proofs.Starting.{begins, start-inside, start-next}
use Rattle.join_lookup.proofs.Reaching.{reach-next, reach-link, reach-inside}
use Rattle.join_lookup.proofs.following.Goals as goal
use Rattle.join_lookup.proofs.following.Goals.{Start, Else-x-eq0}

-- The row is there
inside : (c : Start) → c.args.at < length c.args.words.now
inside c = let a = c.args in
    let p = c.requires.by_index in
    omega (arith, p.1.0, start-inside a.schema.now a.words.now c.requires.words_value.0 p.0 p.1.1)

-- Its link is in the slice
room : (c : Else-x-eq0) → 6 * c.args.at + 1 + c.args.t < length c.args.nodes.now
room c = let s = c in
    let a = s.args in
    let p = s.requires.by_index in
    omega (arith, p.1.0, start-inside a.schema.now a.words.now s.requires.words_value.0 p.0 p.1.1, s.requires.words_in_bounds (omega (arith, c.if-x-eq0.false)), s.requires.words_value.2)

pub next-requires : goal.next-requires
next-requires c = let s = c in
    let a = s.args in
    let p = s.requires.by_index in
    let b = begins a.schema.now a.words.now s.requires.words_value.0 p.0 (omega (arith, p.1.1)) in
    (inside (goal.at.next-requires c).Start, subst (λ (n : ℕ). spells_rows a.schema.now (drop n a.words.now) ≡ true) (sym p.1.0) b.from.good)

pub returns-then-x-eq0 : goal.returns-then-x-eq0
returns-then-x-eq0 c = let s = c in
    let t = c in
    let a = s.args in
    let p = s.requires.by_index in
    λ pairs columns set from values heads small wide table g.
    let i = reach-inside pairs a.schema.now a.words.now s.requires.words_value.0 a.x s.requires.words_value.1 a.t columns set values from a.at p.0 p.1 g in
    let n = start-next a.schema.now a.words.now s.requires.words_value.0 g.row i.1 in
    let e : c.next.result ≡ start_of a.schema.now a.words.now (suc g.row) =
    c.next.ensures.place ∙ ap (λ (m : ℕ). m + 1 + get_or a.schema.now (get_or a.words.now m 0) 0) g.place ∙ sym n.place in
    reach-next pairs a.schema.now a.words.now s.requires.words_value.0 a.x s.requires.words_value.1 a.t columns set values t.if-x-eq0.true from a.at
    c.next.result g i.1 e

pub overflow_mul-result : goal.overflow_mul-result
overflow_mul-result c = omega (arith, room (goal.at.overflow_mul-result c).Else-x-eq0)

pub overflow_add-result : goal.overflow_add-result
overflow_add-result c = omega (arith, room (goal.at.overflow_add-result c).Else-x-eq0)

pub overflow_add-result-2 : goal.overflow_add-result-2
overflow_add-result-2 c = omega (arith, room (goal.at.overflow_add-result-2 c).Else-x-eq0)

pub offset_bounds-nodes-at : goal.offset_bounds-nodes-at
offset_bounds-nodes-at c = omega (arith, room (goal.at.offset_bounds-nodes-at c).Else-x-eq0)

pub bounds-nodes-at : goal.bounds-nodes-at
bounds-nodes-at c = room (goal.at.bounds-nodes-at c).Else-x-eq0

pub returns : goal.returns
returns c = let s = c in
    let e = c in
    let a = s.args in
    let p = s.requires.by_index in
    let some : 0 < a.x.buckets = omega (arith, e.if-x-eq0.false) in
    λ pairs columns set from values heads small wide table g.
    let i = reach-inside pairs a.schema.now a.words.now s.requires.words_value.0 a.x s.requires.words_value.1 a.t columns set values from a.at p.0 p.1 g in
    reach-link pairs a.schema.now a.words.now s.requires.words_value.0 a.x s.requires.words_value.1 a.t columns set values small wide some heads a.nodes.now
    from a.at
    (table some) g i.1
