-- `link_row` passes a row by that is of another relation, and links any other. Assumes nothing.
use mathlib.Core.Path.{◌≡◌, sym, ap, subst, ◌∙◌}
use Prim.Native.Nat.{ℕ, ◌+◌, ◌≤◌, ◌<◌}
use native.Mathlib.Omega.{arith}
use lib.ListN.{length, get_or, set}
use Rattle.theory.specs.Query.{Row}
use Rattle.join_lookup.specs.internal.Starts.{BeginsAt, row_of, row_with, Of}
use Rattle.join_lookup.proofs.Starting.{start-inside, start-relation, of_room}
use Rattle.join_tables.proofs.Entering.{own_row}
use Rattle.join_parts.specs.internal.Parts.{part_of, Chained}
use Rattle.join_parts.proofs.Chaining.{chained-other, chained-in}
use Rattle.join_parts.proofs.link_row.Goals as goal
use Rattle.codes.specs.internal.Codes.{codes_in}
use Rattle.words.specs.internal.Rows.{span_read}
use Rattle.join_parts.proofs.link_row.Goals.{Start, Else-words-at, After-bucket-b}

-- The row is there
inside : (s : Start) → s.args.at < length s.args.words.now
inside s =
    let p = s.requires.by_index in
    omega (arith, p.1.0, start-inside s.args.schema.now s.args.words.now s.requires.words_value.0 p.0 p.1.1)

-- It is of the relation
of : (c : Else-words-at) (p : ℕ) → BeginsAt c.args.schema.now c.args.words.now c.args.at p
    → Of (codes_in c.args.codes.now) c.args.schema.now c.args.words.now c.args.x.index p
of c p b =
    start-relation (codes_in c.args.codes.now) c.args.schema.now c.args.words.now c.requires.words_value.0 p b.1
    ∙ ap (λ (n : ℕ). get_or c.args.words.now n 0) (sym b.0)
    ∙ c.if-words-at.false

-- Its part is that of its values
bucketed : (c : After-bucket-b) (p : ℕ) → BeginsAt c.args.schema.now c.args.words.now c.args.at p
    → Of (codes_in c.args.codes.now) c.args.schema.now c.args.words.now c.args.x.index p
    → c.bucket-b.result ≡ part_of c.args.x (row_of (codes_in c.args.codes.now) c.args.schema.now c.args.words.now p).values
bucketed c p b o =
    let a = c.args in
    let own : row_with a.x.index c.read_row-values.result ≡ row_of (codes_in a.codes.now) a.schema.now a.words.now p =
    own_row (codes_in a.codes.now) a.schema.now a.words.now c.requires.words_value.0 a.x.index c.requires.words_value.1 p b.1 o c.read_row-values.result
    (c.read_row-values.ensures ∙ ap (λ (n : ℕ). (span_read (codes_in a.codes.now) a.x.index.width a.words.now n).values) b.0) in
    c.bucket-b.ensures.0 ∙ ap (λ (r : Row ℕ). part_of a.x r.values) own

pub offset_bounds-words-at : goal.offset_bounds-words-at
offset_bounds-words-at c = omega (arith, inside (goal.at.offset_bounds-words-at c).Start, c.requires.room.2)

pub bounds-words-at : goal.bounds-words-at
bounds-words-at c = inside (goal.at.bounds-words-at c).Start

pub returns-then-words-at-clause-by_index_2 : goal.returns-then-words-at-clause-by_index_2
returns-then-words-at-clause-by_index_2 c p b chained =
    let a = c.args in
    chained-other (codes_in a.codes.now) a.schema.now a.words.now a.x p a.heads.now a.links.now chained
    (λ is. c.if-words-at.true (ap (λ (n : ℕ). get_or a.words.now n 0) b.0
    ∙ sym (start-relation (codes_in a.codes.now) a.schema.now a.words.now c.requires.words_value.0 p b.1) ∙ is))

pub read_row-values-requires : goal.read_row-values-requires
read_row-values-requires c =
    let a = c.args in
    let p = c.requires.by_index in
    let o = of (goal.at.read_row-values-requires c).Else-words-at p.0 p.1 in (
      omega (arith, p.1.0, of_room (codes_in a.codes.now) a.schema.now a.words.now c.requires.words_value.0 a.x.index c.requires.words_value.1 p.0 p.1.1 o),
      c.requires.words_value.1.narrow,
    )

pub offset_bounds-links-at : goal.offset_bounds-links-at
offset_bounds-links-at c = omega (arith, inside (goal.at.offset_bounds-links-at c).Start, c.requires.room.2)

pub bounds-links-at : goal.bounds-links-at
bounds-links-at c = omega (arith, inside (goal.at.bounds-links-at c).Start, c.requires.room.1)

pub overflow_cast-heads : goal.overflow_cast-heads
overflow_cast-heads c = omega (arith, inside (goal.at.overflow_cast-heads c).Start, c.requires.room.2)

pub overflow_add-heads : goal.overflow_add-heads
overflow_add-heads c = omega (arith, inside (goal.at.overflow_add-heads c).Start, c.requires.room.2)

pub returns-clause-by_index_2 : goal.returns-clause-by_index_2
returns-clause-by_index_2 c p b chained =
    let a = c.args in
    let q = goal.at.returns-clause-by_index_2 c in
    let o = of q.Else-words-at p b in
    let next : ℕ = get_or a.heads.now c.bucket-b.result 0 in
    subst
    (λ (n : ℕ). Chained (codes_in a.codes.now) a.schema.now a.words.now a.x (Prim.Native.Nat.suc p) (set a.heads.now c.bucket-b.result (n + 1))
    (set a.links.now n next)) (sym b.0)
    (chained-in (codes_in a.codes.now) a.schema.now a.words.now a.x p a.heads.now a.links.now chained o c.bucket-b.result
    (bucketed q.After-bucket-b p b o) c.bucket-b.ensures.1
    c.requires.room.0 (omega (arith, start-inside a.schema.now a.words.now c.requires.words_value.0 p b.1, c.requires.room.1)))
