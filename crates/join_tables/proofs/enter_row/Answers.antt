-- `enter_row` passes a row by that is of another relation, and enters any other, unless an earlier one has its values. Assumes nothing.
use mathlib.Core.Path.{◌≡◌, sym, ap, subst, ◌∙◌}
use Prim.Native.Nat.{ℕ, ◌+◌, ◌*◌, ◌<◌}
use native.Mathlib.Omega.{arith}
use lib.ListN.{length, get_or, set}
use Rattle.theory.specs.Query.{Row}
use Rattle.join_lookup.specs.internal.Starts.{BeginsAt, row_of, row_with, Of}
use Rattle.join_lookup.specs.internal.Tables.{bucket_of, bucket_at, Table}
use Rattle.join_lookup.proofs.Starting.{start-inside, start-relation, of_room}
use Rattle.join_tables.proofs.Entering.{beside_same, linked-beside, entered-beside, table-other, table-out, table-in, own_row, not_first}
use Rattle.join_tables.proofs.enter_row.Goals as goal
use Rattle.codes.specs.internal.Codes.{codes_in}
use Rattle.words.specs.internal.Rows.{span_read}
use Rattle.join_tables.proofs.enter_row.Goals.{Start, Else-words-at, After-read_row-values, After-bucket-b}

-- The row is there
inside : (s : Start) → s.args.at < length s.args.words.now
inside s = let a = s.args in
    let p = s.requires.by_index in
    omega (arith, p.1.0, start-inside a.schema.now a.words.now s.requires.words_value.0 p.0 p.1.1)

-- Its link is in the slice
link-room : (s : Start) → 6 * s.args.at + 1 + s.args.t < length s.args.nodes.now
link-room s = omega (arith, inside s, s.requires.roomy.nodes-room, s.requires.words_value.2)

-- at a word whose place is far below 64 bits
link-low : (s : Start) → 6 * s.args.at + 1 + s.args.t < 25769803776
link-low s = omega (arith, inside s, s.requires.roomy.short, s.requires.words_value.2)

-- The head of its bucket is in the slice
head-room : (c : After-bucket-b) → 5 * c.bucket-b.result + c.args.t < length c.args.heads.now
head-room c = let s = c in
    omega (arith, c.bucket-b.ensures.1, s.requires.roomy.heads-room, s.requires.words_value.2)

-- It is of the relation
of : (c : Else-words-at) (p : ℕ) → BeginsAt c.args.schema.now c.args.words.now c.args.at p
    → Of (codes_in c.args.codes.now) c.args.schema.now c.args.words.now c.args.x p
of c p b = let s = c in
    let a = s.args in
    start-relation (codes_in a.codes.now) a.schema.now a.words.now s.requires.words_value.0 p b.1 ∙ ap (λ (n : ℕ). get_or a.words.now n 0) (sym b.0)
    ∙ c.if-words-at.false

-- Its values are read
own : (c : After-read_row-values) (p : ℕ) → BeginsAt c.args.schema.now c.args.words.now c.args.at p
    → Of (codes_in c.args.codes.now) c.args.schema.now c.args.words.now c.args.x p
    → row_with c.args.x c.read_row-values.result ≡ row_of (codes_in c.args.codes.now) c.args.schema.now c.args.words.now p
own c p b o = let s = c in
    let a = s.args in
    own_row (codes_in a.codes.now) a.schema.now a.words.now s.requires.words_value.0 a.x s.requires.words_value.1 p b.1 o c.read_row-values.result
    (c.read_row-values.ensures ∙ ap (λ (n : ℕ). (span_read (codes_in a.codes.now) a.x.width a.words.now n).values) b.0)

-- and have the bucket
bucketed : (c : After-bucket-b) (p : ℕ) → BeginsAt c.args.schema.now c.args.words.now c.args.at p
    → row_with c.args.x c.read_row-values.result ≡ row_of (codes_in c.args.codes.now) c.args.schema.now c.args.words.now p
    → c.bucket-b.result ≡ bucket_at (codes_in c.args.codes.now) c.args.schema.now c.args.words.now c.args.x c.args.columns p
bucketed c p b own = let a = c.args in
    c.bucket-b.ensures.0 ∙ ap (λ (r : Row ℕ). bucket_of a.x.buckets a.columns r.values) own

pub offset_bounds-words-at : goal.offset_bounds-words-at
offset_bounds-words-at c = let s = c in omega (arith, inside (goal.at.offset_bounds-words-at c).Start, s.requires.roomy.short)

pub bounds-words-at : goal.bounds-words-at
bounds-words-at c = inside (goal.at.bounds-words-at c).Start

pub returns-then-words-at : goal.returns-then-words-at
returns-then-words-at c = let s = c in
    let a = s.args in
    record {
      beside = beside_same a.t a.heads.now a.nodes.now;
      by_index_2 =
          λ p b table.
          table-other (codes_in a.codes.now) a.schema.now a.words.now s.requires.words_value.0 a.x s.requires.words_value.1 a.t a.columns a.set p b.1
          a.heads.now a.nodes.now table
          (λ is. c.if-words-at.true (ap (λ (n : ℕ). get_or a.words.now n 0) b.0
          ∙ sym (start-relation (codes_in a.codes.now) a.schema.now a.words.now s.requires.words_value.0 p b.1) ∙ is));
    }

pub read_row-values-requires : goal.read_row-values-requires
read_row-values-requires c = let s = c in
    let a = s.args in
    let p = s.requires.by_index in (
      omega (
        arith,
        p.1.0,
        of_room (codes_in a.codes.now) a.schema.now a.words.now s.requires.words_value.0 a.x s.requires.words_value.1 p.0 p.1.1
            (of (goal.at.read_row-values-requires c).Else-words-at p.0 p.1),
      ),
      s.requires.words_value.1.narrow,
    )

pub overflow_mul-nodes : goal.overflow_mul-nodes
overflow_mul-nodes c = omega (arith, link-low (goal.at.overflow_mul-nodes c).Start)

pub overflow_add-nodes : goal.overflow_add-nodes
overflow_add-nodes c = omega (arith, link-low (goal.at.overflow_add-nodes c).Start)

pub overflow_add-nodes-then-find-at : goal.overflow_add-nodes-then-find-at
overflow_add-nodes-then-find-at c = omega (arith, link-low (goal.at.overflow_add-nodes-then-find-at c).Start)

pub offset_bounds-nodes-at : goal.offset_bounds-nodes-at
offset_bounds-nodes-at c = omega (arith, link-low (goal.at.offset_bounds-nodes-at c).Start)

pub bounds-nodes-at : goal.bounds-nodes-at
bounds-nodes-at c = omega (arith, link-room (goal.at.bounds-nodes-at c).Start)

pub returns-then-find-at : goal.returns-then-find-at
returns-then-find-at c = let k = c in
    let q = goal.at.returns-then-find-at c in
    let s = c in
    let a = s.args in
    let next : ℕ = get_or a.heads.now (5 * k.bucket-b.result + a.t) 0 in
    record {
      beside = linked-beside a.t s.requires.words_value.2 a.heads.now a.nodes.now a.at next;
      by_index_2 =
          λ p b table.
          subst (λ (n : ℕ). Table (codes_in a.codes.now) a.schema.now a.words.now a.x a.t a.columns a.set p a.heads.now
          (set a.nodes.now (6 * n + 1 + a.t) next)) (sym b.0)
          (table-out (codes_in a.codes.now) a.schema.now a.words.now s.requires.words_value.0 a.x s.requires.words_value.1 a.t a.columns a.set p b.1 a.heads.now
          a.nodes.now table
          (of q.Else-words-at p b) k.bucket-b.result (bucketed q.After-bucket-b p b (own q.After-read_row-values p b (of q.Else-words-at p b))) k.bucket-b.ensures.1 s.requires.roomy.heads-room s.requires.roomy.nodes-room s.requires.words_value.2
          (start-inside a.schema.now a.words.now s.requires.words_value.0 p b.1)
          (not_first (codes_in a.codes.now) a.schema.now a.words.now s.requires.words_value.0 a.x s.requires.words_value.1 a.t a.set p b.1
          (of q.Else-words-at p b)
          k.read_row-values.result (own q.After-read_row-values p b (of q.Else-words-at p b)) c.if-t-ne0.true c.find.result c.find.ensures
          (λ same. c.if-find-at.true (same ∙ sym b.0))));
    }

pub overflow_mul-nodes-2 : goal.overflow_mul-nodes-2
overflow_mul-nodes-2 c = omega (arith, link-low (goal.at.overflow_mul-nodes-2 c).Start)

pub overflow_add-nodes-2 : goal.overflow_add-nodes-2
overflow_add-nodes-2 c = omega (arith, link-low (goal.at.overflow_add-nodes-2 c).Start)

pub overflow_add-nodes-3 : goal.overflow_add-nodes-3
overflow_add-nodes-3 c = omega (arith, link-low (goal.at.overflow_add-nodes-3 c).Start)

pub offset_bounds-nodes-at-2 : goal.offset_bounds-nodes-at-2
offset_bounds-nodes-at-2 c = omega (arith, link-low (goal.at.offset_bounds-nodes-at-2 c).Start)

pub bounds-nodes-at-2 : goal.bounds-nodes-at-2
bounds-nodes-at-2 c = omega (arith, link-room (goal.at.bounds-nodes-at-2 c).Start)

pub overflow_cast-heads : goal.overflow_cast-heads
overflow_cast-heads c = let s = c in omega (arith, inside (goal.at.overflow_cast-heads c).Start, s.requires.roomy.short)

pub returns : goal.returns
returns c = let k = c in
    let q = goal.at.returns c in
    let s = c in
    let a = s.args in
    let next : ℕ = get_or a.heads.now (5 * k.bucket-b.result + a.t) 0 in
    record {
      beside = entered-beside a.t s.requires.words_value.2 a.heads.now a.nodes.now a.at next k.bucket-b.result;
      by_index_2 =
          λ p b table.
          subst
          (λ (n : ℕ). Table (codes_in a.codes.now) a.schema.now a.words.now a.x a.t a.columns a.set p (set a.heads.now (5 * k.bucket-b.result + a.t) n)
          (set a.nodes.now (6 * n + 1 + a.t) next)) (sym b.0)
          (table-in (codes_in a.codes.now) a.schema.now a.words.now s.requires.words_value.0 a.x s.requires.words_value.1 a.t a.columns a.set p b.1 a.heads.now
          a.nodes.now table
          (of q.Else-words-at p b) k.bucket-b.result (bucketed q.After-bucket-b p b (own q.After-read_row-values p b (of q.Else-words-at p b))) k.bucket-b.ensures.1 s.requires.roomy.heads-room s.requires.roomy.nodes-room s.requires.words_value.2
          (start-inside a.schema.now a.words.now s.requires.words_value.0 p b.1));
    }
