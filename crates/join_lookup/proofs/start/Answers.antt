-- `start` is the head of a bucket, or the first row. Assumes nothing.
use mathlib.Core.Path.{◌≡◌}
use Prim.Native.Nat.{◌+◌, ◌*◌, ◌<◌}
use native.Mathlib.Omega.{arith}
use lib.ListN.{length}
use Rattle.join_lookup.proofs.Reaching.{reach-first, reach-head}
use borrow.Author.Rules.{rules}
use Rattle.join_lookup.proofs.start.Goals as goal
use Rattle.join_lookup.proofs.start.Goals.{Else-x-eq0, After-bucket-b}

-- There is a bucket, and its head is in the slice
some : (c : Else-x-eq0) → 0 < c.args.x.buckets
some c = omega (arith, c.if-x-eq0.false)

room : (c : After-bucket-b) → 5 * c.bucket-b.result + c.args.t < length c.args.heads.now
room c = let s = c in
    let e = c in
    omega (arith, c.bucket-b.ensures.1, s.requires.buckets_in_bounds (omega (arith, c.if-x-eq0.false)), s.requires.words_value.2)

pub returns-then-x-eq0 : goal.returns-then-x-eq0
returns-then-x-eq0 c = let s = c in
    let a = s.args in
    λ pairs set nodes table. reach-first pairs a.schema.now a.words.now s.requires.words_value.0 a.x s.requires.words_value.1 a.t a.columns set a.values
    c.if-x-eq0.true

pub returns : goal.returns
returns c = let s = c in
    let a = s.args in
    let b = c in
    let e = c in
    let size : length a.values ≡ 8 = search rules in
    λ pairs set nodes table.
    reach-head pairs a.schema.now a.words.now s.requires.words_value.0 a.x s.requires.words_value.1 a.t a.columns set a.values s.ranges.columns.fits
    (omega (arith, s.requires.words_value.1.narrow)) a.heads.now nodes b.bucket-b.result b.bucket-b.ensures.0 b.bucket-b.ensures.1 (table (some (goal.at.returns c).Else-x-eq0))
