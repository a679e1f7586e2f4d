-- The bytes of the rows so far, and of those that are left
use Rattle.std.proofs.Common.{◌≡◌, ℕ, ◌+◌, ◌*◌, ◌≤◌, ◌<◌, List, length, drop, get_or, arith, add-one, drop-cons}
use lib.ListN.{drop_of_length-le}
use Rattle.limits.specs.internal.Schema.{widths_in}
use Rattle.encoder.specs.internal.Lengths.{rows_length}
use Rattle.encoder.proofs.PlaceParts.{wide}
use Rattle.encoder.proofs.rows_length.Goals as goal

next : (schema named : List ℕ) (r : ℕ) → r < length named
    → rows_length schema (drop r named) ≡ 1 + 5 * get_or schema (get_or named r 0) 0 + rows_length schema (drop (r + 1) named)
unfolding rows_length
next schema named r h = rw (drop-cons named r 0 h, add-one)

none_left : (schema named : List ℕ) (r : ℕ) → length named ≤ r → rows_length schema (drop r named) ≡ 0
unfolding rows_length
none_left schema named r h = rw (drop_of_length-le named {i = r} h)

pub loop-relation-preserved : goal.loop-relation-preserved
loop-relation-preserved c =
    let e = next (widths_in c.args.schema) c.args.named.now c.loop-relation.relation-index c.loop-relation-test.true in
    let bound = wide c.args.schema (get_or c.args.named.now c.loop-relation.relation-index 0) c.width_of.result c.width_of.ensures in
    (omega (arith, bound), omega (arith, e, c.width_of.ensures, c.loop-relation.invariant.1))

pub returns : goal.returns
returns c =
    let e = none_left (widths_in c.args.schema) c.args.named.now c.loop-relation.relation-index c.loop-relation-test.false in
    (omega (arith, e, c.loop-relation.invariant.1), omega arith)
