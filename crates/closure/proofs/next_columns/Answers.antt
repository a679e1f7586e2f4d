-- `next_columns` meets its contract. Assumes nothing.
use Rattle.std.proofs.Common.{◌≡◌, ◌<◌, length, map, get_or, sym, ap, ◌∙◌, arith}
use mathlib.Core.Option.{some}
use lib.Bits.{bit_or}
use Rattle.determination.specs.Determined.{adds}
use Rattle.query.specs.View.{columns_of, dependency_of}
use Rattle.query.specs.Rule.{no_dependency}
use Rattle.closure.specs.internal.Closure.{add_right, next_mask}
use Rattle.lists.proofs.Tests.{shifted_one}
use Rattle.closure.proofs.Closure.{passing-finds, passing-goes, passing-ends, mapped-long, mapped_at, right-at}
use Rattle.closure.proofs.next_columns.Goals as goal

pub adds_column-requires : goal.adds_column-requires
adds_column-requires c = right-at c.args.dependencies.now c.loop-d.d-index c.requires c.loop-d-test.true

pub overflow_shl-result : goal.overflow_shl-result
overflow_shl-result c = right-at c.args.dependencies.now c.loop-d.d-index c.requires c.loop-d-test.true

pub returns-then-adds_column : goal.returns-then-adds_column
unfolding next_mask add_right
returns-then-adds_column c =
    let ds = c.args.dependencies.now in
    let i = c.loop-d.d-index in
    let test = adds c.args.relation (columns_of c.args.mask) in
    let inside : i < length (map dependency_of ds) = rw (mapped-long ds) c.loop-d-test.true in
    let seen : test (get_or (map dependency_of ds) i (dependency_of no_dependency)) ≡ c.adds_column.result =
    ap test (mapped_at ds i) ∙ sym c.adds_column.ensures
    in
    let found = passing-finds c.loop-d.invariant (dependency_of no_dependency) inside (seen ∙ c.if-adds_column.true) in
    ap (bit_or c.args.mask) (shifted_one 8 (get_or ds i no_dependency).right (right-at ds i c.requires c.loop-d-test.true))
    ∙ sym (ap (add_right c.args.mask) (found ∙ ap some (mapped_at ds i)))

pub loop-d-preserved : goal.loop-d-preserved
loop-d-preserved c =
    let ds = c.args.dependencies.now in
    let i = c.loop-d.d-index in
    let test = adds c.args.relation (columns_of c.args.mask) in
    let inside : i < length (map dependency_of ds) = rw (mapped-long ds) c.loop-d-test.true in
    let seen : test (get_or (map dependency_of ds) i (dependency_of no_dependency)) ≡ c.adds_column.result =
    ap test (mapped_at ds i) ∙ sym c.adds_column.ensures
    in
    passing-goes c.loop-d.invariant (dependency_of no_dependency) inside (seen ∙ c.if-adds_column.false)

pub returns : goal.returns
unfolding next_mask add_right
returns c = sym (ap (add_right c.args.mask) (passing-ends c.loop-d.invariant (omega (arith, mapped-long c.args.dependencies.now))))
