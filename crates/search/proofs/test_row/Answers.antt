-- `search::test_row` meets its contract. The loop's invariant: the row goes together with each row passed. Assumes nothing.
use Rattle.search.proofs.Steps.{excluded-two}
use Rattle.consistency.proofs.Masks.{bit_shifted, bit_or_left, bit_or_right}
use Prim.Native.Nat.{◌*◌, ◌^◌, ◌%◌}
use native.Mathlib.Omega.{arith}
use Rattle.search.proofs.test_row.Goals as goal

pub returns-then-table-r-eq0 : goal.returns-then-table-r-eq0
returns-then-table-r-eq0 c =
    let a = c.args in
    let q = c.loop-q.q in
    excluded-two a.rows a.domain.now a.table.now a.chosen _ a.r c.requires.1
    (bit_or_left (1 * 2 ^ a.r % 65536) (1 * 2 ^ q % 65536) a.r (bit_shifted a.r (omega arith)))
    q c.loop-q-test.true
    (bit_or_right (1 * 2 ^ a.r % 65536) (1 * 2 ^ q % 65536) q (bit_shifted q (omega arith))) c.if-table-r-eq0.true
