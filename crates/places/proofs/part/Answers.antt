use mathlib.Core.Path.{◌≡◌, sym, ap, ◌∙◌}
use Prim.Native.Nat.{◌+◌, ◌-◌}
use native.Mathlib.Omega.{arith}
use lib.ListN.{drop}
use Rattle.format.specs.Bytes.{number}
use Rattle.format.proofs.Stretches.{table_at, table-size}
use Rattle.places.proofs.part.Goals as goal

pub returns : goal.returns
returns c =
    let file = c.args.file.now in
    let k = c.args.k in
    let offset = c.word16-offset.result in
    let size = c.word16-size.result in
    let n : offset + size - offset ≡ size = omega arith in
    let e : number 2 (drop 2 (table_at file k)) ≡ size = ap (number 2) (table-size file k) ∙ sym c.word16-size.ensures.0 in
    rw (n, e, ← c.word16-offset.ensures.0)
