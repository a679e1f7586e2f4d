-- `obeyed` partitions the rows by the columns that all sets share. Assumes nothing.
use mathlib.Core.Path.{refl}
use Prim.Native.Nat.{ℕ, ◌+◌, ◌/◌, ◌<◌}
use native.Mathlib.Nat.{div-le_self}
use native.Mathlib.Omega.{arith}
use borrow.Author.Rules.{rules}
use lib.ListN.{length, get_or}
use Rattle.join_lookup.specs.internal.Starts.{Known}
use Rattle.join_parts.specs.declared.Partition.{Partition}
use Rattle.join_parts.specs.internal.Parts.{PartObeys}
use Rattle.join_parts.proofs.Parting.{parts-obey}
use Rattle.codes.specs.internal.Codes.{codes_in}
use Rattle.join_parts.proofs.obeyed.Goals as goal

pub returns : goal.returns
returns c is =
    let a = c.args in
    let x : Partition = record { index = record { relation = a.j.relation; width = get_or a.schema.now a.j.relation 0; buckets = length a.words.now / (get_or a.schema.now a.j.relation 0 + 1) / 32 + 1 }; columns = c.shared-columns.result } in
    let known : Known a.schema.now x.index =
    record { known = c.requires.fits.known; width = refl; narrow = c.requires.narrow; few = omega (arith, div-le_self (length a.words.now) (get_or a.schema.now a.j.relation 0 + 1), c.if-n-ge4294967295.false) } in
    let each : (b : ℕ) → b < x.index.buckets → PartObeys (codes_in a.codes.now) a.schema.now a.words.now a.j x b = c.each_obeys.ensures is in
    let low : c.shared-columns.result < 256 = search (rules, c.shared-columns.type_inv) in
    parts-obey (codes_in a.codes.now) a.schema.now a.words.now a.j x c.requires known refl (omega arith) low c.shared-columns.ensures each
