-- `next` finds the row after one of whole words.
-- Assumes nothing.
use Prim.Native.Nat.{◌+◌}
use mathlib.Core.Path.{refl}
use native.Mathlib.Omega.{arith}
use lib.ListN.{get_or}
use Rattle.words.proofs.Spelling.{next_row}
use Rattle.words.proofs.next.Goals as goal

pub bounds-schema-relation : goal.bounds-schema-relation
bounds-schema-relation c = let a = c.args in
    let n = next_row a.schema.now a.words.now a.at c.requires.0 (a.at + 1 + get_or a.schema.now (get_or a.words.now a.at 0) 0)
    c.requires.1 refl in
    omega (arith, n.known)

pub returns : goal.returns
returns c = let a = c.args in
    next_row a.schema.now a.words.now a.at c.requires.0 (a.at + 1 + get_or a.schema.now (get_or a.words.now a.at 0) 0)
    c.requires.1 refl
