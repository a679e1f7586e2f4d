-- `chain` walks over the rows. Invariant: the rows passed are in the chains. Assumes nothing.
use mathlib.Core.Path.{◌≡◌}
use Prim.Native.Nat.{◌≤◌}
use lib.ListN.{length}
use Rattle.join_lookup.specs.internal.Starts.{start_of, row_count}
use Rattle.join_parts.specs.internal.Parts.{Chained}
use Rattle.codes.specs.internal.Codes.{codes_in}
use Rattle.join_parts.proofs.chain.Given as goal

abbrev pub invariant-loop-row : goal.invariant-loop-row
invariant-loop-row l = (l.row-iterator.schema.now ≡ l.schema) × (l.row-iterator.words.now ≡ l.words)
    × (l.row-iterator.place.at ≡ start_of l.schema l.words l.row-iterator.place.number)
    × (l.row-iterator.place.number ≤ row_count l.schema l.words)
    × (length l.heads ≡ length l.fn.heads) × (length l.links ≡ length l.fn.links)
    × Chained (codes_in l.codes) l.schema l.words l.fn.x l.row-iterator.place.number l.heads l.links
