-- `gather` goes along the chain. Invariant: the rows of the part from some row on are copied, and the link leads to the last one before. Assumes nothing.
use mathlib.Core.Path.{◌≡◌}
use mathlib.Core.List.{List}
use lib.ListN.{length}
use Rattle.theory.specs.Codes.{CodePair}
use Rattle.join_lookup.specs.internal.Starts.{row_count}
use Rattle.join_parts.specs.internal.Parts.{Chained}
use Rattle.join_parts.proofs.Gathering.{Gathered}
use Rattle.join_parts.proofs.gather.Given as goal

abbrev pub invariant-loop-link : goal.invariant-loop-link
invariant-loop-link l =
    ((pairs : List CodePair) → Chained pairs l.schema l.words l.fn.x (row_count l.schema l.words) l.heads l.links
    → Gathered pairs l.schema l.words l.fn.x l.fn.b l.link l.start l.buffer)
    × (length l.buffer ≡ length l.fn.buffer)

abbrev pub decreases-loop-link : goal.decreases-loop-link
decreases-loop-link l = l.link
