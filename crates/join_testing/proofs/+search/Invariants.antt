-- The search from a set on. It recurs over the sets, and its loop goes through the rows for a set. Invariant: no positions that begin with a row passed break
-- the join dependency. The measures are the sets left and the words left. Assumes nothing.
use Prim.Native.Nat.{◌-◌, ◌<◌}
use lib.ListN.{length}
use Rattle.join_tables.specs.internal.Indexed.{Searchable, Indexed}
use Rattle.join_testing.proofs.Searching.{Going}
use Rattle.codes.specs.internal.Codes.{codes_in}
use Rattle.join_testing.proofs.+search.Given as goal

abbrev pub decreases-search : goal.decreases-search
decreases-search l = l.tables.now.j.count - l.k

abbrev pub invariant-loop-at : goal.invariant-loop-at
invariant-loop-at l =
    (g : Searchable l.tables.schema.now l.tables.words.now l.tables.j)
    × (i : Indexed (codes_in l.tables.codes.now) l.tables.schema.now l.tables.words.now l.tables.j l.tables.x l.tables.heads.now l.tables.nodes.now)
    × (more : l.k < l.tables.j.count) × Going g i l.k more l.values l.at

abbrev pub decreases-loop-at : goal.decreases-loop-at
decreases-loop-at l = length l.tables.words.now - l.at
