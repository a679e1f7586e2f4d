-- `fill` makes the table of set after set, and last table 0 by all their columns. Invariant: the first k sets have their tables. Assumes nothing.
use mathlib.Core.Path.{◌≡◌}
use lib.ListN.{length}
use Rattle.join_tables.proofs.Filling.{Levelled}
use Rattle.codes.specs.internal.Codes.{codes_in}
use Rattle.join_tables.proofs.fill.Given as goal

abbrev pub invariant-loop-k : goal.invariant-loop-k
invariant-loop-k l =
    Levelled (codes_in l.codes) l.schema l.words l.fn.j l.x l.heads l.nodes l.filled l.k × (length l.heads ≡ length l.initial.heads)
    × (length l.nodes ≡ length l.initial.nodes)
