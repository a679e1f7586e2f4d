-- `first_unmet` is the first join dependency with a choice, and its first. Invariant: the search from join dependency k on finds what the whole search finds.
-- Assumes nothing.
use mathlib.Core.Path.{◌≡◌}
use mathlib.Core.List.{map}
use lib.ListN.{length, drop}
use Rattle.query.specs.View.{join_of}
use Rattle.join_testing.specs.Unmet.{first_unmet_from}
use Rattle.codes.specs.internal.Codes.{codes_in}
use Rattle.words.specs.Words.{database_read}
use Rattle.join_parts.proofs.first_unmet.Given as goal

abbrev pub invariant-loop-k : goal.invariant-loop-k
invariant-loop-k l = (first_unmet_from 0 l.schema (map join_of l.joins) (database_read (codes_in l.codes) l.schema l.words)
    ≡ first_unmet_from l.k l.schema (map join_of (drop l.k l.joins)) (database_read (codes_in l.codes) l.schema l.words))
    × (length l.nodes ≡ length l.initial.nodes) × (length l.heads ≡ length l.initial.heads)
