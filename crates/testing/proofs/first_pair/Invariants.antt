-- `first_pair` is the first pair of rows that break the dependency. Invariant: the search from the place on finds what the whole search finds.
-- Assumes nothing.
use mathlib.Core.Path.{◌≡◌}
use Prim.Native.Nat.{◌-◌}
use lib.ListN.{length, drop}
use Rattle.query.specs.View.{dependency_of}
use Rattle.codes.specs.internal.Codes.{codes_in}
use Rattle.words.specs.Words.{database_read}
use Rattle.words.specs.Testing.{first_pair_from}
use Rattle.words.specs.internal.Found.{From}
use Rattle.testing.proofs.first_pair.Given as goal

abbrev pub invariant-loop-place : goal.invariant-loop-place
invariant-loop-place l = From l.schema l.words l.place.at l.place.number
    × (first_pair_from (dependency_of l.d) 0 (database_read (codes_in l.codes) l.schema l.words) ≡ first_pair_from (dependency_of l.d) l.place.number
    (database_read (codes_in l.codes) l.schema (drop l.place.at l.words)))
    × (length l.heads ≡ length l.initial.heads) × (length l.nodes ≡ length l.initial.nodes)

abbrev pub decreases-loop-place : goal.decreases-loop-place
decreases-loop-place l = length l.words - l.place.at
