-- `first_violation` is the first broken dependency with its first pair. Invariant: the search from dependency k on finds what the whole search finds,
-- and the keys that are noted are keys.
-- Assumes nothing.
use mathlib.Core.Path.{◌≡◌}
use mathlib.Core.List.{map}
use lib.ListN.{length, drop}
use Rattle.query.specs.View.{dependency_of}
use Rattle.codes.specs.internal.Codes.{codes_in}
use Rattle.words.specs.Words.{database_read}
use Rattle.words.specs.Testing.{first_broken_from}
use Rattle.testing.specs.internal.Keyed.{Keyed}
use Rattle.testing.proofs.first_violation.Given as goal

abbrev pub invariant-loop-k : goal.invariant-loop-k
invariant-loop-k l = (first_broken_from 0 (map dependency_of l.dependencies) (database_read (codes_in l.codes) l.schema l.words)
    ≡ first_broken_from l.k (map dependency_of (drop l.k l.dependencies)) (database_read (codes_in l.codes) l.schema l.words))
    × Keyed (database_read (codes_in l.codes) l.schema l.words) l.keys × (length l.nodes ≡ length l.initial.nodes) × (length l.used ≡ length l.initial.used)
