-- `find` goes along table 0. Invariant: no row passed has the values. Assumes nothing.
use mathlib.Core.Path.{◌≡◌}
use Prim.Native.Nat.{◌-◌}
use mathlib.Core.Bool.{true}
use lib.ListN.{length}
use Rattle.words.specs.Words.{spells_rows}
use Rattle.join_lookup.specs.internal.Starts.{Known}
use Rattle.join_lookup.proofs.Reaching.{Passing}
use Rattle.codes.specs.internal.Codes.{codes_in}
use Rattle.join_lookup.proofs.find.Given as goal

abbrev pub invariant-loop-at : goal.invariant-loop-at
invariant-loop-at l =
    (good : spells_rows l.schema l.words ≡ true) × (k : Known l.schema l.x) × Passing (codes_in l.codes) l.schema l.words good l.x k l.columns l.values l.at

abbrev pub decreases-loop-at : goal.decreases-loop-at
decreases-loop-at l = length l.words - l.at
