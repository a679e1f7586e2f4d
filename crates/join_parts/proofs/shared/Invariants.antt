-- `shared` goes through the sets. Invariant: what is left of the columns is in each set before. Assumes nothing.
use Prim.Native.Nat.{ℕ, ◌<◌}
use lib.ListN.{get_or}
use Rattle.join_lookup.proofs.Bits.{BitOf}
use Rattle.join_parts.proofs.shared.Given as goal

abbrev pub invariant-loop-set : goal.invariant-loop-set
invariant-loop-set l = (k : ℕ) → k < l.set-index → (c : ℕ) → BitOf l.columns c → BitOf (get_or l.fn.j.sets k 0) c
