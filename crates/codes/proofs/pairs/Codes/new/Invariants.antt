-- `Codes::new`. Invariant: no pair of the first stands before the position that it leads to, and no position is past all pairs. Assumes nothing.
use Rattle.std.proofs.Common.{◌≡◌, true, ◌≤◌, ℕ, length, take, get_or}
use Rattle.codes.specs.internal.Found.{led}
use Rattle.codes.proofs.pairs.Codes.new.Given as goal

abbrev pub invariant-loop-i : goal.invariant-loop-i
invariant-loop-i l =
    (length l.firsts ≡ 256) × ((r : ℕ) → get_or l.firsts r 0 ≤ length l.pairs) × (led l.firsts 0 (take l.i l.pairs) ≡ true)
