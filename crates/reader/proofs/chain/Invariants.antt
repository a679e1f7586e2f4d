use mathlib.Core.Path.{◌≡◌}
use Prim.Native.Nat.{◌+◌, ◌*◌, ◌-◌, ◌≤◌}
use lib.ListN.{length, drop}
use Rattle.format.specs.File.{chained}
use Rattle.format.proofs.Stretches.{table_at}
use Rattle.reader.proofs.chain.Given as goal

abbrev pub invariant-loop-k : goal.invariant-loop-k
invariant-loop-k l =
    (l.k ≤ l.n) × (l.due ≤ 100 + 65536 * l.k) × (chained l.n (2 + 4 * l.n) (length l.file) (drop 2 l.file) ≡ chained (l.n - l.k) l.due (length l.file) (table_at l.file l.k))
