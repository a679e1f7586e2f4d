-- `each_obeys` goes through the parts. Invariant: those before b obey. Assumes nothing.
use mathlib.Core.Path.{◌≡◌}
use Prim.Native.Nat.{ℕ, ◌<◌}
use lib.ListN.{length}
use Rattle.join_parts.specs.internal.Parts.{PartObeys}
use Rattle.codes.specs.internal.Codes.{codes_in}
use Rattle.join_parts.proofs.each_obeys.Given as goal

abbrev pub invariant-loop-b : goal.invariant-loop-b
invariant-loop-b l = ((d : ℕ) → d < l.b → PartObeys (codes_in l.codes) l.schema l.words l.fn.j l.fn.x d) × (length l.buffer ≡ length l.fn.buffer)
