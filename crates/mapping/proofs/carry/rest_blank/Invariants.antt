-- `rest_blank` tells whether the other variables have constant 0. The invariant: those passed have it.
-- Assumes nothing.
use mathlib.Core.Path.{◌≡◌}
use Prim.Native.Nat.{ℕ, ◌<◌}
use Rattle.theory.specs.Query.{constant}
use Rattle.query.specs.View.{images_of}
use Rattle.mapping.specs.internal.Lines.{Stands}
use Rattle.mapping.proofs.carry.rest_blank.Given as goal

abbrev pub invariant-loop-v : goal.invariant-loop-v
invariant-loop-v l = (w : ℕ) → w < l.v → (Stands l.cells w → ⊥) → images_of l.images w ≡ constant 0
