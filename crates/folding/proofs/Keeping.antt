-- The state of the loop over a query's rows, from the last to the first. Assumes nothing.
use mathlib.Core.Path.{◌≡◌}
use mathlib.Core.List.{List}
use lib.ListN.{drop, take}
use Prim.Native.Nat.{ℕ, ◌/◌, ◌^◌, ◌<◌}
use Rattle.consistency.specs.internal.Solution.{Bit}
use Rattle.candidates.specs.internal.Candidates.{Repeats}
use Rattle.theory.specs.Query as theory
use Rattle.minimization.specs.Kept.{kept_after}
use Rattle.folding.specs.internal.Kept.{marked}

-- The rows from row i on are tried. No row that is left repeats an earlier one, and before row i all others are left
pub record Keeping (target offered : List ℕ) (size left i : ℕ) : Type 0 where
  pub within : left < 2 ^ size
  pub fresh : (d : ℕ) → Bit left d → Repeats target offered d → ⊥
  pub before : (d : ℕ) → d < i → (Repeats target offered d → ⊥) → Bit left d

-- Of the rows from row i on those are left that are kept after the others
abbrev pub KeptFrom : theory.Query → ℕ → ℕ → Type 0
KeptFrom q left i = marked (left / 2 ^ i) (drop i q.rows) ≡ kept_after (take i q.rows) q (drop i q.rows)
