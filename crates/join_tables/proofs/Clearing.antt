-- The heads of a table made empty, one by one. Assumes nothing.
use mathlib.Core.Path.{◌≡◌}
use mathlib.Core.List.{List}
use Prim.Native.Nat.{ℕ, ◌+◌, ◌*◌, ◌<◌}
use lib.ListN.{length, get_or}

-- The first b heads of table t are the end, the other tables' are as they were
pub record Cleared (t end : ℕ) (old heads : List ℕ) (b : ℕ) : Type 0 where
  pub size : length heads ≡ length old
  pub empty : (d : ℕ) → d < b → get_or heads (5 * d + t) 0 ≡ end
  pub kept : (d u : ℕ) → u < 5 → (u ≡ t → ⊥) → get_or heads (5 * d + u) 0 ≡ get_or old (5 * d + u) 0
