-- The closure of a set of columns on masks, as the code computes it: one look through the dependencies, and so many looks.
-- What is believed of it is only that the answer is the theory's `determined`; see `determined_columns` in `record/specs/Calls`.
use Rattle.std.specs.Prelude.{Bool, List, ℕ, zero, suc, ◌^◌, ltb}
use Rattle.std.proofs.Math.Option.{Option, none, some}
use Rattle.std.specs.Int.Bits.{bit_or}
use Rattle.theory.specs.Chase.{first_passing}
use Rattle.theory.specs.Database.{Dependency}
use Rattle.determination.specs.Determined.{adds}
use Rattle.query.specs.declared.Dependency as stored
use Rattle.query.specs.View.{columns_of}

-- The right column of a dependency is one of 8
abbrev pub right_narrow : stored.Dependency → Bool
right_narrow d = ltb d.right 8

-- A mask with the right column of a found dependency
unfoldable pub add_right : ℕ → Option Dependency → ℕ
add_right mask none = mask
add_right mask (some d) = bit_or mask (2 ^ d.right)

-- The mask with the right column of the first dependency that adds one
unfoldable pub next_mask : List Dependency → ℕ → ℕ → ℕ
next_mask ds relation mask = add_right mask (first_passing (adds relation (columns_of mask)) ds)

-- The mask after so many looks through the dependencies
unfoldable pub grow_mask : ℕ → List Dependency → ℕ → ℕ → ℕ
grow_mask zero ds relation mask = mask
grow_mask (suc n) ds relation mask = grow_mask n ds relation (next_mask ds relation mask)
