-- What good widths of relations tell.
use mathlib.Core.Path.{◌≡◌}
use mathlib.Core.Logic.{⊎_elim}
use mathlib.Core.Bool.{true}
use mathlib.Core.List.{List}
use Prim.Native.Nat.{ℕ, ◌≤◌, ◌<◌}
use native.Mathlib.Omega.{arith}
use lib.Dec.{ltb}
use lib.ListN.{length, take, get_or, get_or-eq_default}
use lib.Seq.{length-take-le}
use borrow.Author.Tests.{lt-ltb}
use Rattle.lists.specs.Tests.{in_use, between, is_zero}
use Rattle.query.specs.Rule.{good_relations}
use Rattle.lists.proofs.Tests.{and_left, and_right, below-or-past, between-true, every-get_or, used-good}

-- A relation is known exactly when its number is below the number of relations
pub known-relation : (n : ℕ) (widths : List ℕ) (r : ℕ) → n ≤ length widths → r < n → ltb r (length (take n widths)) ≡ true
known-relation n widths r fits h = lt-ltb r (length (take n widths)) (rw (length-take-le n widths fits) h)

module _ (n : ℕ) (widths : List ℕ) (good : good_relations n widths ≡ true) where
  -- There are 1 to 8 relations
  pub relations-bounds : (1 ≤ n) × (n ≤ 8)
  unfolding good_relations
  relations-bounds =
      let e : between 1 8 n ≡ true = and_left (between 1 8 n) (in_use n (between 1 8) is_zero widths) good in
      between-true 1 8 n e

  widths-used : in_use n (between 1 8) is_zero widths ≡ true
  unfolding good_relations
  widths-used = and_right (between 1 8 n) (in_use n (between 1 8) is_zero widths) good

  -- A relation has 1 to 8 columns
  pub width-bounds : (i : ℕ) → i < length (take n widths) → (1 ≤ get_or (take n widths) i 0) × (get_or (take n widths) i 0 ≤ 8)
  width-bounds i h = between-true 1 8 _ (every-get_or (between 1 8) (take n widths) i 0 (used-good n (between 1 8) is_zero widths widths-used) h)

  -- No relation has more than 8 columns
  pub width-le : (i : ℕ) → get_or (take n widths) i 0 ≤ 8
  width-le i =
      ⊎_elim (λ h. (width-bounds i h).1) (λ h. rw (get_or-eq_default (take n widths) 0 {n = i} h) (omega arith)) (below-or-past i (length (take n widths)))
