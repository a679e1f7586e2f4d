-- What `place_row` and `try_candidate` ask of each other at each call, and what they answer.
-- The work: placing asks for more than 26 for each row that is not placed, trying for 26 less what the candidates passed have
-- cost, and each call takes 1. Assumes nothing.
use mathlib.Core.Path.{◌≡◌, subst⁻¹}
use Rattle.std.specs.Prelude.{Some}
use mathlib.Core.List.{List}
use Prim.Native.Nat.{ℕ, ◌+◌, ◌-◌, ◌*◌, ◌^◌, ◌<◌, ◌≤◌}
use native.Mathlib.Omega.{arith}
use lib.ListN.{get_or, length}
use lib.Bits.{bit_or}
use Rattle.consistency.specs.internal.Solution.{Bit}
use Rattle.consistency.specs.internal.Consistent.{NoBit, Below, Refuted, Settles, Follows}
use Rattle.search.specs.internal.Invariant.{missing, IsCandidate, Placeable, Tryable}
use Rattle.consistency.specs.declared.State.{State}
use Rattle.search.proofs.Missing.{missing-less, missing-none}
use Rattle.consistency.proofs.Steps.{below_set, jump, excludes}
use Rattle.search.proofs.Steps.{left-next, from_next}

module _ (rows : ℕ) (domain table : List ℕ) (s : State) where
  -- ---- at the start
  -- where no row is placed and each has all its candidates, the search can begin
  pub placeable-start : rows ≤ 13 → s.placed ≡ 0 → s.current ≡ domain → Below s.chosen → Placeable rows domain table s (26 * rows + 1)
  placeable-start few none all below =
      record {
        rows_few = few;
        below = below;
        sound = λ q h f sol ag. subst⁻¹ (λ (l : List ℕ). Bit (get_or l q 0) (f q)) all (sol.held q h);
        enough = subst⁻¹ (λ (p : ℕ). 26 * missing p rows < 26 * rows + 1) none (omega (arith, missing-none rows));
      }

  -- also once it is settled
  pub placeable-settled : (t : State) (work : ℕ) → Settles rows table s t → Placeable rows domain table s work → Placeable rows domain table t work
  placeable-settled t work settles pre =
      record {
        rows_few = pre.rows_few;
        below = subst⁻¹ Below settles.chosen pre.below;
        sound = settles.sound domain pre.sound;
        enough = subst⁻¹ (λ (p : ℕ). 26 * missing p rows < work) settles.placed pre.enough;
      }

  -- ---- from trying a candidate

  module _ (work row c blame d : ℕ) (pre : Tryable rows domain table s work row c blame) (is : IsCandidate (get_or s.current row 0) c (Some d)) where
    -- work is left
    fewer : missing (bit_or s.placed (2 ^ row)) rows < missing s.placed rows
    fewer = missing-less s.placed row rows pre.row_in pre.free

    pub some-work : 2 < work
    some-work =
        let a : 26 * missing s.placed rows ≤ work + c = pre.enough in
        let b : c ≤ d = is.from in
        let w : d < 24 = is.within in
        omega (arith, fewer)

    -- after the choice of candidate d
    module _ (t : State) (after : Follows rows table s t row d) (long : length s.chosen ≡ 13) where
      fits : row < length s.chosen
      fits = let a : row < rows = pre.row_in in let b : rows ≤ 13 = pre.rows_few in omega arith

      pub placeable-next : Placeable rows domain table t (work - 1)
      placeable-next =
          let w : d < 24 = is.within in
          let a : 26 * missing s.placed rows ≤ work + c = pre.enough in
          let b : c ≤ d = is.from in
          record {
            rows_few = pre.rows_few;
            below = subst⁻¹ Below after.chosen (below_set s.chosen row d pre.below (omega arith));
            sound = after.sound domain pre.sound;
            enough = subst⁻¹ (λ (p : ℕ). 26 * missing p rows < work - 1) after.placed (omega (arith, fewer));
          }

      module _ (more : ℕ) (said : Refuted rows domain table t.placed more t.chosen) where
        -- the failure does not blame this row
        pub failed-jump : NoBit more row → Refuted rows domain table s.placed more s.chosen
        failed-jump no_row = jump rows domain table s t row d after.chosen after.placed fits pre.free more no_row said

        -- the next candidate can be tried
        pub tryable-next : Tryable rows domain table s (work - 1) row (d + 1) (bit_or blame more)
        tryable-next =
            let w : d < 24 = is.within in
            let a : 26 * missing s.placed rows ≤ work + c = pre.enough in
            let b : c ≤ d = is.from in
            let ex = excludes rows domain table s t row d after.chosen after.placed fits pre.free more said in
            record {
              rows_few = pre.rows_few;
              below = pre.below;
              sound = pre.sound;
              row_in = pre.row_in;
              free = pre.free;
              from-few = omega arith;
              enough = omega (arith, some-work);
              left = left-next rows domain table s.placed blame s.chosen row (get_or s.current row 0) c d is pre.left pre.from more ex;
              from = from_next rows domain table s.placed blame s.chosen row (get_or s.current row 0) c d is pre.left pre.from more ex;
            }
