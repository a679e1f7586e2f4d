-- A stored query without rows. For any schema.
-- Assumes nothing.
use mathlib.Core.Path.{◌≡◌, ap}
use mathlib.Core.List.{List, []}
use Prim.Native.Nat.{ℕ}
use lib.ListN.{take}
use Rattle.query.specs.Types.{Query}
use Rattle.query.specs.View.{rows_of, query_of}

-- A stored query of size 0 has no rows
pub never-rows : (schema : List ℕ) (q : Query) → q.size ≡ 0 → (query_of schema q).rows ≡ []
unfolding rows_of
never-rows schema q e = ap (λ (n : ℕ). rows_of schema (take n q.relations) q.cells) e
