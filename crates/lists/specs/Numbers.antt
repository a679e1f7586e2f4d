-- The numbers of a range that pass a test.
use Rattle.std.specs.Prelude.{Bool, cond, List, [], ◌∷◌, ℕ, zero, suc}

-- Of the n numbers from `start` on, those that pass a test, ascending
unfoldable pub numbers_where : (ℕ → Bool) → ℕ → ℕ → List ℕ
numbers_where test start zero = []
numbers_where test start (suc n) = cond (test start) (start ∷ numbers_where test (suc start) n) (numbers_where test (suc start) n)
