-- Examples of the tests and lists of specs/, at the edge of each one that passes and one that doesn't. `proofs/Examples` proves them by computation.
use Rattle.std.specs.Prelude.{◌≡◌, Bool, true, false, List, [], ◌∷◌, ℕ, eqb, ltb}
use Rattle.lists.specs.Tests.{between, every, in_use, is_zero, same_lists}
use Rattle.lists.specs.Numbers.{numbers_where}
use Rattle.lists.specs.Over.{over, pad}

-- What passes
abbrev pub good_tests : List Bool
good_tests =
    -- both limits of a range
    between 1 8 1 ∷ between 1 8 8
    -- no element; two that pass
    ∷ every is_zero [] ∷ every is_zero (0 ∷ 0 ∷ [])
    -- good ones and then blank ones; all in use; none
    ∷ in_use 2 (ltb 4) is_zero (5 ∷ 6 ∷ 0 ∷ []) ∷ in_use 2 (ltb 4) is_zero (5 ∷ 6 ∷ []) ∷ in_use 0 (ltb 4) is_zero (0 ∷ [])
    ∷ is_zero 0
    -- no elements; the same two
    ∷ same_lists eqb [] [] ∷ same_lists eqb (3 ∷ 4 ∷ []) (3 ∷ 4 ∷ []) ∷ []

-- What does not
abbrev pub bad_tests : List Bool
bad_tests =
    -- below the range, and above it
    between 1 8 0 ∷ between 1 8 9
    -- the first of two does not pass; the second
    ∷ every is_zero (1 ∷ 0 ∷ []) ∷ every is_zero (0 ∷ 1 ∷ [])
    -- a bad one in use; one not in use that is not blank
    ∷ in_use 2 (ltb 4) is_zero (5 ∷ 4 ∷ 0 ∷ []) ∷ in_use 2 (ltb 4) is_zero (5 ∷ 6 ∷ 7 ∷ [])
    ∷ is_zero 1
    -- the one longer; another first element; another last one
    ∷ same_lists eqb (3 ∷ []) [] ∷ same_lists eqb [] (3 ∷ []) ∷ same_lists eqb (3 ∷ 4 ∷ []) (5 ∷ 4 ∷ []) ∷ same_lists eqb (3 ∷ 4 ∷ []) (3 ∷ 5 ∷ []) ∷ []

-- All of them, one by one
pub record TestExamples : Type 0 where
  pub pass : good_tests ≡ true ∷ true ∷ true ∷ true ∷ true ∷ true ∷ true ∷ true ∷ true ∷ true ∷ []
  pub fail : bad_tests ≡ false ∷ false ∷ false ∷ false ∷ false ∷ false ∷ false ∷ false ∷ false ∷ false ∷ false ∷ []

-- Lists that are made
pub record ListExamples : Type 0 where
  -- of 3, 4, 5 and 6 those above 4
  pub numbers : numbers_where (ltb 4) 3 4 ≡ 5 ∷ 6 ∷ []
  -- two elements over the second and third of four
  pub written : over {A = ℕ} (1 ∷ 2 ∷ 3 ∷ 4 ∷ []) 1 (8 ∷ 9 ∷ []) ≡ 1 ∷ 8 ∷ 9 ∷ 4 ∷ []
  -- two elements in an array of four
  pub padded : pad {A = ℕ} 4 0 (8 ∷ 9 ∷ []) ≡ 8 ∷ 9 ∷ 0 ∷ 0 ∷ []
