-- The numbers that a test leaves.
use Rattle.std.specs.Prelude.{Option as Maybe, None, Some, ℕ, get_or}
use Rattle.words.specs.declared.Violation.{Violation}
use Rattle.words.specs.declared.Violation.TheVariants as violation

-- What a test leaves: 1 where the database obeys, the rest 0; 0, the position of a functional dependency and its pair of rows, the rest 0; or 2, the position
-- of a join dependency and the rows of its choice, 0 where there is no set
pub record TestNumbers : Type 0 where
  pub verdict : ℕ
  pub dependency : ℕ
  pub first : ℕ
  pub second : ℕ
  pub third : ℕ
  pub fourth : ℕ

-- These numbers of what a test finds
abbrev pub test_numbers : Maybe Violation → TestNumbers
test_numbers None = record { verdict = 1; dependency = 0; first = 0; second = 0; third = 0; fourth = 0 }
test_numbers (Some (violation.Functional k i j)) = record { verdict = 0; dependency = k; first = i; second = j; third = 0; fourth = 0 }
test_numbers (Some (violation.Join k rows)) =
    record { verdict = 2; dependency = k; first = get_or rows 0 0; second = get_or rows 1 0; third = get_or rows 2 0; fourth = get_or rows 3 0 }
