-- A tableau's cells as numbers, in which rows are compared. The codes tell entries within the limits apart.
use Rattle.std.specs.Prelude.{Bool, List, map, ℕ, ◌+◌, ◌*◌, eqb, get_or}
use Rattle.lists.specs.Tests.{every}
use Rattle.query.specs.declared.Cell.{Cell}
use Rattle.query.specs.View.{columns_of}
use Rattle.query.specs.internal.Code.{code_of}

-- The codes of some cells
abbrev pub codes_of : List Cell → List ℕ
codes_of cells = map (λ c. code_of c.entry) cells

-- Whether two rows have the same codes in the columns of a set
abbrev pub same_on : List ℕ → ℕ → ℕ → ℕ → Bool
same_on codes set i e = every (λ c. eqb (get_or codes (8 * i + c) 0) (get_or codes (8 * e + c) 0)) (columns_of set)
