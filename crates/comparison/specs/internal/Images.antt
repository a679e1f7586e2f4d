-- The images of a mapping as they are read, in an array.
use Rattle.std.specs.Prelude.{cond, List, ℕ, take}
use Rattle.query.specs.declared.Cell.{Cell}
use Rattle.query.specs.Types.{Query}
use Rattle.query.specs.View.{rows_of}
use Rattle.theory.specs.Query.{variables_of, row_entries, member}
use Rattle.theory.specs.Codes.{CodePair}
use Rattle.codes.specs.internal.Codes.{read_cell}

-- The variables in the rows of a stored query
abbrev pub row_variables : List ℕ → Query → List ℕ
row_variables schema q = variables_of (row_entries (rows_of schema (take q.size q.relations) q.cells))

-- The image of variable v as it is read
abbrev pub image_read : List CodePair → List ℕ → ℕ → Cell → Cell
image_read ps among v c = cond (member v among) (read_cell ps c) c
