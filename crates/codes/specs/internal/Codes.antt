-- The pairs of codes that are ready to read by, and a stored cell as it is read.
use Rattle.std.specs.Prelude.{◌≡◌, true, List, [], ◌∷◌, ◌++◌, map, ℕ, leb, take, drop, get_or}
use Rattle.lists.specs.Tests.{every}
use Rattle.query.specs.declared.Entry.{Entry}
use Rattle.query.specs.declared.Entry.TheVariants.{Constant, Variable}
use Rattle.query.specs.declared.Cell.{Cell}
use Rattle.query.specs.View.{held_codes}
use Rattle.theory.specs.Codes.{CodePair, read_code}
use Rattle.codes.specs.declared.pairs.Codes.{Codes}

-- The pairs that are ready
abbrev pub codes_in : Codes → List CodePair
codes_in c = held_codes c.pairs c.count

-- A stored entry as it is read
abbrev pub read_stored : List CodePair → Entry → Entry
read_stored ps (Constant n) = Constant (read_code ps n)
read_stored ps (Variable v) = Variable v

-- A cell as it is read
abbrev pub read_cell : List CodePair → Cell → Cell
read_cell ps c = record { entry = read_stored ps c.entry }

-- The 8 cells of a row at the front of some cells, the first of which, one a column, are read
abbrev pub read_row : List CodePair → ℕ → List Cell → List Cell
read_row ps width cells = map (read_cell ps) (take width cells) ++ drop width (take 8 cells)

-- The cells of rows of the given relations as they are read, a row's starting 8 after those of the row before. What comes after them stays
unfoldable pub read_rows : List CodePair → List ℕ → List ℕ → List Cell → List Cell
read_rows ps widths [] cells = cells
read_rows ps widths (relation ∷ relations) cells = read_row ps (get_or widths relation 0) cells ++ read_rows ps widths relations (drop 8 cells)

-- No current code is above the limit of constants
abbrev pub within_limit : Codes → Type 0
within_limit c = every (λ p. leb p.current 2147483647) (codes_in c) ≡ true
