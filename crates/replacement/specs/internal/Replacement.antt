-- What the functions of the survivor and the replacement answer, on stored entries and queries.
use Rattle.std.specs.Prelude.{◌≡◌, Option, None, Some, Bool, false, cond, List, map, ℕ, eqb, take}
use Rattle.query.specs.declared.Entry.{Entry}
use Rattle.query.specs.declared.Entry.TheVariants.{Constant, Variable}
use Rattle.query.specs.declared.Cell.{Cell}
use Rattle.query.specs.Types.{Query}
use Rattle.query.specs.View.{entry_of, entries_of}
use Rattle.replacement.specs.declared.Replacement.{Replacement}
use Rattle.theory.specs.Query as theory
use Rattle.theory.specs.Chase as chasing

-- Whether a variable stands in some cells
abbrev pub stands_in : List Cell → ℕ → Bool
stands_in cells v = theory.member v (theory.variables_of (entries_of cells))

-- Whether a variable stands in the head of a query
abbrev pub head_holds : Query → ℕ → Bool
head_holds q = stands_in (take q.arity q.head)

-- What the answer of the survivor rule stands for
abbrev pub resolution_of : Option Replacement → chasing.Resolution
resolution_of None = chasing.clash
resolution_of (Some r) = chasing.replace r.variable (entry_of r.entry)

-- Entry e in place of variable v
unfoldable pub substitute_entry : ℕ → Entry → Entry → Entry
substitute_entry v e (Constant n) = Constant n
substitute_entry v e (Variable w) = cond (eqb w v) e (Variable w)

-- The same in a cell
abbrev pub substitute_cell : ℕ → Entry → Cell → Cell
substitute_cell v e c = record { entry = substitute_entry v e c.entry }

-- A function applied to each cell of a query, in the head and in the rows
abbrev pub map_cells : (Cell → Cell) → Query → Query
map_cells f q =
    record { arity = q.arity; size = q.size; head = map f q.head; relations = q.relations; cells = map f q.cells }
