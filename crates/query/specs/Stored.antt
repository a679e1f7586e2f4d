-- The stored query that stands for a query, with room for so many rows: `query_of` undone (`Meaning`).
use Rattle.std.specs.Prelude.{ℕ, ◌*◌, ◌-◌, List, [], ◌∷◌, ◌++◌, map, length, replicate}
use Rattle.query.specs.declared.Entry.{Entry}
use Rattle.query.specs.declared.Entry.TheVariants.{Constant, Variable}
use Rattle.query.specs.declared.Cell.{Cell}
use Rattle.query.specs.Types.{Query}
use Rattle.query.specs.Rule.{no_cell}
use Rattle.theory.specs.Query as theory

-- The enum value that stands for an entry
abbrev pub entry_from : theory.Entry → Entry
entry_from (theory.constant n) = Constant n
entry_from (theory.variable v) = Variable v

-- The cells of some entries, then blank ones up to n
abbrev pub cells_from : ℕ → List theory.Entry → List Cell
cells_from n es = map (λ e. record { entry = entry_from e }) es ++ replicate (n - length es) no_cell

-- The cells of some rows, 8 for each
unfoldable pub row_cells : List (theory.Row theory.Entry) → List Cell
row_cells [] = []
row_cells (r ∷ rows) = cells_from 8 r.values ++ row_cells rows

-- The stored query that stands for a query, with room for `most` rows
abbrev pub stored_form : ℕ → theory.Query → Query
stored_form most q =
    record {
      arity = length q.head;
      size = length q.rows;
      head = cells_from 8 q.head;
      relations = map (λ r. r.relation) q.rows ++ replicate (most - length q.rows) 0;
      cells = row_cells q.rows ++ replicate (8 * (most - length q.rows)) no_cell;
    }
