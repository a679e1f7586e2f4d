-- A stored query as a tableau, which has room for 12 rows more, and a tableau without that room.
use Rattle.std.specs.Prelude.{ℕ, ◌-◌, ◌++◌, take, replicate}
use Rattle.query.specs.declared.ConjunctiveQuery.{ConjunctiveQuery}
use Rattle.query.specs.Types.{Query}
use Rattle.query.specs.Types.{Tableau}
use Rattle.query.specs.Rule.{no_cell}

-- A query of so many rows and cells with room for others: what it has no room for is cut, and what is not filled is blank
abbrev pub with_room : (rows cells to_rows to_cells : ℕ) → ConjunctiveQuery rows cells → ConjunctiveQuery to_rows to_cells
with_room rows cells to_rows to_cells q =
    record {
      arity = q.arity;
      size = q.size;
      head = q.head;
      relations = take to_rows q.relations ++ replicate (to_rows - rows) 0;
      cells = take to_cells q.cells ++ replicate (to_cells - cells) no_cell;
    }

-- The tableau of a stored query: its rows, then 12 that are not in use
abbrev pub tableau_of : Query → Tableau
tableau_of q =
    record {
      arity = q.arity;
      size = q.size;
      head = q.head;
      relations = q.relations ++ replicate 12 0;
      cells = q.cells ++ replicate 96 no_cell;
    }

-- The stored query of a tableau of at most 12 rows: what is stored of the first 12
abbrev pub stored_of : Tableau → Query
stored_of t =
    record {
      arity = t.arity;
      size = t.size;
      head = t.head;
      relations = take 12 t.relations;
      cells = take 96 t.cells;
    }
