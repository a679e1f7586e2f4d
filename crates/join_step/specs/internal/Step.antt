-- Codes and cells of a tableau, a tableau with a row more and without repeated rows, and what the search for the next row asks and promises.
use Rattle.std.specs.Prelude as prelude
use Rattle.std.specs.Prelude.{◌≡◌, None, Some, IfSome, true, cond, List, map, ℕ, zero, suc, ◌+◌, ◌*◌, ◌≤◌, eqb, leb, take, drop, get_or, set, replicate}
use Rattle.std.proofs.Math.Option.{Option, none, some}
use Rattle.lists.specs.Tests.{every}
use Rattle.lists.specs.Over.{over}
use Rattle.query.specs.declared.Cell.{Cell}
use Rattle.query.specs.Types.{Tableau}
use Rattle.query.specs.declared.JoinDependency.{JoinDependency}
use Rattle.query.specs.View.{entries_of, query_of, as_query, join_of}
use Rattle.query.specs.Rule.{good_row, no_cell, shaped_join}
use Rattle.query.specs.internal.Code.{decoded}
use Rattle.tableaux.specs.internal.Codes.{codes_of}
use Rattle.joins.specs.JoinChase.{next_row}
use Rattle.join_search.specs.internal.Search.{free, is_first}
use Rattle.join_step.specs.declared.NextRow.{NextRow}
use Rattle.theory.specs.Query as theory

-- ---- codes and cells

-- The cell of a code, blank where it is free
abbrev pub cell_of : ℕ → Cell
cell_of code = cond (eqb code free) no_cell (record { entry = decoded code })

-- ---- rows

-- A tableau with a row more
abbrev pub with_row : Tableau → ℕ → List Cell → Tableau
with_row t relation row =
    record {
      arity = t.arity;
      size = t.size + 1;
      head = t.head;
      relations = set t.relations t.size relation;
      cells = over t.cells (8 * t.size) row;
    }

-- A tableau with its first n rows only, and of those no repeated ones: the earliest stays
unfoldable pub distinct_to : Tableau → ℕ → Tableau
distinct_to t zero = record { arity = t.arity; size = 0; head = t.head; relations = replicate 24 0; cells = replicate 192 no_cell }
distinct_to t (suc i) =
    cond (is_first (codes_of t.cells) t.relations (get_or t.relations i 0) 255 i)
    (with_row (distinct_to t i) (get_or t.relations i 0) (take 8 (drop (8 * i) t.cells))) (distinct_to t i)

-- ---- the row to be added

-- What the answer of the search stands for
abbrev pub next_of : List ℕ → prelude.Option NextRow → Option (theory.Row theory.Entry)
next_of schema None = none
next_of schema (Some r) = some (record { relation = r.relation; values = entries_of (take (get_or schema r.relation 0) r.row) })

-- What the search asks, so that each row and set that it reads is there
pub record Joinable (t : Tableau) (joins : List JoinDependency) : Type 0 where
  pub size_fits : t.size ≤ 24
  pub joins-shaped : every shaped_join joins ≡ true
  pub counts-fit : every (λ j. leb j.count 4) joins ≡ true

-- What it promises of a good tableau and good join dependencies: the row is the one to be added, and it is good
pub record IsNext (schema : List ℕ) (t : Tableau) (joins : List JoinDependency) (r : prelude.Option NextRow) : Type 0 where
  pub row_is : next_of schema r ≡ next_row schema (map join_of joins) (query_of schema (as_query t)).rows
  pub good : IfSome r (λ row. good_row schema row.relation row.row ≡ true)
