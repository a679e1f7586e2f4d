-- What the functions that write are given: stored rows, images and queries, and what may be listed.
use Rattle.std.specs.Prelude.{◌≡◌, true, List, ℕ, ◌+◌, ◌≤◌, ◌<◌, length}
use Rattle.query.specs.declared.Cell.{Cell}
use Rattle.query.specs.Types.{Query}
use Rattle.query.specs.View.{entries_of}
use Rattle.lists.specs.Tests.{every}
use Rattle.limits.specs.internal.Schema.{widths_in}
use Rattle.limits.specs.declared.schema.Schema.{Schema}
use Rattle.query.specs.Rule.{good_cell, good_query, head_safe}
use Rattle.theory.specs.Query as theory
use Rattle.lists.specs.Numbers.{numbers_where}

-- The row of a relation with the entries that some cells stand for
abbrev pub row_of_cells : ℕ → List Cell → theory.Row theory.Entry
row_of_cells relation cells = record { relation = relation; values = entries_of cells }

-- The variables below 96 that stand in a row, ascending
abbrev pub variables_in_rows : theory.Query → List ℕ
variables_in_rows q = numbers_where (λ v. theory.member v (theory.variables_of (theory.row_entries q.rows))) 0 96

-- Room for the text of any place: a line of at most 37 bytes, a head of at most 93, 12 rows of at most 94 each and a mapping of at most 1444
abbrev pub place_room : ℕ
place_room = 2702

-- What may be listed: a place of the record, two good queries, the first with a safe head, images that are good entries, and a buffer with room for the text
pub record Listable (buffer : List ℕ) (at place : ℕ) (schema : Schema) (source result : Query) (images : List Cell) : Type 0 where
  pub room : at + place_room ≤ length buffer
  pub place-known : place < 8
  pub source-good : good_query (widths_in schema) source ≡ true
  pub source-safe : head_safe (widths_in schema) source ≡ true
  pub result-good : good_query (widths_in schema) result ≡ true
  pub images-good : every good_cell images ≡ true
