-- A stored query as the code of the chase reads it: its rows with all their 8 cells, and what the search for a step answers.
-- A column that a row's relation does not have holds constant 0, so the chase of these wide rows is that of the rows.
use Rattle.std.specs.Prelude as prelude
use Rattle.std.specs.Prelude.{◌≡◌, None, Some, Bool, true, ◌&&◌, List, [], ◌∷◌, ℕ, zero, suc, ◌*◌, ◌≤◌, ◌<◌, length, take, drop, get_or}
use Rattle.std.proofs.Math.Option.{Option, none, some, map}
use Rattle.query.specs.declared.Entry.{Entry}
use Rattle.query.specs.declared.Cell.{Cell}
use Rattle.query.specs.Types.{Query}
use Rattle.query.specs.Types.{Tableau}
use Rattle.query.specs.declared.Dependency.{Dependency}
use Rattle.query.specs.View.{entry_of, entries_of}
use Rattle.query.specs.Rule.{good_entry, good_cell, blank_cell, no_dependency}
use Rattle.lists.specs.Tests.{every}
use Rattle.theory.specs.Query as theory
use Rattle.theory.specs.Database as database
use Rattle.theory.specs.Chase as chasing

-- ---- the wide rows

-- The 8 cells of row i, as a row of the given relation
abbrev pub row_at : ℕ → List Cell → ℕ → theory.Row theory.Entry
row_at relation cells i = record { relation = relation; values = entries_of (take 8 (drop (8 * i) cells)) }

-- The same of its own relation, of those given
abbrev pub row_in : List ℕ → List Cell → ℕ → theory.Row theory.Entry
row_in relations cells i = row_at (get_or relations i 0) cells i

-- Row i of a stored query with all its 8 cells
abbrev pub wide_row : Query → ℕ → theory.Row theory.Entry
wide_row q i = row_in q.relations q.cells i

-- n rows of a stored query, from row i on
unfoldable pub wide_rows : Query → ℕ → ℕ → List (theory.Row theory.Entry)
wide_rows q i zero = []
wide_rows q i (suc n) = wide_row q i ∷ wide_rows q (suc i) n

-- The query of the wide rows
abbrev pub wide_query : Query → theory.Query
wide_query q = record { head = entries_of (take q.arity q.head); rows = wide_rows q 0 q.size }

-- ---- the search

-- The entries of a broken pair in the right column
abbrev pub differing : (database.Dependency × (theory.Row theory.Entry × theory.Row theory.Entry)) → theory.Entry × theory.Entry
differing found =
    (theory.column (theory.constant 0) found.1.0 found.0.right, theory.column (theory.constant 0) found.1.1 found.0.right)

-- What the search should find
abbrev pub first_differing : List database.Dependency → List (theory.Row theory.Entry) → Option (theory.Entry × theory.Entry)
first_differing ds rows = map differing (chasing.first_broken ds rows)

-- What the answer of the search stands for
abbrev pub next_step_of : prelude.Option (Entry × Entry) → Option (theory.Entry × theory.Entry)
next_step_of None = none
next_step_of (Some found) = some (entry_of found.0, entry_of found.1)

-- Whether the entries found are within the limits (SPECIFICATION, Limits)
abbrev pub good_next_step : prelude.Option (Entry × Entry) → Bool
good_next_step None = true
good_next_step (Some found) = good_entry found.0 && good_entry found.1

-- ---- what the search asks

-- Two of 24 rows, of which row i is of a dependency's relation
pub record Laid (relations : List ℕ) (d : Dependency) (i j : ℕ) : Type 0 where
  pub first_fits : i < 24
  pub second_fits : j < 24
  pub right-fits : d.right < 8
  pub first_of : get_or relations i 0 ≡ d.relation

-- What the chase asks of its caller, so that each cell that it reads is there and within the limits, and those not in use hold no variable: every good
-- tableau and good dependencies have it
pub record Chasable (t : Tableau) (dependencies : List Dependency) : Type 0 where
  pub arity-fits : t.arity ≤ 8
  pub size_fits : t.size ≤ 24
  pub right-fits : (d : ℕ) → d < length dependencies → (get_or dependencies d no_dependency).right < 8
  pub cells-good : every good_cell t.cells ≡ true
  pub rest-blank : every blank_cell (drop (8 * t.size) t.cells) ≡ true
