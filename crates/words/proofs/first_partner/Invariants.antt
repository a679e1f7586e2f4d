-- `first_partner` is the first row that breaks the dependency with the row at `a`.
-- Invariant: the search from the walk's place on finds what the search from the start finds.
-- Assumes nothing.
use mathlib.Core.Path.{◌≡◌}
use Rattle.theory.specs.Chase.{first_passing}
use Rattle.query.specs.View.{dependency_of}
use Rattle.words.specs.internal.Rows.{row_read, rows_read}
use Rattle.words.specs.Testing.{breaks_with}
use Rattle.codes.specs.internal.Codes.{codes_in}
use Rattle.words.proofs.first_partner.Given as goal

abbrev pub invariant-loop-row : goal.invariant-loop-row
invariant-loop-row l = (l.row-iterator.schema.now ≡ l.schema) × (l.row-iterator.words.now ≡ l.words)
    × (first_passing (breaks_with (dependency_of l.d) (row_read (codes_in l.codes) l.schema l.words l.a))
    (rows_read (codes_in l.codes) l.schema l.words l.fn.from.at l.fn.from.number)
    ≡ first_passing (breaks_with (dependency_of l.d) (row_read (codes_in l.codes) l.schema l.words l.a))
    (rows_read (codes_in l.codes) l.schema l.words l.row-iterator.place.at l.row-iterator.place.number))
