-- The never query of any room.
use Rattle.std.specs.Prelude.{ℕ, replicate}
use Rattle.query.specs.declared.ConjunctiveQuery.{ConjunctiveQuery}
use Rattle.query.specs.Rule.{no_cell}

-- The never query with a head of n entries and room for some rows and cells
abbrev pub never_of : (rows cells : ℕ) → ℕ → ConjunctiveQuery rows cells
never_of rows cells n = record { arity = n; size = 0; head = replicate 8 no_cell; relations = replicate rows 0; cells = replicate cells no_cell }
