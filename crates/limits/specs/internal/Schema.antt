-- The widths of the relations that a schema has.
use Rattle.std.specs.Prelude.{List, ℕ, take}
use Rattle.limits.specs.declared.schema.Schema.{Schema}

-- One width a relation
abbrev pub widths_in : Schema → List ℕ
widths_in s = take s.relations s.widths
