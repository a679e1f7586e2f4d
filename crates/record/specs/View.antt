-- The meaning of the record's fields: its schema, its pairs of codes, and its dependencies of both kinds.
use Rattle.std.specs.Prelude.{List, ℕ, take}
use Rattle.record.specs.declared.Record.{Record}
use Rattle.theory.specs.Database as database
use Rattle.theory.specs.Codes.{CodePair}
use Rattle.query.specs.View.{held_of, held_joins, held_codes}

-- The widths of the relations that a record has: its schema
abbrev pub schema_of : Record → List ℕ
schema_of r = take r.relations r.widths

-- The pairs of codes that a record holds
abbrev pub codes_of : Record → List CodePair
codes_of r = held_codes r.codes r.coded

-- The functional dependencies that a record holds, in held order
abbrev pub dependencies_of : Record → List database.Dependency
dependencies_of r = held_of r.dependencies r.held

-- The join dependencies that it holds, in held order
abbrev pub joins_of : Record → List database.JoinDependency
joins_of r = held_joins r.joins r.joined
