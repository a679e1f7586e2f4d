-- "The record" as tests on its fields: what refusal 14 judges. The lengths of the arrays are the types'.
use Rattle.std.specs.Prelude.{Bool, ◌&&◌}
use Rattle.record.specs.declared.Record.{Record}
use Rattle.record.specs.View.{schema_of}
use Rattle.lists.specs.Tests.{every}
use Rattle.query.specs.Rule.{good_relations, good_codes, good_dependencies, good_joins, good_place}

-- SPECIFICATION, The record: what refusal 14 asks of a record
unfoldable pub good_record : Record → Bool
good_record r =
    good_relations r.relations r.widths && good_codes r.coded r.codes && good_dependencies (schema_of r) r.held r.dependencies
    && good_joins (schema_of r) r.joined r.joins && every (good_place (schema_of r)) r.places
