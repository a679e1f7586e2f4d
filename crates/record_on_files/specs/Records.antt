-- The calls on the record alone, on files: a record comes as the bytes of its file, and the file of the record after the call is given.
-- A file that cannot be read is refused with reading's number before anything else.
use Rattle.std.specs.Prelude.{true, cond, List, ℕ, ltb, length}
use Rattle.refusals.specs.Refusals.{◌>>=◌, gives, no_such_place, refused, Reply}
use Rattle.lists.specs.Over.{pad}
use Rattle.query.specs.declared.JoinDependency.{JoinDependency}
use Rattle.record.specs.declared.Record.{Record}
use Rattle.record.specs.View.{schema_of}
use Rattle.record.specs.Calls.{add_code, add_dependency, add_join, put_query}
use Rattle.record_calls.specs.Calls.{open_record, drop_query, determined_columns}
use Rattle.format.specs.File.{read_place, read_file, file_of}
use Rattle.lent_numbers.specs.Lent.{fitted}

-- The record that a call leaves, or its refusal
abbrev pub result_of : Reply (Unit {0}) × Record → Reply Record
result_of said = said.0 >>= λ _. gives said.1

-- The file of a record, for a buffer with so much room
abbrev pub file_fitted : ℕ → Reply Record → Reply (List ℕ)
file_fitted room result = result >>= λ r. fitted room (file_of r)

-- The file as it is, if it can be read
abbrev pub copied : List ℕ → ℕ → Reply (List ℕ)
copied file room = read_file file >>= λ _. fitted room file

-- The file of a record opened from relation widths
abbrev pub opened : List ℕ → ℕ → Reply (List ℕ)
opened widths room = file_fitted room (result_of (open_record widths))

-- The file with a pair of codes added
abbrev pub added_code : List ℕ → ℕ → ℕ → ℕ → Reply (List ℕ)
added_code file old current room = file_fitted room (read_file file >>= λ r. result_of (add_code r (record { old = old; current = current })))

-- The file with a functional dependency added
abbrev pub added : List ℕ → ℕ → ℕ → ℕ → ℕ → Reply (List ℕ)
added file relation left right room =
    file_fitted room (read_file file >>= λ r. result_of (add_dependency r (record { relation = relation; left = left; right = right })))

-- The join dependency on these sets: as many as there are, which is no good one unless they are 2 to 4
abbrev pub join_with : ℕ → List ℕ → JoinDependency
join_with relation sets = record { relation = relation; count = length sets; sets = pad 4 0 sets }

-- The file with a join dependency added
abbrev pub added_join : List ℕ → ℕ → List ℕ → ℕ → Reply (List ℕ)
added_join file relation sets room = file_fitted room (read_file file >>= λ r. result_of (add_join r (join_with relation sets)))

-- A record with the query of a query part put into a place. Refused: no_such_place; the query part's bad_query or unsafe_head, where 255 alone is no query;
-- place_filled
abbrev pub put_part : ℕ → List ℕ → Record → Reply Record
put_part place part r =
    cond (ltb place 8) (read_place (schema_of r) true part >>= λ p. result_of (put_query r place p.query)) (refused no_such_place)

-- The file with a query put into a vacant place
abbrev pub put_in : List ℕ → ℕ → List ℕ → ℕ → Reply (List ℕ)
put_in file place part room = file_fitted room (read_file file >>= put_part place part)

-- The file with a place dropped
abbrev pub dropped : List ℕ → ℕ → ℕ → Reply (List ℕ)
dropped file place room = file_fitted room (read_file file >>= λ r. result_of (drop_query r place))

-- The columns that a left set determines, with their number
abbrev pub determined_in : List ℕ → ℕ → ℕ → Reply (ℕ × ℕ)
determined_in file relation left = read_file file >>= λ r. determined_columns r relation left
