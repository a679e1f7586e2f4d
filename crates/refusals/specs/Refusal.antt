-- What the code's refusals say: the number of each, and the reply of a call that answers a value or a refusal.
use Rattle.std.specs.Prelude.{ℕ, Result, Ok, Err}
use Rattle.refusals.specs.declared.Refusal.{Refusal}
use Rattle.refusals.specs.declared.Refusal.TheVariants as case
use Rattle.refusals.specs.Refusals.{bad_directory, bad_offsets, bad_relations, bad_dependency, bad_join, bad_query, unsafe_head, no_such_place}
use Rattle.refusals.specs.Refusals.{heads_differ, bad_database, buffer_too_short, place_vacant, place_filled, dependencies_full, bad_record, joins_full}
use Rattle.refusals.specs.Refusals.{bad_code, codes_full}
use Rattle.refusals.specs.Refusals.{too_many_rows, Reply, refused, gives}

-- The number of each refusal
abbrev pub number_of : Refusal → ℕ
number_of case.BadDirectory = bad_directory
number_of case.BadOffsets = bad_offsets
number_of case.BadRelations = bad_relations
number_of case.BadDependency = bad_dependency
number_of case.BadQuery = bad_query
number_of case.UnsafeHead = unsafe_head
number_of case.NoSuchPlace = no_such_place
number_of case.HeadsDiffer = heads_differ
number_of case.BadDatabase = bad_database
number_of case.BufferTooShort = buffer_too_short
number_of case.PlaceVacant = place_vacant
number_of case.PlaceFilled = place_filled
number_of case.DependenciesFull = dependencies_full
number_of case.BadRecord = bad_record
number_of case.BadJoin = bad_join
number_of case.JoinsFull = joins_full
number_of case.TooManyRows = too_many_rows
number_of case.BadCode = bad_code
number_of case.CodesFull = codes_full

-- What a call says that answers a value or a refusal: it gives the value, or it is refused with the number
abbrev pub reply_of : {A : Type 0} → Result A Refusal → Reply A
reply_of (Ok a) = gives a
reply_of (Err refusal) = refused (number_of refusal)
