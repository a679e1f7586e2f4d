-- What writing a record answers: what it asks, in the order of SPECIFICATION, Refusals, and the buffer after it.
use Rattle.std.specs.Prelude.{List, [], ◌∷◌, ℕ, ltb, length}
use Rattle.std.proofs.Math.Option.{Option}
use Rattle.refusals.specs.Refusals.{over_unless, Condition, first_holding, buffer_too_short, Reply, reply}
use Rattle.record.specs.declared.Record.{Record}
use Rattle.record.specs.Calls.{broken_record}
use Rattle.format.specs.File.{file_of}

-- What writing asks, with so much room: 14; 10 where the file is longer
abbrev pub write_conditions : Record → ℕ → List Condition
write_conditions r room = broken_record r ∷ (ltb room (length (file_of r)), buffer_too_short) ∷ []

-- The refusal of writing
unfoldable pub writing_refusal : Record → ℕ → Option ℕ
writing_refusal r room = first_holding (write_conditions r room)

-- Writing a record into a buffer: the refusal, or the file's length
unfoldable pub written : Record → List ℕ → Reply ℕ
written r buffer = reply (writing_refusal r (length buffer)) (length (file_of r))

-- The buffer after it
unfoldable pub after_writing : Record → List ℕ → List ℕ
after_writing r buffer = over_unless (writing_refusal r (length buffer)) (file_of r) buffer
