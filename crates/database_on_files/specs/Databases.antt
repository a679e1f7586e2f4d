-- Testing a database and evaluating a place on it, on files.
use Rattle.std.specs.Prelude.{◌≡◌, List, ℕ}
use Rattle.std.proofs.Math.Option.{some}
use Rattle.record.specs.declared.Record.{Record}
use Rattle.refusals.specs.Refusals.{Condition, first_holding, Reply, gives, reply, refusal_in, ◌>>=◌}
use Rattle.format.specs.File.{read_file}
use Rattle.database.specs.Calls.{tested, evaluated, buffer_then, counted}
use Rattle.lent_numbers.specs.Lent.{leaves}
use Rattle.lent_numbers.specs.Numbers.{TestNumbers, test_numbers}

-- The test of a database against the dependencies of the record of a file
abbrev pub tested_in : List ℕ → List ℕ → Reply TestNumbers
tested_in file words = read_file file >>= λ r. tested r words >>= λ v. gives (test_numbers v)

-- The count of the answers of a place of the record of a file, for a buffer with so much room
abbrev pub evaluated_in : List ℕ → ℕ → List ℕ → ℕ → Reply ℕ
evaluated_in file place words room = read_file file >>= λ r. evaluated r place words room

-- The buffer after it: a refused file leaves it as it was
abbrev pub answers_left : List ℕ → ℕ → List ℕ → List ℕ → List ℕ
answers_left file place words buffer = leaves (read_file file) (λ r. buffer_then r place words buffer) buffer

-- The count of the answers of a place of the record of a file
abbrev pub counted_in : List ℕ → ℕ → List ℕ → Reply ℕ
counted_in file place words = read_file file >>= λ r. counted r place words

-- Working memory lent to a call on a file: where the file is refused, or the call by one of these conditions on its record, it is as it was.
-- What it holds after another call is free
abbrev pub UnusedInFile : List ℕ → (Record → List Condition) → List ℕ → List ℕ → Type 0
UnusedInFile file conditions before after =
    (n : ℕ) → refusal_in (read_file file >>= λ r. reply (first_holding (conditions r)) r) ≡ some n → after ≡ before
