-- The numbers of what a test says.
use Rattle.std.specs.Prelude.{Result, Option as Maybe}
use Rattle.refusals.specs.Refusals.{Reply, gives, ◌>>=◌}
use Rattle.refusals.specs.declared.Refusal.{Refusal}
use Rattle.refusals.specs.Refusal.{reply_of}
use Rattle.words.specs.declared.Violation.{Violation}
use Rattle.lent_numbers.specs.Numbers.{TestNumbers, test_numbers}

-- These numbers, unless it is refused
abbrev pub test_result : Result (Maybe Violation) Refusal → Reply TestNumbers
test_result said = reply_of said >>= λ v. gives (test_numbers v)
