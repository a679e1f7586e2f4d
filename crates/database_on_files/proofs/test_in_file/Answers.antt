-- `test_in_file` gives what a test of the file's record says. Assumes nothing.
use mathlib.Core.Path.{◌≡◌, sym, ap, ◌∙◌}
use Rattle.std.specs.Prelude.{Option as Maybe}
use Rattle.refusals.specs.Refusals.{◌>>=◌, gives, refused, Reply}
use Rattle.words.specs.declared.Violation.{Violation}
use Rattle.database.specs.Calls.{tested}
use Rattle.lent_numbers.specs.Lent.{returned}
use Rattle.lent_numbers.specs.Numbers.{TestNumbers, test_numbers}
use Rattle.lent_numbers.specs.internal.Results.{test_result}
use Rattle.lent_numbers.proofs.Lent.{leaves-same, err-number, goes_on, still-refused, refused-leaves}
use Rattle.database_on_files.specs.Databases.{tested_in}
use Rattle.std.proofs.lemmas.Result.{err_from_is_err_and}
use Rattle.refusals.specs.Refusal.{number_of}
use Rattle.database_on_files.proofs.test_in_file.Goals as goal

abbrev next : Maybe Violation → Reply TestNumbers
next v = gives (test_numbers v)

pub returns : goal.returns
returns c =
    let a = c.args in
    let l = c.leave_test.ensures in
    let p : test_result c.test-found.result ≡ tested_in a.file.now a.words.now =
    ap (λ (x : Reply (Maybe Violation)). x >>= next) c.test-found.ensures
    ∙ sym (goes_on (sym c.in_ok-given.ensures) (λ r. tested r a.words.now >>= next)) in
    record {
      value = l.value ∙ ap returned p;
      verdict_after = l.verdict_after ∙ leaves-same p (λ t. t.verdict) a.verdict.now;
      dependency_after = l.dependency_after ∙ leaves-same p (λ t. t.dependency) a.dependency.now;
      first_after = l.first_after ∙ leaves-same p (λ t. t.first) a.first.now;
      second_after = l.second_after ∙ leaves-same p (λ t. t.second) a.second.now;
      third_after = l.third_after ∙ leaves-same p (λ t. t.third) a.third.now;
      fourth_after = l.fourth_after ∙ leaves-same p (λ t. t.fourth) a.fourth.now;
    }

pub returns-in_err-given : goal.returns-in_err-given
returns-in_err-given c =
    let a = c.args in
    let p : tested_in a.file.now a.words.now ≡ refused (number_of c.in_err-given.field-0.0) =
    still-refused (sym c.in_err-given.ensures) (λ r. tested r a.words.now >>= next) in
    record {
      value = err-number c.from_residual.result c.in_err-given.field-0.0 (err_from_is_err_and c.from_residual.result c.from_residual.ensures.1) p;
      verdict_after = refused-leaves p (λ t. t.verdict) a.verdict.now;
      dependency_after = refused-leaves p (λ t. t.dependency) a.dependency.now;
      first_after = refused-leaves p (λ t. t.first) a.first.now;
      second_after = refused-leaves p (λ t. t.second) a.second.now;
      third_after = refused-leaves p (λ t. t.third) a.third.now;
      fourth_after = refused-leaves p (λ t. t.fourth) a.fourth.now;
    }
