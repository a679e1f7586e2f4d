-- `test_in_file_lent` gives what the test says, once the file is read. Assumes nothing.
use mathlib.Core.Path.{◌≡◌, refl, sym, ap, ◌∙◌}
use mathlib.Core.List.{List}
use Prim.Native.Nat.{ℕ}
use Rattle.admission.specs.Conditions.{test_conditions}
use Rattle.database.specs.Calls.{tested, UnusedIfRefused}
use Rattle.lent_numbers.specs.Numbers.{TestNumbers, test_numbers}
use Rattle.lent_numbers.specs.internal.Results.{test_result}
use Rattle.database_on_files.specs.Databases.{tested_in, UnusedInFile}
use Rattle.std.specs.Prelude.{Option as Maybe}
use Rattle.refusals.specs.Refusals.{Reply, gives, refused, ◌>>=◌}
use Rattle.words.specs.declared.Violation.{Violation}
use Rattle.lent_numbers.specs.Lent.{returned, leaves}
use Rattle.lent_numbers.proofs.Lent.{err-number, goes_on, still-refused, refused-leaves}
use Rattle.database_on_files.proofs.Memory.{unused-read}
use Rattle.std.proofs.lemmas.Result.{err_from_is_err_and}
use Rattle.refusals.specs.Refusal.{number_of}
use Rattle.database_on_files.proofs.test_in_file_lent.Goals as goal
use Rattle.database_on_files.proofs.test_in_file_lent.Goals.{After-test_lent-found}

-- Once the file is read the test is that of its record
of-record : (c : After-test_lent-found) → test_result c.test_lent-found.result ≡ tested_in c.args.file.now c.args.words.now
of-record c =
    let s = c.args in
    let next : Maybe Violation → Reply TestNumbers = λ v. gives (test_numbers v) in
    ap (λ (x : Reply (Maybe Violation)). x >>= next) c.test_lent-found.ensures.result_value
    ∙ sym (goes_on (sym c.in_ok-given.ensures) (λ r. tested r s.words.now >>= next))

-- Working memory is as the test on its record leaves it
unused : (c : After-test_lent-found) (before after : List ℕ)
    → UnusedIfRefused (test_conditions c.in_ok-given.given c.args.words.now) before after
    → UnusedInFile c.args.file.now (λ r. test_conditions r c.args.words.now) before after
unused c before after =
    let s = c.args in
    unused-read s.file.now c.in_ok-given.given c.in_ok-given.ensures
    (λ r. test_conditions r s.words.now) before after

pub returns : goal.returns
returns c =
    let k = (goal.at.returns c).After-test_lent-found in
    let p = of-record k in
    let a = c.args in
    let l = c.leave_test.ensures in
    let m = c.test_lent-found.ensures in
    record {
      value = l.value ∙ ap returned p;
      verdict_after = l.verdict_after ∙ ap (λ (x : Reply TestNumbers). leaves x (λ t. t.verdict) a.verdict.now) p;
      dependency_after = l.dependency_after ∙ ap (λ (x : Reply TestNumbers). leaves x (λ t. t.dependency) a.dependency.now) p;
      first_after = l.first_after ∙ ap (λ (x : Reply TestNumbers). leaves x (λ t. t.first) a.first.now) p;
      second_after = l.second_after ∙ ap (λ (x : Reply TestNumbers). leaves x (λ t. t.second) a.second.now) p;
      third_after = l.third_after ∙ ap (λ (x : Reply TestNumbers). leaves x (λ t. t.third) a.third.now) p;
      fourth_after = l.fourth_after ∙ ap (λ (x : Reply TestNumbers). leaves x (λ t. t.fourth) a.fourth.now) p;
      unused_in_file = unused k _ _ m.unused_if_refused;
      unused_in_file_2 = unused k _ _ m.unused_if_refused_2;
    }

pub returns-in_err-given : goal.returns-in_err-given
returns-in_err-given c =
    let a = c.args in
    let p : tested_in a.file.now a.words.now ≡ refused (number_of c.in_err-given.field-0.0) =
    still-refused (sym c.in_err-given.ensures) (λ r. tested r a.words.now >>= λ v. gives (test_numbers v)) in
    record {
      value = err-number c.from_residual.result c.in_err-given.field-0.0 (err_from_is_err_and c.from_residual.result c.from_residual.ensures.1) p;
      verdict_after = refused-leaves p (λ t. t.verdict) a.verdict.now;
      dependency_after = refused-leaves p (λ t. t.dependency) a.dependency.now;
      first_after = refused-leaves p (λ t. t.first) a.first.now;
      second_after = refused-leaves p (λ t. t.second) a.second.now;
      third_after = refused-leaves p (λ t. t.third) a.third.now;
      fourth_after = refused-leaves p (λ t. t.fourth) a.fourth.now;
      unused_in_file = λ n r. refl;
      unused_in_file_2 = λ n r. refl;
    }
