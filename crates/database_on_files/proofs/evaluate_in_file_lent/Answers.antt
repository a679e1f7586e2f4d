-- `evaluate_in_file_lent` gives the answers and their count, once the file is read. Assumes nothing.
use mathlib.Core.Path.{◌≡◌, refl, sym, ap, ◌∙◌}
use mathlib.Core.List.{List}
use lib.ListN.{length}
use Prim.Native.Nat.{ℕ}
use Rattle.admission.specs.Conditions.{search_conditions}
use Rattle.refusals.specs.Refusal.{reply_of}
use Rattle.database.specs.Calls.{evaluated, buffer_then, UnusedIfRefused}
use Rattle.database_on_files.specs.Databases.{evaluated_in, answers_left, UnusedInFile}
use Rattle.refusals.specs.Refusals.{Reply, refused}
use Rattle.lent_numbers.specs.Lent.{returned, leaves}
use Rattle.lent_numbers.proofs.Lent.{done-leaves, err-number, goes_on, still-refused, refused-leaves}
use Rattle.database_on_files.proofs.Memory.{unused-read}
use Rattle.std.proofs.lemmas.Result.{err_from_is_err_and}
use Rattle.refusals.specs.Refusal.{number_of}
use Rattle.database_on_files.proofs.evaluate_in_file_lent.Goals as goal
use Rattle.database_on_files.proofs.evaluate_in_file_lent.Goals.{After-evaluate_lent-done}

-- Once the file is read the count is that of its record
of-record : (c : After-evaluate_lent-done)
    → reply_of c.evaluate_lent-done.result ≡ evaluated_in c.args.file.now c.args.place c.args.words.now (length c.args.answers.now)
of-record c =
    let s = c.args in
    c.evaluate_lent-done.ensures.result_value
    ∙ sym (goes_on (sym c.in_ok-given.ensures) (λ r. evaluated r s.place s.words.now (length s.answers.now)))

-- And the answers are those of its place
written : (c : After-evaluate_lent-done)
    → buffer_then c.in_ok-given.given c.args.place c.args.words.now c.args.answers.now
    ≡ answers_left c.args.file.now c.args.place c.args.words.now c.args.answers.now
written c =
    let s = c.args in
    done-leaves (sym c.in_ok-given.ensures)
    (λ r. buffer_then r s.place s.words.now s.answers.now) s.answers.now

-- Working memory is as the call on its record leaves it
unused : (c : After-evaluate_lent-done) (before after : List ℕ)
    → UnusedIfRefused (search_conditions c.in_ok-given.given c.args.place c.args.words.now) before after
    → UnusedInFile c.args.file.now (λ r. search_conditions r c.args.place c.args.words.now) before after
unused c before after =
    let s = c.args in
    unused-read s.file.now c.in_ok-given.given c.in_ok-given.ensures
    (λ r. search_conditions r s.place s.words.now) before after

pub returns : goal.returns
returns c =
    let k = (goal.at.returns c).After-evaluate_lent-done in
    let p = of-record k in
    let l = c.leave_count.ensures in
    let m = c.evaluate_lent-done.ensures in
    record {
      value = l.value ∙ ap returned p;
      answers_after = m.buffer_after ∙ written k;
      count_after = l.count_after ∙ ap (λ (x : Reply ℕ). leaves x (λ n. n) c.args.count.now) p;
      unused_in_file = unused k _ _ m.unused_if_refused;
      unused_in_file_2 = unused k _ _ m.unused_if_refused_2;
      unused_in_file_3 = unused k _ _ m.unused_if_refused_3;
      unused_in_file_4 = unused k _ _ m.unused_if_refused_4;
    }

pub returns-in_err-given : goal.returns-in_err-given
returns-in_err-given c =
    let s = c.args in
    let p : evaluated_in s.file.now s.place s.words.now (length s.answers.now) ≡ refused (number_of c.in_err-given.field-0.0) =
    still-refused (sym c.in_err-given.ensures) (λ r. evaluated r s.place s.words.now (length s.answers.now)) in
    record {
      value = err-number c.from_residual.result c.in_err-given.field-0.0 (err_from_is_err_and c.from_residual.result c.from_residual.ensures.1) p;
      answers_after =
          refused-leaves (sym c.in_err-given.ensures)
          (λ r. buffer_then r s.place s.words.now s.answers.now) s.answers.now;
      count_after = refused-leaves p (λ n. n) s.count.now;
      unused_in_file = λ n r. refl;
      unused_in_file_2 = λ n r. refl;
      unused_in_file_3 = λ n r. refl;
      unused_in_file_4 = λ n r. refl;
    }
