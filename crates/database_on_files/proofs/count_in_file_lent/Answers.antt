-- `count_in_file_lent` gives the count of the answers, once the file is read. Assumes nothing.
use mathlib.Core.Path.{◌≡◌, refl, sym, ap, ◌∙◌}
use mathlib.Core.List.{List}
use Prim.Native.Nat.{ℕ}
use Rattle.admission.specs.Conditions.{search_conditions}
use Rattle.refusals.specs.Refusal.{reply_of}
use Rattle.database.specs.Calls.{counted, UnusedIfRefused}
use Rattle.database_on_files.specs.Databases.{counted_in, UnusedInFile}
use Rattle.refusals.specs.Refusals.{Reply, refused}
use Rattle.lent_numbers.specs.Lent.{returned, leaves}
use Rattle.lent_numbers.proofs.Lent.{err-number, goes_on, still-refused, refused-leaves}
use Rattle.database_on_files.proofs.Memory.{unused-read}
use Rattle.std.proofs.lemmas.Result.{err_from_is_err_and}
use Rattle.refusals.specs.Refusal.{number_of}
use Rattle.database_on_files.proofs.count_in_file_lent.Goals as goal
use Rattle.database_on_files.proofs.count_in_file_lent.Goals.{After-count_lent-done}

-- Once the file is read the count is that of its record
of-record : (c : After-count_lent-done)
    → reply_of c.count_lent-done.result ≡ counted_in c.args.file.now c.args.place c.args.words.now
of-record c =
    let s = c.args in
    c.count_lent-done.ensures.result_value
    ∙ sym (goes_on (sym c.in_ok-given.ensures) (λ r. counted r s.place s.words.now))

-- Working memory is as the call on its record leaves it
unused : (c : After-count_lent-done) (before after : List ℕ)
    → UnusedIfRefused (search_conditions c.in_ok-given.given c.args.place c.args.words.now) before after
    → UnusedInFile c.args.file.now (λ r. search_conditions r c.args.place c.args.words.now) before after
unused c before after =
    let s = c.args in
    unused-read s.file.now c.in_ok-given.given c.in_ok-given.ensures
    (λ r. search_conditions r s.place s.words.now) before after

pub returns : goal.returns
returns c =
    let k = (goal.at.returns c).After-count_lent-done in
    let p = of-record k in
    let l = c.leave_count.ensures in
    let m = c.count_lent-done.ensures in
    record {
      value = l.value ∙ ap returned p;
      count_after = l.count_after ∙ ap (λ (x : Reply ℕ). leaves x (λ n. n) c.args.count.now) p;
      unused_in_file = unused k _ _ m.unused_if_refused;
      unused_in_file_2 = unused k _ _ m.unused_if_refused_2;
      unused_in_file_3 = unused k _ _ m.unused_if_refused_3;
      unused_in_file_4 = unused k _ _ m.unused_if_refused_4;
    }

pub returns-in_err-given : goal.returns-in_err-given
returns-in_err-given c =
    let s = c.args in
    let p : counted_in s.file.now s.place s.words.now ≡ refused (number_of c.in_err-given.field-0.0) =
    still-refused (sym c.in_err-given.ensures) (λ r. counted r s.place s.words.now) in
    record {
      value = err-number c.from_residual.result c.in_err-given.field-0.0 (err_from_is_err_and c.from_residual.result c.from_residual.ensures.1) p;
      count_after = refused-leaves p (λ n. n) s.count.now;
      unused_in_file = λ n r. refl;
      unused_in_file_2 = λ n r. refl;
      unused_in_file_3 = λ n r. refl;
      unused_in_file_4 = λ n r. refl;
    }
