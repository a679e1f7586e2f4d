-- `count_in_file` gives the count of the answers, once the file is read. Assumes nothing.
use mathlib.Core.Path.{◌≡◌, sym, ap, ◌∙◌}
use Rattle.refusals.specs.Refusal.{reply_of}
use Rattle.database.specs.Calls.{counted}
use Rattle.database_on_files.specs.Databases.{counted_in}
use Rattle.refusals.specs.Refusals.{refused}
use Rattle.lent_numbers.specs.Lent.{returned}
use Rattle.lent_numbers.proofs.Lent.{leaves-same, err-number, goes_on, still-refused, refused-leaves}
use Rattle.std.proofs.lemmas.Result.{err_from_is_err_and}
use Rattle.refusals.specs.Refusal.{number_of}
use Rattle.database_on_files.proofs.count_in_file.Goals as goal

pub returns : goal.returns
returns c =
    let a = c.args in
    let l = c.leave_count.ensures in
    let p : reply_of c.count-done.result ≡ counted_in a.file.now a.place a.words.now =
    c.count-done.ensures ∙ sym (goes_on (sym c.in_ok-given.ensures) (λ r. counted r a.place a.words.now)) in
    record {
      value = l.value ∙ ap returned p;
      count_after = l.count_after ∙ leaves-same p (λ n. n) a.count.now;
    }

pub returns-in_err-given : goal.returns-in_err-given
returns-in_err-given c =
    let a = c.args in
    let p : counted_in a.file.now a.place a.words.now ≡ refused (number_of c.in_err-given.field-0.0) =
    still-refused (sym c.in_err-given.ensures) (λ r. counted r a.place a.words.now) in
    record {
      value = err-number c.from_residual.result c.in_err-given.field-0.0 (err_from_is_err_and c.from_residual.result c.from_residual.ensures.1) p;
      count_after = refused-leaves p (λ n. n) a.count.now;
    }
