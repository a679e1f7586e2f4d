-- `determined_in_file` gives the columns and their number, once the file is read. Assumes nothing.
use Rattle.std.proofs.Common.{◌≡◌, sym, ap, ◌∙◌}
use Rattle.std.proofs.lemmas.Result.{err_from_is_err_and}
use Rattle.refusals.specs.Refusals.{refused}
use Rattle.refusals.specs.Refusal.{number_of}
use Rattle.record_calls.specs.Calls.{columns_reply, determined_columns}
use Rattle.record_on_files.specs.Records.{determined_in}
use Rattle.lent_numbers.specs.Lent.{returned}
use Rattle.lent_numbers.proofs.Lent.{goes_on, still-refused, leaves-same, err-number, refused-leaves}
use Rattle.record_on_files.proofs.determined_in_file.Goals as goal

pub returns-in_err-given : goal.returns-in_err-given
returns-in_err-given c =
    let a = c.args in
    let why = c.in_err-given.field-0.0 in
    let p : determined_in a.file.now a.relation a.left ≡ refused (number_of why) =
    still-refused (sym c.in_err-given.ensures) (λ r. determined_columns r a.relation a.left) in
    record {
      value = err-number c.from_residual.result why (err_from_is_err_and c.from_residual.result c.from_residual.ensures.1) p;
      columns_after = refused-leaves p (λ t. t.0) a.columns.now;
      count_after = refused-leaves p (λ t. t.1) a.count.now;
    }

pub returns : goal.returns
returns c =
    let a = c.args in
    let l = c.leave_columns.ensures in
    let p : columns_reply c.determined.result ≡ determined_in a.file.now a.relation a.left =
    c.determined.ensures ∙ sym (goes_on (sym c.in_ok-given.ensures) (λ r. determined_columns r a.relation a.left)) in
    record {
      value = l.value ∙ ap returned p;
      columns_after = l.columns_after ∙ leaves-same p (λ t. t.0) a.columns.now;
      count_after = l.count_after ∙ leaves-same p (λ t. t.1) a.count.now;
    }
