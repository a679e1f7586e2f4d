-- `check_in_file` gives what checking promises, once the file is read. Assumes nothing.
use Rattle.std.proofs.Common.{◌≡◌, sym, ap, ◌∙◌}
use Rattle.std.proofs.lemmas.Result.{err_from_is_err_and}
use Rattle.refusals.specs.Refusals.{reply, refused}
use Rattle.refusals.specs.Refusal.{number_of}
use Rattle.comparison.specs.Comparison.{pair_refusal}
use Rattle.comparison_on_files.specs.Queries.{words_map, checked_in, bit}
use Rattle.lent_numbers.specs.Lent.{returned}
use Rattle.lent_numbers.proofs.Lent.{goes_on, still-refused, leaves-same, err-number, refused-leaves}
use Rattle.comparison_on_files.proofs.check_in_file.Goals as goal

pub returns-in_err-given : goal.returns-in_err-given
returns-in_err-given c =
    let a = c.args in
    let why = c.in_err-given.field-0.0 in
    let p : checked_in a.file.now a.p a.q a.mapping.now ≡ refused (number_of why) =
    still-refused (sym c.in_err-given.ensures) (λ r. reply (pair_refusal r a.p a.q) (words_map r a.p a.q a.mapping.now)) in
    record {
      value = err-number c.from_residual.result why (err_from_is_err_and c.from_residual.result c.from_residual.ensures.1) p;
      verdict_after = refused-leaves p bit a.verdict.now;
    }

pub returns : goal.returns
returns c =
    let a = c.args in
    let said = c.check_words.ensures in
    let p = sym (goes_on (sym c.in_ok-given.ensures) (λ r. reply (pair_refusal r a.p a.q) (words_map r a.p a.q a.mapping.now))) in
    record { value = said.value ∙ ap returned p; verdict_after = said.verdict_after ∙ leaves-same p bit a.verdict.now }
