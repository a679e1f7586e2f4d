-- `add_code_in_file` gives the file with the pair of codes, once the file is read. Assumes nothing.
use Rattle.std.proofs.Common.{length, sym, ap, ◌∙◌}
use Rattle.std.proofs.lemmas.Result.{err_from_is_err_and}
use Rattle.lent_numbers.specs.Lent.{fitted}
use Rattle.format.specs.File.{file_of}
use Rattle.record.specs.Calls.{add_code}
use Rattle.record_on_files.specs.Records.{result_of, file_fitted}
use Rattle.record_on_files.proofs.Files.{read-good, read-codes-long}
use Rattle.record_on_files.proofs.Kept.{code-sound}
use Rattle.lent_numbers.proofs.Lent.{goes_on, still-refused, wrote-same, wrote_err}
use Rattle.record_on_files.proofs.add_code_in_file.Goals as goal

pub store_outcome-requires : goal.store_outcome-requires
store_outcome-requires c =
    code-sound c.in_ok-given.given (read-good c.args.file.now (λ i. (c.type_inv.file i).fits) c.in_ok-given.given c.in_ok-given.ensures)
    _ c.add_code.result (read-codes-long c.args.file.now (λ i. (c.type_inv.file i).fits) c.in_ok-given.given c.in_ok-given.ensures) c.add_code.ensures

pub returns-in_err-given : goal.returns-in_err-given
returns-in_err-given c =
    wrote_err c.from_residual.result c.in_err-given.field-0.0 (err_from_is_err_and c.from_residual.result c.from_residual.ensures.1)
    (still-refused (still-refused (sym c.in_err-given.ensures) (λ r. result_of (add_code r (record { old = c.args.old; current = c.args.current })))) (λ r. fitted (length c.args.out.now) (file_of r)))
    c.args.out.now c.args.size.now

pub returns : goal.returns
returns c =
    let out = c.args.out.now in
    wrote-same (ap (file_fitted (length out)) (goes_on (sym c.in_ok-given.ensures) (λ r. result_of (add_code r (record { old = c.args.old; current = c.args.current }))) ∙ ap result_of (sym c.add_code.ensures)))
    out c.args.size.now _ _ _ c.store_outcome.ensures
