-- `store_outcome` stores the record of a call that is done. Assumes nothing.
use Rattle.std.proofs.Common.{length}
use Rattle.std.proofs.lemmas.Result.{err_from_is_err_and}
use Rattle.lent_numbers.specs.Lent.{fitted}
use Rattle.format.specs.File.{file_of}
use Rattle.record_on_files.proofs.Files.{result-done, result-refused}
use Rattle.lent_numbers.proofs.Lent.{goes_on, still-refused, wrote-same, wrote_err}
use Rattle.record_on_files.proofs.store_outcome.Goals as goal

pub returns-in_err-outcome : goal.returns-in_err-outcome
returns-in_err-outcome c =
    let why = c.in_err-outcome.field-0.0 in
    wrote_err c.from_residual.result why (err_from_is_err_and c.from_residual.result c.from_residual.ensures.1)
    (still-refused (result-refused c.args.outcome why c.in_err-outcome.was) (λ r. fitted (length c.args.out.now) (file_of r)))
    c.args.out.now c.args.size.now

pub returns : goal.returns
returns c =
    let out = c.args.out.now in
    wrote-same (goes_on (result-done c.args.outcome c.in_ok-outcome.was) (λ r. fitted (length out) (file_of r))) out
    c.args.size.now _ _ _ c.store.ensures
