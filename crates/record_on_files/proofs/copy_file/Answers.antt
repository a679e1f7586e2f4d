-- `copy_file` gives the file back. Assumes nothing.
use Rattle.std.proofs.Common.{length, sym}
use Rattle.std.proofs.lemmas.Result.{err_from_is_err_and}
use Rattle.lent_numbers.specs.Lent.{fitted}
use Rattle.record_on_files.proofs.Files.{read-good, copied_is}
use Rattle.lent_numbers.proofs.Lent.{still-refused, wrote-same, wrote_err}
use Rattle.record_on_files.proofs.copy_file.Goals as goal

pub store-requires : goal.store-requires
store-requires c = read-good c.args.file.now (λ i. (c.type_inv.file i).fits) c.in_ok-read_record.field-0 c.in_ok-read_record.ensures

pub returns-in_err-read_record : goal.returns-in_err-read_record
returns-in_err-read_record c =
    wrote_err c.from_residual.result c.in_err-read_record.field-0.0 (err_from_is_err_and c.from_residual.result c.from_residual.ensures.1)
    (still-refused (sym c.in_err-read_record.ensures) (λ _. fitted (length c.args.out.now) c.args.file.now))
    c.args.out.now c.args.size.now

pub returns : goal.returns
returns c =
    let out = c.args.out.now in
    wrote-same (copied_is c.args.file.now (λ i. (c.type_inv.file i).fits) c.in_ok-read_record.field-0 c.in_ok-read_record.ensures (length out))
    out c.args.size.now _ _ _ c.store.ensures
