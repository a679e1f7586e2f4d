-- `put_in_file` gives the file with the query, once the file is read. Assumes nothing.
use Rattle.std.proofs.Common.{length, sym, ap, ◌∙◌}
use Rattle.std.proofs.lemmas.Result.{err_from_is_err_and}
use Rattle.lent_numbers.specs.Lent.{fitted}
use Rattle.format.specs.File.{file_of}
use Rattle.record_on_files.specs.Records.{file_fitted, put_part}
use Rattle.record_on_files.proofs.Files.{read-good}
use Rattle.lent_numbers.proofs.Lent.{goes_on, still-refused, wrote-same, wrote_err}
use Rattle.record_on_files.proofs.put_in_file.Goals as goal

pub put_part-requires : goal.put_part-requires
put_part-requires c = read-good c.args.file.now (λ i. (c.type_inv.file i).fits) c.in_ok-given.given c.in_ok-given.ensures

pub returns-in_err-given : goal.returns-in_err-given
returns-in_err-given c =
    wrote_err c.from_residual.result c.in_err-given.field-0.0 (err_from_is_err_and c.from_residual.result c.from_residual.ensures.1)
    (still-refused (still-refused (sym c.in_err-given.ensures) (put_part c.args.place c.args.query.now)) (λ r. fitted (length c.args.out.now) (file_of r)))
    c.args.out.now c.args.size.now

pub returns : goal.returns
returns c =
    let out = c.args.out.now in
    wrote-same (ap (file_fitted (length out)) (goes_on (sym c.in_ok-given.ensures) (put_part c.args.place c.args.query.now) ∙ sym c.put_part.ensures.0))
    out c.args.size.now _ _ _ c.store_outcome.ensures
