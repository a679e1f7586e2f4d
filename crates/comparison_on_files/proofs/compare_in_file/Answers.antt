-- `compare_in_file` gives what comparing promises, once the file is read. Assumes nothing.
use Rattle.std.proofs.Common.{sym}
use Rattle.std.proofs.lemmas.Result.{err_from_is_err_and}
use Rattle.record_on_files.proofs.Files.{read-good}
use Rattle.comparison_on_files.proofs.Verdicts.{compare-refused}
use Rattle.comparison_on_files.proofs.compare_in_file.Goals as goal

pub schema-requires : goal.schema-requires
schema-requires c = read-good c.args.file.now (λ i. (c.type_inv.file i).fits) c.in_ok-given.given c.in_ok-given.ensures

pub returns-in_err-given : goal.returns-in_err-given
returns-in_err-given c =
    let a = c.args in
    compare-refused a.file.now a.p a.q a.verdict.now a.mapping.now a.part.now a.size.now c.from_residual.result c.in_err-given.field-0.0
    (err_from_is_err_and c.from_residual.result c.from_residual.ensures.1) (sym c.in_err-given.ensures)
