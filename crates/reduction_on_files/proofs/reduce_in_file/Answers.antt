-- `reduce_in_file` gives what reducing promises, once the file is read. Assumes nothing.
use Rattle.std.proofs.Common.{sym}
use Rattle.std.proofs.lemmas.Result.{err_from_is_err_and}
use Rattle.reduction_on_files.proofs.Reductions.{reduce-done, reduce-refused}
use Rattle.reduction_on_files.proofs.Shapes.{reduced-shaped}
use Rattle.reduction_on_files.proofs.reduce_in_file.Goals as goal

pub returns : goal.returns
returns c =
    let a = c.args in
    reduce-done a.file.now a.source a.target a.out.now a.size.now a.count.now a.mapping.now
    c.in_ok-given.given (sym c.in_ok-given.ensures) c.reduce-reduced.result c.reduce-reduced.ensures
    (reduced-shaped c.reduce-reduced.result _ c.reduce-reduced.type_inv) _ _ _ _ _ c.store_reduction.ensures

pub returns-in_err-given : goal.returns-in_err-given
returns-in_err-given c =
    let a = c.args in
    reduce-refused a.file.now a.source a.target a.out.now a.size.now a.count.now a.mapping.now
    c.from_residual.result c.in_err-given.field-0.0 (err_from_is_err_and c.from_residual.result c.from_residual.ensures.1) (sym c.in_err-given.ensures)
