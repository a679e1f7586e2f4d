-- `store_reduction` stores the file, the count and the mapping of a reduction that is done. Assumes nothing.
use Rattle.std.proofs.Common.{sym}
use Rattle.std.proofs.lemmas.Result.{err_from_is_err_and}
use Rattle.refusals.specs.Refusal.{number_of}
use Rattle.reduction_on_files.proofs.Reductions.{reduction-none, reduction-handed, reduction-refused, reduction-short, reduction-stored, reduction-long}
use Rattle.reduction_on_files.proofs.store_reduction.Goals as goal

pub returns-in_err-reduced : goal.returns-in_err-reduced
returns-in_err-reduced c =
    let a = c.args in
    let why = c.in_err-reduced.field-0.0 in
    reduction-handed a.reduced a.out.now a.size.now a.count.now a.mapping.now c.from_residual.result why
    (err_from_is_err_and c.from_residual.result c.from_residual.ensures.1)
    (reduction-refused a.reduced a.out.now a.size.now a.count.now a.mapping.now why c.in_err-reduced.was)

pub returns-then-mapping-lt192 : goal.returns-then-mapping-lt192
returns-then-mapping-lt192 c =
    let a = c.args in
    reduction-none a.reduced a.out.now a.size.now a.count.now a.mapping.now
    (reduction-short a.reduced a.out.now a.size.now a.count.now a.mapping.now c.in_ok-reduced.was c.if-mapping-lt192.true)

pub returns : goal.returns
returns c =
    let a = c.args in
    reduction-stored a.reduced a.out.now a.size.now a.count.now a.mapping.now c.in_ok-reduced.was c.if-mapping-lt192.false
    _ _ _ (sym c.in_ok-n.ensures.0) c.write_good.ensures.1 c.put_mapping.ensures

pub returns-in_err-n : goal.returns-in_err-n
returns-in_err-n c =
    let a = c.args in
    let left = err_from_is_err_and c.from_residual-in_err-n.result c.from_residual-in_err-n.ensures.1 in
    rw (left.1, left.2)
    (reduction-long a.reduced a.out.now a.size.now a.count.now a.mapping.now c.in_ok-reduced.was c.if-mapping-lt192.false
    (number_of c.in_err-n.field-0.0) _ (c.requires c.in_ok-reduced.was) (sym c.in_err-n.ensures.0) c.write_good.ensures.1)
