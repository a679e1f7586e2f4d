-- `adds_column` meets its contract: the tests on masks are those of `adds` on lists of columns. Assumes nothing.
use Rattle.std.proofs.Common.{rules, arith}
use Rattle.std.proofs.lemmas.Bool.Decides.{nat_tests}
use Rattle.closure.proofs.Closure.{adds-mask}
use Rattle.closure.proofs.adds_column.Goals as goal

pub returns-then-d-mask : goal.returns-then-d-mask
returns-then-d-mask c =
    rw (adds-mask c.args.d c.args.relation c.args.mask (search rules) (search rules)) (grind (arith, nat_tests))

pub returns-else-d-mask : goal.returns-else-d-mask
returns-else-d-mask c =
    rw (adds-mask c.args.d c.args.relation c.args.mask (search rules) (search rules)) (grind (arith, nat_tests))
