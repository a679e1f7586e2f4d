-- `consistency::revise` meets its contract: what row q loses goes together with no candidate of row p. Assumes nothing.
use borrow.Author.Rules.{rules}
use mathlib.Core.Path.{◌≡◌}
use native.Mathlib.Omega.{arith}
use lib.ListN.{length}
use Rattle.consistency.proofs.Steps.{settles-revised}
use Rattle.consistency.proofs.revise.Goals as goal

pub returns : goal.returns
returns c =
    let args = c.args in
    let current : length args.state.now.current ≡ 13 = search rules in
    let culprits : length args.state.now.culprits ≡ 13 = search rules in
    settles-revised args.rows args.table.now args.state.now args.p args.q _ (omega arith) (omega arith) (omega arith) (omega arith)
    c.refused-out.ensures
