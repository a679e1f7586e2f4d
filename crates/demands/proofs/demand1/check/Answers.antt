-- `demands::demand1::check` meets its contract. Assumes nothing.
use Rattle.demands.proofs.Conditions.{check-meets}
use Rattle.demands.proofs.demand1.check.Goals as goal

pub returns : goal.returns
returns c =
    let a = c.args in
    check-meets a.given a.p a.q a.images c.check_mapping.result c.check_mapping.ensures
