-- `demands::demand1::count` meets its contract. Assumes nothing.
use Rattle.demands.proofs.Conditions.{count_meets}
use Rattle.demands.proofs.demand1.count.Goals as goal

pub returns : goal.returns
returns c =
    let a = c.args in
    count_meets a.given a.place a.words.now c.count.result c.count.ensures
