-- `demands::demand1::write` meets its contract. Assumes nothing.
use Rattle.demands.proofs.Conditions.{write_meets}
use Rattle.demands.proofs.demand1.write.Goals as goal

pub returns : goal.returns
returns c =
    let k = c in
    let a = k.args in
    write_meets a.given a.buffer.now _ k.write.result k.write.ensures.0 k.write.ensures.1
