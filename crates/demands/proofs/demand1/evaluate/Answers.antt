-- `demands::demand1::evaluate` meets its contract. Assumes nothing.
use Rattle.demands.proofs.Conditions.{evaluate-meets}
use Rattle.demands.proofs.demand1.evaluate.Goals as goal

pub returns : goal.returns
returns c =
    let k = c in
    let a = k.args in
    evaluate-meets a.given a.place a.words.now a.buffer.now _ k.evaluate.result k.evaluate.ensures.result_value k.evaluate.ensures.buffer_after
