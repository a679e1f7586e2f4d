-- `demands::demand2::evaluate` meets its contract. Assumes nothing.
use Rattle.demands.proofs.Answering.{evaluates}
use Rattle.demands.proofs.demand2.evaluate.Goals as goal

pub returns : goal.returns
returns c =
    let k = c in
    let a = k.args in
    evaluates a.given a.place a.words.now a.buffer.now _ k.evaluate.result k.evaluate.ensures.result_value k.evaluate.ensures.buffer_after
