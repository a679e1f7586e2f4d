-- `demands::demand2::evaluate_lent` meets its contract. Assumes nothing.
use Rattle.demands.proofs.Answering.{evaluates}
use Rattle.demands.proofs.demand2.evaluate_lent.Goals as goal

pub returns : goal.returns
returns c =
    let k = c in
    let a = k.args in
    evaluates a.given a.place a.words.now a.buffer.now _ k.evaluate_lent.result k.evaluate_lent.ensures.result_value k.evaluate_lent.ensures.buffer_after
