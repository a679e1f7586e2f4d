-- `demands::demand1::test` meets its contract. Assumes nothing.
use Rattle.demands.proofs.Conditions.{test-meets}
use Rattle.demands.proofs.demand1.test.Goals as goal

pub returns : goal.returns
returns c = test-meets c.args.given c.args.words.now c.test.result c.test.ensures
