-- `demands::demand2::write_back` meets its contract. Assumes nothing.
use Rattle.format.proofs.Bytes.{bytes-known}
use Rattle.demands.proofs.Answering.{written-again}
use Rattle.demands.proofs.demand2.write_back.Goals as goal

pub returns : goal.returns
returns c =
    let s = c in
    let read = c.read-read in
    written-again s.args.file.now s.args.buffer.now _ read.result read.ensures c.write.result
    (bytes-known s.args.file.now (λ i. (c.type_inv.file i).fits))
    c.write.ensures.0 c.write.ensures.1
