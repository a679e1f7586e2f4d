-- `demands::demand2::write_record_back` meets its contract. Assumes nothing.
use mathlib.Core.Path.{sym, ap, ◌∙◌}
use Rattle.format.proofs.Bytes.{bytes-known}
use Rattle.refusals.specs.Refusal.{reply_of}
use Rattle.demands.proofs.Answering.{record-again}
use Rattle.demands.proofs.demand2.write_record_back.Goals as goal

pub returns : goal.returns
returns c =
    let s = c in
    record-again s.args.file.now s.args.buffer.now _ c.in_ok-read.read (sym c.read_record.ensures ∙ ap reply_of c.in_ok-read.was) c.write.result
    (bytes-known s.args.file.now (λ i. (c.type_inv.file i).fits))
    c.write.ensures.0 c.write.ensures.1
