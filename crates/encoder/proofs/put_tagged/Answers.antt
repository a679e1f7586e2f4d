-- A byte and then four
use Rattle.std.proofs.Common.{arith}
use Rattle.format.specs.Bytes.{bytes_of}
use Rattle.encoder.proofs.Stores.{byte-and-run}
use Rattle.encoder.proofs.put_tagged.Goals as goal

pub returns : goal.returns
returns c = byte-and-run c.args.buffer.now c.args.at c.args.tag (bytes_of 4 c.args.n) _ (omega arith) c.put_word32.ensures
