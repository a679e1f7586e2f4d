-- Four bytes
use Rattle.std.proofs.Common.{◌≡◌, ◌+◌, ◌-◌, length, ap, ◌∙◌, arith}
use Rattle.lists.specs.Over.{over}
use Rattle.format.specs.Bytes.{bytes_of}
use Rattle.format.proofs.Numbers.{length-bytes}
use Rattle.encoder.proofs.Stores.{put-over, wide-bytes}
use Rattle.encoder.proofs.put_word32.Goals as goal

pub returns : goal.returns
returns c =
    let buffer = c.args.buffer.now in
    let at = c.args.at in
    let n = c.args.n in
    let written : c.copy_from_slice.new.self ≡ bytes_of 4 n = c.copy_from_slice.ensures.after ∙ c.to_le_bytes.ensures ∙ wide-bytes n in
    let four : 4 ≡ at + 4 - at = omega arith in
    put-over buffer c.copy_from_slice.new.self at (at + 4) (omega arith) (ap length written ∙ length-bytes 4 n ∙ four) ∙ ap (over buffer at) written
