-- Two bytes
use Rattle.std.proofs.Common.{◌≡◌, ◌+◌, ◌-◌, length, ap, ◌∙◌, arith}
use Rattle.lists.specs.Over.{over}
use Rattle.format.specs.Bytes.{bytes_of}
use Rattle.format.proofs.Numbers.{length-bytes}
use Rattle.encoder.proofs.Stores.{put-over, word-bytes}
use Rattle.encoder.proofs.put_word.Goals as goal

pub returns : goal.returns
returns c =
    let buffer = c.args.buffer.now in
    let at = c.args.at in
    let n = c.args.n in
    let written : c.copy_from_slice.new.self ≡ bytes_of 2 n = c.copy_from_slice.ensures.after ∙ c.to_le_bytes.ensures ∙ word-bytes n in
    let two : 2 ≡ at + 2 - at = omega arith in
    put-over buffer c.copy_from_slice.new.self at (at + 2) (omega arith) (ap length written ∙ length-bytes 2 n ∙ two) ∙ ap (over buffer at) written
