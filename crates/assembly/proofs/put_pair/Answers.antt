-- `put_pair` meets its contract: one number after the other. Assumes nothing.
use mathlib.Core.Path.{refl}
use Prim.Native.Nat.{◌+◌}
use native.Mathlib.Omega.{arith}
use Rattle.format.specs.Bytes.{bytes_of}
use Rattle.format.proofs.Numbers.{length-bytes}
use Rattle.encoder.proofs.Stores.{run-starts, run-turns}
use Rattle.assembly.proofs.put_pair.Goals as goal

pub returns : goal.returns
returns c =
    let at = c.args.at in
    let old = bytes_of 4 c.args.p.old in
    let current = bytes_of 4 c.args.p.current in
    let long = length-bytes 4 c.args.p.old in
    let first =
    run-turns (run-starts c.args.buffer.now at) old c.put_word32.new.buffer (at + 4) (omega (arith, long, c.requires)) c.put_word32.ensures (omega (arith, long)) in
    (run-turns first current c.put_word32-2.new.buffer _ (omega (arith, length-bytes 4 c.args.p.current, c.requires)) c.put_word32-2.ensures refl).written
