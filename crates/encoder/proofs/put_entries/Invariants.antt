-- The bytes of each cell's entry
use Prim.Native.Nat.{◌+◌, ◌*◌}
use Rattle.query.specs.declared.Cell.{Cell}
use Rattle.format.specs.Parts.{put_entry}
use Rattle.encoder.proofs.Stores.{Writing}
use Rattle.encoder.proofs.put_entries.Given as goal

abbrev pub invariant-loop-i : goal.invariant-loop-i
invariant-loop-i l = Writing (λ (c : Cell). put_entry c.entry) l.initial.buffer l.at l.cells l.buffer (l.at + 5 * l.i) l.i
