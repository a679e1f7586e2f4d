-- row r of relations and cells
use Rattle.format.specs.Parts.{row, chunk}
use Rattle.limits.specs.internal.Schema.{widths_in}
use Rattle.encoder.proofs.Stores.{Writing}
use Rattle.encoder.proofs.put_rows.Given as goal

abbrev pub invariant-loop-r : goal.invariant-loop-r
invariant-loop-r l = Writing (row (widths_in l.schema)).put l.initial.buffer l.start (chunk l.named l.cells) l.buffer l.at l.r
