use Rattle.format.specs.File.{put_place}
use Rattle.encoder.proofs.Stores.{Writing}
use Rattle.limits.specs.internal.Schema.{widths_in}
use Rattle.assembly.proofs.put_places.Given as goal

abbrev pub invariant-loop-place : goal.invariant-loop-place
invariant-loop-place l = Writing (put_place (widths_in l.schema)) l.initial.buffer l.start l.places l.buffer l.at l.place-index
