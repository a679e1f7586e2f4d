-- `comparison::read_images`. Invariant: the first images are read. Assumes nothing.
use Rattle.std.proofs.Common.{◌≡◌}
use Rattle.limits.specs.internal.Schema.{widths_in}
use Rattle.codes.specs.internal.Codes.{codes_in}
use Rattle.comparison.specs.internal.Images.{row_variables}
use Rattle.comparison.proofs.Images.{read_first}
use Rattle.comparison.proofs.read_images.Given as goal

abbrev pub invariant-loop-v : goal.invariant-loop-v
invariant-loop-v l = l.image-items ≡ read_first (codes_in l.codes) (row_variables (widths_in l.schema) l.source) 0 l.v l.fn.images
