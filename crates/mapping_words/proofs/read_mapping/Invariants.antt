-- `read_mapping` reads 96 images of two words each. Assumes nothing.
use mathlib.Core.Path.{◌≡◌}
use lib.ListN.{length}
use Rattle.mapping_words.proofs.Mappings.{Reading-on}
use Rattle.mapping_words.proofs.read_mapping.Given as goal

abbrev pub invariant-loop-i : goal.invariant-loop-i
invariant-loop-i l = (length l.image-items ≡ 96) × Reading-on l.words l.image-items l.i
