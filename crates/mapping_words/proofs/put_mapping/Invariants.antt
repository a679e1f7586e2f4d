-- `put_mapping` writes the words of each image after those of the one before. Assumes nothing.
use Rattle.mapping_words.proofs.Mappings.{Writing-on}
use Rattle.mapping_words.proofs.put_mapping.Given as goal

abbrev pub invariant-loop-i : goal.invariant-loop-i
invariant-loop-i l = Writing-on l.initial.words l.fn.images l.words l.i
