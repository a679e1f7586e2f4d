-- `read_mapping` reads 96 images of two words each. Assumes nothing.
use mathlib.Core.Path.{sym, ap, refl, ◌∙◌}
use lib.ListN.{length-set}
use Rattle.mapping_words.specs.internal.Steps.{mapping_read}
use Rattle.mapping_words.proofs.Mappings.{reading-starts, reading-turns, reading-fails, reading-ends, other_length}
use Rattle.mapping_words.proofs.read_mapping.Goals as goal

pub returns-then-words-ne192 : goal.returns-then-words-ne192
returns-then-words-ne192 c = other_length c.args.words.now c.if-words-ne192.true

pub loop-i-init : goal.loop-i-init
loop-i-init c = (refl, reading-starts c.args.words.now)

pub returns-in_err-image : goal.returns-in_err-image
returns-in_err-image c = c.from_residual.ensures ∙ reading-fails c.args.words.now c.loop-i.invariant.1 c.read_image.result c.loop-i-test.true c.read_image.ensures c.in_err-image.was

pub loop-i-preserved : goal.loop-i-preserved
loop-i-preserved c = (
  length-set c.loop-i.image-items c.loop-i.i _ ∙ c.loop-i.invariant.0,
  reading-turns c.args.words.now c.loop-i.invariant.1 c.read_image.result _ c.loop-i-test.true c.loop-i.invariant.0 c.read_image.ensures c.in_ok-image.was,
)

pub returns : goal.returns
returns c =
    sym (ap mapping_read (reading-ends c.args.words.now c.loop-i.invariant.1 c.loop-i-test.false c.if-words-ne192.false))
