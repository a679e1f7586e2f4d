-- `put_mapping` writes the words of each image after those of the one before. Assumes nothing.
use mathlib.Core.Path.{◌≡◌}
use lib.ListN.{length}
use Rattle.mapping_words.proofs.Mappings.{mapped-starts, mapped-turns, mapped-ends}
use borrow.Author.Rules.{rules}
use Rattle.mapping_words.proofs.put_mapping.Goals as goal

pub loop-i-init : goal.loop-i-init
loop-i-init c =
    let l : length c.args.images ≡ 96 = search rules in
    mapped-starts c.args.words.now c.args.images l c.requires

pub loop-i-preserved : goal.loop-i-preserved
loop-i-preserved c =
    let l : length c.args.images ≡ 96 = search rules in
    mapped-turns c.loop-i.invariant l _ c.loop-i-test.true c.put_image.ensures

pub returns : goal.returns
returns c =
    let l : length c.args.images ≡ 96 = search rules in
    mapped-ends c.loop-i.invariant l c.loop-i-test.false
