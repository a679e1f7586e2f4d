-- `comparison::read_images` meets its contract: the first images are done. Assumes nothing.
use Prim.Native.Nat.{◌<◌}
use borrow.Author.Rules.{rules}
use lib.ListN.{length}
use Rattle.query.specs.Rule.{no_cell}
use Rattle.limits.specs.internal.Schema.{widths_in}
use Rattle.codes.specs.internal.Codes.{codes_in}
use Rattle.comparison.specs.internal.Images.{row_variables}
use Rattle.comparison.proofs.Images.{images-none, images-more, images-done}
use Rattle.comparison.proofs.read_images.Goals as goal

pub loop-v-init : goal.loop-v-init
loop-v-init c = images-none _ _ c.args.images

pub loop-v-preserved : goal.loop-v-preserved
loop-v-preserved c =
    let inside : c.loop-v.v < length c.args.images = search rules in
    images-more (codes_in c.args.codes.now) (row_variables (widths_in c.args.schema) c.args.source) c.loop-v.v c.args.images c.loop-v.image-items _ no_cell
    inside c.loop-v.invariant c.read_image.ensures

pub returns : goal.returns
returns c = images-done _ _ c.loop-v.v c.args.images c.loop-v.image-items (search rules) c.loop-v.invariant
