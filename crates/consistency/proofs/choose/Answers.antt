-- `consistency::choose` meets its contract: the choice narrows the state, and what is settled stays sound. Assumes nothing.
use borrow.Author.Rules.{rules}
use mathlib.Core.Path.{◌≡◌, ◌∙◌}
use native.Mathlib.Omega.{arith}
use lib.ListN.{length}
use Rattle.consistency.proofs.Steps.{sound-after}
use Rattle.consistency.proofs.choose.Goals as goal

pub returns : goal.returns
returns c =
    let args = c.args in
    let after = c.narrowed-lost.ensures in
    let settles = c.settle.ensures in
    let long : length args.state.chosen ≡ 13 = search rules in
    record {
      chosen = settles.chosen ∙ after.chosen;
      placed = settles.placed ∙ after.placed;
      sound = λ domain sound.
          settles.sound domain
          (sound-after args.rows domain args.table.now args.state c.narrowed-lost.new.state args.r args.d after.chosen after.placed
          (omega arith) c.requires.3 (search rules) after.each sound);
    }
