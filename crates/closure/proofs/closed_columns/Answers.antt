-- `closed_columns` meets its contract. Assumes nothing.
use Rattle.std.proofs.Common.{◌+◌, ◌-◌, length, map, sym, ap, ◌∙◌, rules}
use Rattle.query.specs.View.{dependency_of}
use Rattle.closure.specs.internal.Closure.{grow_mask}
use Rattle.closure.proofs.Closure.{grow-step, grow-end}
use Rattle.closure.proofs.closed_columns.Goals as goal

pub loop-preserved : goal.loop-preserved
loop-preserved c =
    let n = length c.args.dependencies.now in
    let list = map dependency_of c.args.dependencies.now in
    let i = c.loop.counter in (
      search rules,
      ap (grow_mask (n - (i + 1)) list c.args.relation) c.next_columns-mask.ensures
          ∙ sym (grow-step n i list c.args.relation c.loop.mask (search rules))
          ∙ c.loop.invariant.1,
    )

pub returns : goal.returns
returns c =
    let n = length c.args.dependencies.now in
    let list = map dependency_of c.args.dependencies.now in
    sym (grow-end n c.loop.counter list c.args.relation c.loop.mask (search rules)) ∙ c.loop.invariant.1
