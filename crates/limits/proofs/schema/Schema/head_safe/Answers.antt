-- `head_safe` meets its contract. Assumes nothing.
use Rattle.std.proofs.Common.{rules, tests, take, sym, ◌∙◌}
use Rattle.std.proofs.lemmas.Iterator.{YieldsList-from_slice}
use Rattle.std.proofs.lemmas.Iterator.Search.{all_from_yields_List}
use Rattle.limits.specs.internal.Entries.{safe_cell}
use Rattle.chains.proofs.Chains.{all_every}
use Rattle.limits.specs.internal.Schema.{widths_in}
use Rattle.limits.proofs.Variables.{row_variables, head-safe-is}
use Rattle.limits.proofs.schema.Schema.head_safe.Goals as goal

pub returns : goal.returns
returns c =
    let q = c.args.q in
    let schema = widths_in c.args.self in
    all_from_yields_List (safe_cell (row_variables schema q)) _ _ _ c.all.ensures.ran (YieldsList-from_slice (take q.arity q.head) cc)
    (λ x b q k. search (rules, tests))
    ∙ all_every (safe_cell (row_variables schema q)) (take q.arity q.head) ∙ sym (head-safe-is schema q)
