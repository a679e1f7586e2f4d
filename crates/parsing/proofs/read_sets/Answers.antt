-- `read_sets` meets its contract. Assumes nothing.
use Rattle.std.proofs.Common.{◌≡◌, ℕ, ◌+◌, ◌-◌, List, ◌++◌, length, take, drop, sym, ap, ◌∙◌, arith}
use lib.ListN.{replicate}
use Rattle.lists.proofs.Loops.{replicate-drop}
use Rattle.lists.proofs.Over.{pad-is}
use Rattle.parsing.proofs.read_sets.Goals as goal

pub returns : goal.returns
returns c =
    let at = c.args.at in
    let n = c.args.n in
    let rest = drop at c.args.part.now in
    let k : at + n - at ≡ n = omega arith in
    c.padded.ensures
    ∙ ap (λ (m : ℕ). take m rest ++ replicate (4 - length (take m rest)) 0) k
    ∙ sym (pad-is 4 0 (take n rest) ∙ ap (λ (s : List ℕ). take n rest ++ s) (replicate-drop (length (take n rest)) 4 0))
