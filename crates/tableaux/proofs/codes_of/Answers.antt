-- `tableaux::codes_of` has the code of each cell. Assumes nothing.
use mathlib.Core.Path.{sym, ◌∙◌, ap}
use mathlib.Core.List.{List}
use Prim.Native.Nat.{ℕ, ◌<◌}
use native.Mathlib.Omega.{arith}
use lib.ListN.{length, set, length-set, length-map, get_or-map}
use Rattle.query.specs.declared.Cell.{Cell}
use Rattle.query.specs.Rule.{no_cell}
use Rattle.query.specs.internal.Code.{code_of}
use Rattle.lists.proofs.Loops.{filled_to, filled_next}
use Rattle.tableaux.specs.internal.Codes.{codes_of}
use Rattle.tableaux.proofs.codes_of.Goals as goal

pub loop-k-preserved : goal.loop-k-preserved
loop-k-preserved g c =
    let cells = c.args.cells.now in
    let l = c.loop-k in
    let inside : l.k < length (codes_of cells) = omega (arith, length-map cells (λ (x : Cell). code_of x.entry), c.loop-k-test.true) in (
      length-set l.codes l.k c.from.result ∙ l.invariant.0,
      ap (λ (xs : List ℕ). set xs l.k c.from.result) l.invariant.1
          ∙ ap (set (filled_to (length cells) 0 (codes_of cells) l.k) l.k) (c.from.ensures ∙ sym (get_or-map (λ (x : Cell). code_of x.entry) cells l.k no_cell))
          ∙ filled_next (length cells) 0 (codes_of cells) l.k inside (omega (arith, c.loop-k-test.true, c.told-cells)),
    )
