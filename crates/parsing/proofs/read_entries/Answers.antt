-- `read_entries` meets its contract. Invariant: the whole reading is what is in the cells so far with what the bytes left give. Assumes nothing.
use mathlib.Core.Path.{refl, sym, ap, ◌∙◌}
use borrow.Author.Rules.{rules}
use lib.ListN.{length, length-set}
use Rattle.format.specs.Parts.{entry}
use Rattle.format.proofs.Filling.{filling-turns, filling-fails, filling-ends}
use Rattle.parsing.specs.internal.Read.{reading_of, read_into}
use Rattle.parsing.proofs.Times.{into-starts}
use Rattle.parsing.proofs.read_entries.Goals as goal

pub loop-cell-init : goal.loop-cell-init
loop-cell-init c = (refl, into-starts entry.get (length c.args.cells.now) c.args.cells.now c.args.s.now refl)

pub returns-in_err-read : goal.returns-in_err-read
returns-in_err-read c =
    ap (read_into _) c.from_residual.ensures
    ∙ sym (filling-fails c.loop-cell.invariant.1 (search rules) (sym c.read_entry.ensures ∙ ap reading_of c.in_err-read.was))

pub loop-cell-preserved : goal.loop-cell-preserved
loop-cell-preserved c = (
  length-set c.loop-cell.cells c.loop-cell.cell-index c.in_ok-read.read ∙ c.loop-cell.invariant.0,
  filling-turns c.loop-cell.invariant.1 c.in_ok-read.read c.in_ok-read.after.now (search rules) (search rules)
      (sym c.read_entry.ensures ∙ ap reading_of c.in_ok-read.was),
)

pub returns : goal.returns
returns c = sym (filling-ends c.loop-cell.invariant.1 (search rules))
