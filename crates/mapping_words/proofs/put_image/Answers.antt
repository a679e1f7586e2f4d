-- `put_image` is two stores. Assumes nothing.
use mathlib.Core.Path.{sym, ap, ◌∙◌}
use Rattle.query.specs.declared.Entry.{Entry}
use Rattle.lists.specs.Over.{over}
use Rattle.encoder.proofs.Stores.{two-stores}
use Rattle.mapping_words.specs.Images.{entry_words}
use Rattle.mapping_words.proofs.put_image.Goals as goal

pub returns-in-Constant : goal.returns-in-Constant
returns-in-Constant c =
    let s = c in
    two-stores s.args.words.now s.args.at 0 c.in-Constant.n s.requires ∙ ap
    (λ (e : Entry). over s.args.words.now s.args.at (entry_words e)) (sym c.in-Constant.is)

pub returns-in-Variable : goal.returns-in-Variable
returns-in-Variable c =
    let s = c in
    two-stores s.args.words.now s.args.at 1 c.in-Variable.v s.requires ∙ ap
    (λ (e : Entry). over s.args.words.now s.args.at (entry_words e)) (sym c.in-Variable.is)
