use mathlib.Core.Path.{sym, ap, ◌∙◌}
use mathlib.Core.List.{◌∷◌}
use Prim.Native.Nat.{ℕ}
use Rattle.format.specs.Bytes.{bytes_of}
use Rattle.query.specs.declared.Entry.{Entry}
use Rattle.lists.specs.Over.{over}
use Rattle.format.specs.Parts.{put_entry}
use Rattle.encoder.proofs.put_entry.Goals as goal

pub returns-in-Constant : goal.returns-in-Constant
unfolding put_entry
returns-in-Constant c =
    c.put_tagged.ensures
    ∙ ap (λ (e : Entry). over c.args.buffer.now c.args.at (put_entry e)) (sym c.in-Constant.is)

pub returns-in-Variable : goal.returns-in-Variable
unfolding put_entry
returns-in-Variable c =
    c.put_tagged-in-Variable.ensures
    ∙ ap (λ (n : ℕ). over c.args.buffer.now c.args.at (1 ∷ bytes_of 4 n)) c.from.ensures
    ∙ ap (λ (e : Entry). over c.args.buffer.now c.args.at (put_entry e)) (sym c.in-Variable.is)
