-- `demands::demand2::read_back` meets its contract. Assumes nothing.
use mathlib.Core.Path.{sym, ap, ◌∙◌}
use lib.Seq.{length-take-le}
use Rattle.refusals.specs.Refusal.{reply_of}
use Rattle.file.proofs.Shapes.{record-shaped}
use Rattle.demands.proofs.Answering.{read_again, inside}
use Rattle.demands.proofs.demand2.read_back.Goals as goal

pub slice_bounds-read-end : goal.slice_bounds-read-end
slice_bounds-read-end c =
    let s = c in
    let w = c.write.ensures in
    inside s.args.given s.args.buffer.now _ _ (sym w.0 ∙ ap reply_of c.in-Ok.is) w.1

pub slice_bounds-read-end-in-Ok : goal.slice_bounds-read-end-in-Ok
slice_bounds-read-end-in-Ok c =
    let s = c in
    let w = c.write.ensures in
    sym
    (length-take-le _ _
    (inside s.args.given s.args.buffer.now _ _ (sym w.0 ∙ ap reply_of c.in-Ok.is) w.1))

pub returns-in-Ok : goal.returns-in-Ok
returns-in-Ok c =
    let s = c in
    let w = c.write.ensures in
    read_again s.args.given s.args.buffer.now _ c.read.result (record-shaped s.args.given _ s.well_formed.0) _
    (sym w.0 ∙ ap reply_of c.in-Ok.is) w.1 c.read.ensures
