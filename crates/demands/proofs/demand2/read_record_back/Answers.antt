-- `demands::demand2::read_record_back` meets its contract. Assumes nothing.
use mathlib.Core.Path.{sym, ap, ◌∙◌}
use lib.Seq.{length-take-le}
use Rattle.refusals.specs.Refusal.{reply_of}
use Rattle.file.proofs.Shapes.{record-shaped}
use Rattle.demands.proofs.Answering.{read-again-alone, inside}
use Rattle.demands.proofs.demand2.read_record_back.Goals as goal

pub slice_bounds-read_record-end : goal.slice_bounds-read_record-end
slice_bounds-read_record-end c =
    let s = c in
    let w = c.write.ensures in
    inside s.args.given s.args.buffer.now _ _ (sym w.0 ∙ ap reply_of c.in_ok-n.was) w.1

pub slice_bounds-read_record-end-2 : goal.slice_bounds-read_record-end-2
slice_bounds-read_record-end-2 c =
    let s = c in
    let w = c.write.ensures in
    sym (length-take-le _ _ (inside s.args.given s.args.buffer.now _ _ (sym w.0 ∙ ap reply_of c.in_ok-n.was) w.1))

pub returns : goal.returns
returns c =
    let s = c in
    let w = c.write.ensures in
    read-again-alone s.args.given s.args.buffer.now _ c.read_record.result (record-shaped s.args.given _ s.well_formed.0) _
    (sym w.0 ∙ ap reply_of c.in_ok-n.was) w.1 c.read_record.ensures
