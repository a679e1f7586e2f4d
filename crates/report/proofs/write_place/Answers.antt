-- `report::write_place` meets its contract: the lines of a filled place, and nothing of a vacant one. Assumes nothing.
use mathlib.Core.Path.{sym, ◌∙◌}
use Rattle.report.proofs.Joined.{part_filled, part-vacant}
use Rattle.report.proofs.write_place.Goals as goal

pub returns-then-is_filled : goal.returns-then-is_filled
returns-then-is_filled c =
    part_filled c.args.given c.args.place c.args.buffer.now c.args.at c.write_lines.new.buffer
    c.write_lines.result
    (sym c.is_filled.ensures ∙ c.if-is_filled.true)
    c.write_lines.ensures

pub returns : goal.returns
returns c =
    part-vacant c.args.given c.args.place c.args.buffer.now c.args.at (sym c.is_filled.ensures ∙ c.if-is_filled.false)
