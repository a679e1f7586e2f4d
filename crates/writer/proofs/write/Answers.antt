-- `write` refuses a record that breaks its rule, and writes a good one.
-- Assumes nothing.
use mathlib.Core.Path.{sym, ◌∙◌}
use Rattle.writer.proofs.Writing.{bad-refused}
use Rattle.writer.proofs.write.Goals as goal

pub returns-then-not-is_good : goal.returns-then-not-is_good
returns-then-not-is_good c = bad-refused _ _ (sym c.is_good.ensures ∙ c.if-not-is_good.true)
