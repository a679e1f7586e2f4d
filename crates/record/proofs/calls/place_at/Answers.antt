-- `record::calls::place_at` meets its contract: the test taken is the condition of `place_at`.
-- Assumes nothing.
use Rattle.record.proofs.Refusals.{place-low, place-high}
use Rattle.record.proofs.calls.place_at.Goals as goal

pub returns-then-place-lt8 : goal.returns-then-place-lt8
returns-then-place-lt8 c = place-low _ c.if-place-lt8.true

pub returns-else-place-lt8 : goal.returns-else-place-lt8
returns-else-place-lt8 c = place-high _ c.if-place-lt8.false
