-- `consistency::spread` meets its contract. The loop's invariant: the rows passed are compared. Assumes nothing.
use Rattle.consistency.specs.internal.Consistent.{Settles}
use Rattle.consistency.proofs.spread.Given as goal

abbrev pub invariant-loop : goal.invariant-loop
invariant-loop l = Settles l.rows l.table l.fn.state l.state
