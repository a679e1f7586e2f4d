-- `consistency::settle` meets its contract. The loop's invariant: so far it is settled. Assumes nothing.
use Rattle.consistency.specs.internal.Consistent.{Settles}
use Rattle.consistency.proofs.settle.Given as goal

abbrev pub invariant-turns : goal.invariant-turns
invariant-turns l = Settles l.rows l.table l.fn.state l.state
