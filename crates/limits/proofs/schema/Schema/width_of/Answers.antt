-- `limits::width_of` meets its contract: the width stands in the schema, or past its end.
-- Assumes nothing.
use native.Mathlib.Omega.{arith}
use Rattle.query.proofs.Relations.{relations-bounds}
use Rattle.limits.proofs.schema.Schema.width_of.Goals as goal

pub bounds-self-relation : goal.bounds-self-relation
bounds-self-relation c = omega (arith, (relations-bounds _ _ c.args.self.good).1)
