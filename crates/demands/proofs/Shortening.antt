-- Demand 3 from the reduction's own contract. Assumes nothing.
use Prim.Native.Nat.{ℕ}
use Rattle.record.specs.declared.Record.{Record}
use Rattle.reduction.specs.declared.Reduced.{Reduced}
use Rattle.reduction.specs.Reduced.{IsReduced}
use Rattle.demands.specs.Demand3.{Shortens}

pub shortens : (r : Record) (source target : ℕ) (o : Reduced) → IsReduced r source target o → Shortens r source target o
shortens r source target o is = is.accepted
