-- `join_step::next_row` meets its contract. The loop's invariant: nothing is found for the join dependencies before the present one. Assumes nothing.
use Prim.Native.Nat.{◌≤◌}
use lib.ListN.{length}
use Rattle.join_step.proofs.Next.{NothingBefore}
use mathlib.Core.List.{[]}
use Rattle.query.specs.declared.JoinDependency.{JoinDependency}
use Rattle.join_step.proofs.next_row.Given as goal

-- What stands past the end of an array of join dependencies
abbrev pub past_join : JoinDependency
past_join = record { relation = 0; count = 0; sets = [] }

abbrev pub invariant-loop-j : goal.invariant-loop-j
invariant-loop-j l = (l.j-index ≤ length l.joins) × NothingBefore l.codes l.t.relations l.size l.joins past_join l.j-index
