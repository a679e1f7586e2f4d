-- Invariant: the looks that are left, on the mask so far, give the whole closure.
use Rattle.std.proofs.Common.{◌≡◌, ◌-◌, ◌≤◌, length, map}
use Rattle.query.specs.View.{dependency_of}
use Rattle.closure.specs.internal.Closure.{grow_mask}
use Rattle.closure.proofs.closed_columns.Given as goal

abbrev pub invariant-loop : goal.invariant-loop
invariant-loop l =
    (l.counter ≤ length l.dependencies) × (grow_mask (length l.dependencies - l.counter) (map dependency_of l.dependencies) l.relation l.mask
    ≡ grow_mask (length l.dependencies) (map dependency_of l.dependencies) l.relation l.left)
