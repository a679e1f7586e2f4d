-- `cut_columns` cuts the masks of two columns. The invariant: those for the candidates of the rows passed are cut.
-- Assumes nothing.
use Prim.Native.Nat.{◌≤◌, ◌<◌}
use Rattle.std.specs.Option.{ForSome}
use Rattle.candidates.specs.internal.Sharing.{Alike, Cut, Joins}
use Rattle.candidates.proofs.cuts.cut_columns.Given as goal

abbrev pub invariant-loop-r : goal.invariant-loop-r
invariant-loop-r l =
    (l.r ≤ l.r-end) × Cut l.size l.count (λ r d q e. r < l.r → Joins l.source l.target l.size l.i l.j r d q e) l.initial.table l.table
    × ForSome l.masks (Alike l.target l.count l.i l.j)
