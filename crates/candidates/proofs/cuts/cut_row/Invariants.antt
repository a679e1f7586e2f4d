-- `cut_row` cuts the masks for the candidates of a row. The invariant: those of the rows passed are cut.
-- Assumes nothing.
use mathlib.Core.Path.{◌≡◌}
use Prim.Native.Nat.{◌≤◌, ◌<◌}
use Rattle.std.specs.Option.{ForSome}
use Rattle.candidates.specs.internal.Sharing.{Alike, Cut, Joins}
use Rattle.candidates.proofs.cuts.cut_row.Given as goal

abbrev pub invariant-loop-q : goal.invariant-loop-q
invariant-loop-q l =
    (l.q ≤ l.q-end) × Cut l.size l.count (λ r d q e. q < l.q → r ≡ l.r → Joins l.source l.target l.size l.i l.j r d q e) l.initial.table l.table
    × ForSome l.masks (Alike l.target l.count l.i l.j)
