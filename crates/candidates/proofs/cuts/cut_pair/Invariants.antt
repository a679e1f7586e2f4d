-- `cut_pair` cuts the masks of one row for the candidates of another. The invariants, by masks and by codes: those of the candidates passed are cut.
-- Assumes nothing.
use mathlib.Core.Path.{◌≡◌}
use Prim.Native.Nat.{◌≤◌, ◌<◌}
use Rattle.candidates.specs.internal.Sharing.{Cut, Meets}
use Rattle.candidates.proofs.cuts.cut_pair.Given as goal

abbrev pub invariant-loop-d : goal.invariant-loop-d
invariant-loop-d l = Cut l.size l.count (λ r d q e. d < l.d → q ≡ l.q → r ≡ l.r → Meets l.target l.size l.i l.j r d q e) l.initial.table l.table

abbrev pub invariant-loop-d-2 : goal.invariant-loop-d-2
invariant-loop-d-2 l = (l.d ≤ l.d-end) × Cut l.size l.count (λ r d q e. d < l.d → q ≡ l.q → r ≡ l.r → Meets l.target l.size l.i l.j r d q e) l.initial.table l.table
