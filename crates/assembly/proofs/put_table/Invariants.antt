use mathlib.Core.Path.{◌≡◌}
use mathlib.Core.List.{List, map}
use Prim.Native.Nat.{ℕ, ◌+◌, ◌*◌, ◌≤◌}
use lib.ListN.{length, drop}
use Rattle.query.specs.declared.Place.{Place}
use Rattle.lists.specs.Over.{over}
use Rattle.format.specs.File.{table_of, put_place}
use Rattle.limits.specs.internal.Schema.{widths_in}
use Rattle.assembly.proofs.put_table.Given as goal

-- The parts from place k on
abbrev pub parts_from : List ℕ → List Place → ℕ → List (List ℕ)
parts_from schema places k = map (put_place schema) (drop k places)

-- What has been written of the table
pub record At (schema before : List ℕ) (at start : ℕ) (places : List Place) (buffer : List ℕ) (due k : ℕ) : Type 0 where
  pub few : k ≤ length places
  pub small : due ≤ 1000 + 534 * k
  pub long : length buffer ≡ length before
  pub rest : over before at (table_of start (map (put_place schema) places)) ≡ over buffer (at + 4 * k) (table_of due (parts_from schema places k))

abbrev pub invariant-loop-k : goal.invariant-loop-k
invariant-loop-k l = At (widths_in l.schema) l.initial.buffer l.at l.start l.places l.buffer l.due l.k
