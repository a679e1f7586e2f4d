use mathlib.Core.Path.{◌≡◌}
use mathlib.Core.List.{List}
use Prim.Native.Nat.{ℕ, ◌≤◌, ◌-◌}
use lib.ListN.{length, drop}
use Rattle.query.specs.declared.Place.{Place}
use Rattle.lists.specs.Over.{over}
use Rattle.refusals.specs.Refusals.{Reply, gives, refused}
use Rattle.format.specs.File.{stretches, read_places}
use Rattle.format.proofs.Stretches.{table_at}
use Rattle.limits.specs.internal.Schema.{widths_in}
use Rattle.places.specs.internal.Read.{all_places}
use Rattle.places.proofs.read_places.Given as goal

-- The places read so far with the others laid over what follows them
abbrev pub places_over : List Place → ℕ → Reply (List Place) → Reply (List Place)
places_over places i (gives ps) = gives (over places i ps)
places_over places i (refused m) = refused m

-- What has been read of the query parts
pub record At (schema file : List ℕ) (n : ℕ) (places : List Place) (k : ℕ) : Type 0 where
  pub low : 2 ≤ k
  pub high : k ≤ n
  pub long : length places ≡ 8
  pub rest : all_places (read_places schema (stretches (n - 2) file (drop 10 file)))
      ≡ places_over places (k - 2) (read_places schema (stretches (n - k) file (table_at file k)))

abbrev pub invariant-loop-k : goal.invariant-loop-k
invariant-loop-k l = At (widths_in l.schema) l.file l.n l.places l.k
