-- `bucket` mixes the values of the columns. Invariant: the number of the columns from c on, begun with h, is the whole number.
-- Assumes nothing.
use mathlib.Core.Path.{◌≡◌}
use Prim.Native.Nat.{◌/◌, ◌^◌, ◌<◌}
use Rattle.tables.proofs.Buckets.{mixed_at}
use Rattle.join_lookup.proofs.bucket.Given as goal

abbrev pub invariant-loop-c : goal.invariant-loop-c
invariant-loop-c l = (l.h < 4294967296) × (mixed_at l.values l.width 0 l.columns 0 ≡ mixed_at l.values l.width l.c (l.columns / 2 ^ l.c) l.h)
