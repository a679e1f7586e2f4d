-- What the fields of a good record are for the theory.
use mathlib.Core.Path.{◌≡◌, subst}
use mathlib.Core.Bool.{Bool, true, cond, ◌&&◌}
use mathlib.Core.List.{List}
use Prim.Native.Nat.{ℕ, ◌≤◌, ◌<◌}
use lib.ListN.{length, get_or}
use Rattle.query.specs.declared.Place.{Place}
use Rattle.record.specs.declared.Record.{Record}
use Rattle.record.specs.View.{schema_of}
use Rattle.query.specs.Rule.{good_query, head_safe, blank_query, good_place}
use Rattle.record.specs.Rule.{good_record}
use Rattle.lists.proofs.Tests.{and_left, and_right, every-get_or}
use Rattle.query.proofs.Relations.{width-bounds, width-le}
use Rattle.record.proofs.Good.{good-record}

module _ (r : Record) (good : good_record r ≡ true) where
  -- No relation has more than 8 columns
  pub narrow : (i : ℕ) → get_or (schema_of r) i 0 ≤ 8
  narrow i = width-le r.relations r.widths (good-record r good).relations i

  -- A known relation has at least one
  pub nonempty : (i : ℕ) → i < length (schema_of r) → 1 ≤ get_or (schema_of r) i 0
  nonempty i h = (width-bounds r.relations r.widths (good-record r good).relations i h).0

  -- A place is good
  pub place-good : (p : ℕ) (z : Place) → p < length r.places → good_place (schema_of r) (get_or r.places p z) ≡ true
  place-good p z h = every-get_or (good_place (schema_of r)) r.places p z (good-record r good).places h

-- A filled place holds a good query with a safe head
pub filled-parts : (schema : List ℕ) (p : Place) → good_place schema p ≡ true → p.filled ≡ true
    → (good_query schema p.query ≡ true) × (head_safe schema p.query ≡ true)
filled-parts schema p good filled =
    let e : good_query schema p.query && head_safe schema p.query ≡ true =
    subst (λ (t : Bool). cond t (good_query schema p.query && head_safe schema p.query) (blank_query p.query) ≡ true) filled good
    in
    (and_left (good_query schema p.query) (head_safe schema p.query) e, and_right (good_query schema p.query) (head_safe schema p.query) e)
