-- The query of a place as it is read: it has no old code, and what a stored query that stands for it tells. Assumes nothing.
use mathlib.Core.Path.{◌≡◌, subst}
use mathlib.Core.Bool.{true}
use Prim.Native.Nat.{ℕ, ◌*◌, ◌≤◌}
use native.Mathlib.Omega.{arith}
use lib.ListN.{length}
use Rattle.theory.specs.Query.{WellFormed}
use Rattle.theory.specs.Codes.{QueryWithoutOld}
use Rattle.theory.specs.Containment.{ConstantsBelow}
use Rattle.theory.proofs.Theorems.{a-query-is-read}
use Rattle.query.specs.Types.{Query}
use Rattle.query.specs.View.{query_of}
use Rattle.query.proofs.Good.{good-query}
use Rattle.query.proofs.Stored as stored
use Rattle.record.specs.declared.Record.{Record}
use Rattle.record.specs.View.{schema_of, codes_of}
use Rattle.record.specs.Rule.{good_record}
use Rattle.record.specs.Calls.{stored_at, query_at}
use Rattle.record.specs.internal.Reading.{ReadAs}
use Rattle.record.proofs.Stored.{narrow}
use Rattle.record.proofs.Meaning.{codes-stay}

module _ (r : Record) (good : good_record r ≡ true) (place : ℕ) where
  pub read-current : QueryWithoutOld (codes_of r) (query_at r place)
  read-current = a-query-is-read (codes_of r) (query_of (schema_of r) (stored_at r place)) (codes-stay r good)

  module _ (x : Query) (is : ReadAs r place x) where
    pub read-below : ConstantsBelow 2147483648 (query_at r place)
    read-below = subst (ConstantsBelow 2147483648) is.query (stored.constants-below 12 (schema_of r) (narrow r good) x is.good)

    pub read-formed : length x.cells ≡ 96 → WellFormed (schema_of r) (query_at r place)
    read-formed long =
        let few : 8 * x.size ≤ length x.cells = omega (arith, long, (good-query 12 (schema_of r) x is.good).size) in
        subst (WellFormed (schema_of r)) is.query (stored.well-formed 12 (schema_of r) (narrow r good) x is.good few is.safe)
