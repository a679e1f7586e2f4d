-- Numbers that stand in an order, and numbers that do not: two facts that tell `follows` from its likes. Each is proved in `proofs/Order`.
use Rattle.std.specs.Prelude.{◌≡◌, true, false, List, [], ◌∷◌, ℕ}
use Rattle.refusals.specs.Refusals.{bad_dependency, bad_record, follows, order}

-- Nothing stands in the order of no numbers
abbrev pub NothingFollows : Type 0
NothingFollows = (n : ℕ) (ns : List ℕ) → follows (n ∷ ns) [] ≡ false

-- The state of the record is asked before a dependency, and not after it
abbrev pub RecordFirst : Type 0
RecordFirst = (follows (bad_record ∷ bad_dependency ∷ []) order ≡ true) × (follows (bad_dependency ∷ bad_record ∷ []) order ≡ false)

-- The order by the numbers: 14, 7, 11, then by number, but 18 after 3, 15 after 4, and 17 last
abbrev pub OrderByNumber : Type 0
OrderByNumber = order ≡ 14 ∷ 7 ∷ 11 ∷ 1 ∷ 2 ∷ 3 ∷ 18 ∷ 4 ∷ 15 ∷ 5 ∷ 6 ∷ 8 ∷ 9 ∷ 10 ∷ 12 ∷ 13 ∷ 16 ∷ 19 ∷ 17 ∷ []
