-- The refusals of SPECIFICATION: a name for each number, the order in which they are asked, and the first whose condition holds.
use Rattle.std.specs.Prelude.{Bool, true, false, cond, List, [], ◌∷◌, ℕ, eqb}
use Rattle.std.proofs.Math.Option.{Option, none, some}
use Rattle.lists.specs.Over.{over}

-- ---- because of the input

-- A file under 2 bytes, a wrong number of parts, or pairs that do not fit
abbrev pub bad_directory : ℕ
bad_directory = 1

-- A pair of the directory breaks the rule of offsets
abbrev pub bad_offsets : ℕ
bad_offsets = 2

-- Relations break the record's rule, or the part of a file ends too early
abbrev pub bad_relations : ℕ
bad_relations = 3

-- A pair of codes breaks the record's rule, or what follows the widths in a file is not 1 to 16 of them and no more
abbrev pub bad_code : ℕ
bad_code = 18

-- A functional dependency, or a relation or set asked of, breaks the record's rule, or the part of a file ends too early
abbrev pub bad_dependency : ℕ
bad_dependency = 4

-- A join dependency breaks the record's rule, or what follows the functional ones in a file is not 1 to 4 of them and no more
abbrev pub bad_join : ℕ
bad_join = 15

-- A query breaks the record's rule, its part of a file has another length, or the last part of a file is a vacant place
abbrev pub bad_query : ℕ
bad_query = 5

-- A head variable stands in no row
abbrev pub unsafe_head : ℕ
unsafe_head = 6

-- A place above 7
abbrev pub no_such_place : ℕ
no_such_place = 7

-- The lengths of two heads differ
abbrev pub heads_differ : ℕ
heads_differ = 8

-- A database row of an unknown relation, or one that is cut short
abbrev pub bad_database : ℕ
bad_database = 9

-- Answers or a file longer than the lent buffer
abbrev pub buffer_too_short : ℕ
buffer_too_short = 10

-- ---- because of the state

-- The place to be read or dropped is vacant
abbrev pub place_vacant : ℕ
place_vacant = 11

-- The place to be filled is filled
abbrev pub place_filled : ℕ
place_filled = 12

-- As many functional dependencies are held as there is room for
abbrev pub dependencies_full : ℕ
dependencies_full = 13

-- The record breaks its rule
abbrev pub bad_record : ℕ
bad_record = 14

-- As many join dependencies are held as there is room for
abbrev pub joins_full : ℕ
joins_full = 16

-- As many pairs of codes are held as there is room for
abbrev pub codes_full : ℕ
codes_full = 19

-- The chase of a comparison would have more rows than there is room for
abbrev pub too_many_rows : ℕ
too_many_rows = 17

-- ---- the order

-- The order in which a call asks: the record, the places, then by number, but 18 and 15 after 3 and 4, and 17 last of all
abbrev pub order : List ℕ
order =
    bad_record ∷ no_such_place ∷ place_vacant ∷ bad_directory ∷ bad_offsets ∷ bad_relations ∷ bad_code ∷ bad_dependency ∷ bad_join ∷ bad_query ∷ unsafe_head
    ∷ heads_differ ∷ bad_database ∷ buffer_too_short ∷ place_filled ∷ dependencies_full ∷ joins_full ∷ codes_full ∷ too_many_rows ∷ []

-- A condition under which a call is refused, with the number of the refusal
abbrev pub Condition : Type 0
Condition = Bool × ℕ

-- The number of the first condition that holds, if one does: a call refuses with this number
unfoldable pub first_holding : List Condition → Option ℕ
first_holding [] = none
first_holding (c ∷ rest) = cond c.0 (some c.1) (first_holding rest)

-- Whether numbers stand in the given order, each as often as it likes
unfoldable pub follows : List ℕ → List ℕ → Bool
follows [] order = true
follows (n ∷ ns) [] = false
follows (n ∷ ns) (m ∷ order) = cond (eqb n m) (follows ns (m ∷ order)) (follows (n ∷ ns) order)

-- ---- replies

-- What a call says: it is refused with a number, or it gives a value
pub data Reply (A : Type 0) : Type 0 where
  refused : ℕ → Reply A
  gives : A → Reply A

-- The reply of a call that is refused with a number, or not
abbrev pub reply : {A : Type 0} → Option ℕ → A → Reply A
reply (some n) value = refused n
reply none value = gives value

-- The number with which a reply refuses, if it does
abbrev pub refusal_in : {A : Type 0} → Reply A → Option ℕ
refusal_in (refused n) = some n
refusal_in (gives a) = none

infixl 10 ◌>>=◌
-- Go on with the value that is given; a refusal stands, so the first fault decides
unfoldable pub ◌>>=◌ : {A B : Type 0} → Reply A → (A → Reply B) → Reply B
gives a >>= next = next a
refused n >>= next = refused n

-- A buffer with something written over its start and the rest as it was, or all of it as it was where the call is refused
abbrev pub over_unless : {A : Type 0} → Option ℕ → List A → List A → List A
over_unless none xs buffer = over buffer 0 xs
over_unless (some number) xs buffer = buffer
