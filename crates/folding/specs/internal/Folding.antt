-- Mappings of a query into some of its own rows, as solutions of a search: candidates and table are those of all rows, and a mask says which rows are
-- left. Only functions of this crate cite these.
use Rattle.std.specs.Prelude.{◌≡◌, ◌⊎◌, List, [], ℕ, ◌+◌, ◌<◌, get_or}
use Rattle.std.specs.Int.Bits.{bit_and}
use Rattle.theory.specs.Query as theory
use Rattle.theory.specs.Query.{◌∈◌}
use Rattle.consistency.specs.internal.Solution.{Bit, Solution}
use Rattle.candidates.specs.internal.Candidates.{Marks}

-- A solution in which each row goes to one of those with a property
abbrev pub FoldsInto : List ℕ → List ℕ → ℕ → (ℕ → Type 0) → Type 0
FoldsInto domain table size P = (f : ℕ → ℕ) × Solution (size + 1) domain table f × ((r : ℕ) → r < size → P (f r))

-- Row d is left, and is not row i
abbrev pub LeftBut : ℕ → ℕ → ℕ → Type 0
LeftBut left i d = Bit left d × (d ≡ i → ⊥)

-- The candidates of each row that are left; the head keeps its own
pub record Among (domain : List ℕ) (size left : ℕ) (all : List ℕ) : Type 0 where
  pub rows : (r : ℕ) → r < size → get_or all r 0 ≡ bit_and (get_or domain r 0) left
  pub head : get_or all size 0 ≡ get_or domain size 0

-- What is left once row i is tried: the same if there is no mapping into the others, and else the others
abbrev pub Tried : List ℕ → List ℕ → ℕ → ℕ → ℕ → ℕ → Type 0
Tried domain table size left i next =
    ((next ≡ left) × (Bit left i → FoldsInto domain table size (LeftBut left i) → ⊥))
    ⊎ (Marks size next (LeftBut left i) × FoldsInto domain table size (Bit next))

-- What stands past the end of the rows
abbrev pub past_row : theory.Row theory.Entry
past_row = record { relation = 0; values = [] }

-- A query with other rows
abbrev pub having : theory.Query → List (theory.Row theory.Entry) → theory.Query
having q rows = record { head = q.head; rows = rows }

-- Each of the rows is one of q's, at a position with a property
abbrev pub RowsAt : theory.Query → (ℕ → Type 0) → List (theory.Row theory.Entry) → Type 0
RowsAt q P rows = (row : theory.Row theory.Entry) → row ∈ rows → (d : ℕ) × P d × (get_or q.rows d past_row ≡ row)
