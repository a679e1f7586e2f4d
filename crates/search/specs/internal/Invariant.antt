-- What holds of the search's steps and of its failures. Nothing here is part of the promise of `solve`.
-- Masks, choices and candidates are as in `Solution`; `placed` is the mask of the rows that have a choice.
use Rattle.std.specs.Prelude.{◌≡◌, ⊤, Option, None, Some, Result, MatchResult, List, ℕ, zero, suc, ◌+◌, ◌-◌, ◌*◌, ◌/◌, ◌%◌, ◌^◌, ◌<◌, ◌≤◌, get_or}
use Rattle.consistency.specs.internal.Solution.{Bit, together, Solution}
use Rattle.consistency.specs.internal.Consistent.{NoBit, Below, HasChosen, Refuted, Left, Accounted}
use Rattle.consistency.specs.declared.State.{State}

-- how many rows below n are not placed
unfoldable pub missing : ℕ → ℕ → ℕ
missing placed zero = 0
missing placed (suc n) = missing placed n + (1 - placed / 2 ^ n % 2)

-- a row that is not placed, or none where each row is
abbrev pub IsNext : ℕ → ℕ → Option ℕ → Type 0
IsNext rows placed None = (q : ℕ) → q < rows → Bit placed q
IsNext rows placed (Some r) = (r < rows) × NoBit placed r

-- d is the first member of the mask from c on, and below 24
pub record IsFirst (mask c d : ℕ) : Type 0 where
  pub from : c ≤ d
  pub within : d < 24
  pub member : Bit mask d
  pub first : (k : ℕ) → c ≤ k → k < d → Bit mask k → ⊥

-- the first member of the mask from c on, or none where there is none below 24
abbrev pub IsCandidate : ℕ → ℕ → Option ℕ → Type 0
IsCandidate mask c None = (k : ℕ) → c ≤ k → k < 24 → Bit mask k → ⊥
IsCandidate mask c (Some d) = IsFirst mask c d

-- row r has one of its candidates, and goes together with every row
pub record RowFits (rows : ℕ) (domain table chosen : List ℕ) (r : ℕ) : Type 0 where
  pub held : Bit (get_or domain r 0) (get_or chosen r 0)
  pub joined : (q : ℕ) → q < rows → Bit (together table r (get_or chosen r 0) q) (get_or chosen q 0)

-- no solution has what is chosen at each row of the mask
abbrev pub Excluded : ℕ → List ℕ → List ℕ → ℕ → List ℕ → Type 0
Excluded rows domain table mask chosen =
    (f : ℕ → ℕ) → Solution rows domain table f → ((q : ℕ) → q < rows → Bit mask q → f q ≡ get_or chosen q 0) → ⊥

-- what a test says: the fact where it finds nothing, and else rows whose choices are in no solution
abbrev pub TestSays : ℕ → List ℕ → List ℕ → List ℕ → Type 0 → Result ⊤ ℕ → Type 0
TestSays rows domain table chosen Fact tested = MatchResult tested (λ _. Fact) (λ mask. Excluded rows domain table mask chosen)

-- what an attempt says: a solution, or rows to blame
abbrev pub Attempted : ℕ → List ℕ → List ℕ → State → Result (List ℕ) ℕ → Type 0
Attempted rows domain table s attempt =
    MatchResult attempt (λ chosen. Solution rows domain table (λ q. get_or chosen q 0)) (λ blame. Refuted rows domain table s.placed blame s.chosen)

-- a state in which the next row can be placed, with work enough for the rows that are not
pub record Placeable (rows : ℕ) (domain table : List ℕ) (s : State) (work : ℕ) : Type 0 where
  pub rows_few : rows ≤ 13
  pub below : Below s.chosen
  pub sound : Accounted rows domain table s
  pub enough : 26 * missing s.placed rows < work

-- a state in which the candidates of a row from c on can be tried: every solution that has what is chosen at the placed rows
-- to blame has one of these
pub record Tryable (rows : ℕ) (domain table : List ℕ) (s : State) (work row c blame : ℕ) : Type 0 where
  pub rows_few : rows ≤ 13
  pub below : Below s.chosen
  pub sound : Accounted rows domain table s
  pub row_in : row < rows
  pub free : NoBit s.placed row
  pub from-few : c ≤ 24
  pub enough : 26 * missing s.placed rows ≤ work + c
  pub left : Left rows domain table s.placed blame s.chosen row (get_or s.current row 0)
  pub from : (f : ℕ → ℕ) → Solution rows domain table f → HasChosen s.placed blame s.chosen f → c ≤ f row
