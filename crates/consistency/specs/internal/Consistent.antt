-- What holds of the rows' candidates in a state of a search, and what making it consistent and choosing a candidate promise.
-- Masks, choices and candidates are as in `Solution`; `placed` is the mask of the rows that have a choice.
use Rattle.std.specs.Prelude.{◌≡◌, List, ℕ, ◌/◌, ◌%◌, ◌^◌, ◌<◌, get_or, set}
use Rattle.std.specs.Int.Bits.{bit_or}
use Rattle.consistency.specs.internal.Solution.{Bit, Solution}
use Rattle.consistency.specs.declared.State.{State}

-- i is not in the mask m
abbrev pub NoBit : ℕ → ℕ → Type 0
NoBit m i = m / 2 ^ i % 2 ≡ 0

-- each choice is below 24
abbrev pub Below : List ℕ → Type 0
Below chosen = (q : ℕ) → get_or chosen q 0 < 24

-- f has what is chosen at each placed row of the mask
abbrev pub HasChosen : ℕ → ℕ → List ℕ → (ℕ → ℕ) → Type 0
HasChosen placed mask chosen f = (q : ℕ) → Bit placed q → Bit mask q → f q ≡ get_or chosen q 0

-- no solution has what is chosen at each placed row of the mask
abbrev pub Refuted : ℕ → List ℕ → List ℕ → ℕ → ℕ → List ℕ → Type 0
Refuted rows domain table placed mask chosen =
    (f : ℕ → ℕ) → Solution rows domain table f → HasChosen placed mask chosen f → ⊥

-- every solution that has what is chosen at each placed row of the mask has a candidate of `left` at row q
abbrev pub Left : ℕ → List ℕ → List ℕ → ℕ → ℕ → List ℕ → ℕ → ℕ → Type 0
Left rows domain table placed mask chosen q left =
    (f : ℕ → ℕ) → Solution rows domain table f → HasChosen placed mask chosen f → Bit left (f q)

-- the culprits of each row account for the candidates that it has no more
abbrev pub Accounted : ℕ → List ℕ → List ℕ → State → Type 0
Accounted rows domain table s =
    (q : ℕ) → q < rows → Left rows domain table s.placed (get_or s.culprits q 0) s.chosen q (get_or s.current q 0)

-- t has the choices of s, and its culprits account for its candidates where those of s do
pub record Settles (rows : ℕ) (table : List ℕ) (s t : State) : Type 0 where
  pub chosen : t.chosen ≡ s.chosen
  pub placed : t.placed ≡ s.placed
  pub sound : (domain : List ℕ) → Accounted rows domain table s → Accounted rows domain table t

-- t has the choices of s and candidate d for row r, and its culprits account for its candidates where those of s do
pub record Follows (rows : ℕ) (table : List ℕ) (s t : State) (r d : ℕ) : Type 0 where
  pub chosen : t.chosen ≡ set s.chosen r d
  pub placed : t.placed ≡ bit_or s.placed (2 ^ r)
  pub sound : (domain : List ℕ) → Accounted rows domain table s → Accounted rows domain table t
