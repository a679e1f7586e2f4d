-- A solution: one candidate for each row, such that every two rows' candidates go together.
-- A mask is a number whose binary digit i stands for row or candidate i.
use Rattle.std.specs.Prelude.{◌≡◌, ◌↔◌, List, ℕ, ◌+◌, ◌*◌, ◌/◌, ◌%◌, ◌^◌, ◌<◌, get_or}

-- i is in the mask m
abbrev pub Bit : ℕ → ℕ → Type 0
Bit m i = m / 2 ^ i % 2 ≡ 1

-- the mask of the candidates of row q that go together with candidate d of row r
abbrev pub together : List ℕ → ℕ → ℕ → ℕ → ℕ
together table r d q = get_or table ((r * 24 + d) * 13 + q) 0

-- f r is a candidate of each row r, and goes together with f q for each row q (itself too)
pub record Solution (rows : ℕ) (domain table : List ℕ) (f : ℕ → ℕ) : Type 0 where
  pub below : (r : ℕ) → r < rows → f r < 24
  pub held : (r : ℕ) → r < rows → Bit (get_or domain r 0) (f r)
  pub joined : (r q : ℕ) → r < rows → q < rows → Bit (together table r (f r) q) (f q)

-- Over the one and the other candidates the solutions are the same
abbrev pub SameSolutions : ℕ → List ℕ → List ℕ → List ℕ → Type 0
SameSolutions rows domain other table = (f : ℕ → ℕ) → Solution rows domain table f ↔ Solution rows other table f
