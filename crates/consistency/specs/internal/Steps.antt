-- What one step makes of a state: only functions of this crate cite it.
use Rattle.std.specs.Prelude.{◌≡◌, ◌⊎◌, List, ℕ, ◌^◌, ◌<◌, get_or, set}
use Rattle.std.specs.Int.Bits.{bit_and, bit_or}
use Rattle.consistency.specs.internal.Solution.{Bit, together}
use Rattle.consistency.specs.declared.State.{State}

-- n is the mask with row r too, unless the candidates `left` are the `old` ones
abbrev pub Marked : ℕ → ℕ → ℕ → ℕ → ℕ → Type 0
Marked mask old left r n = ((left ≡ old) × (n ≡ mask)) ⊎ (n ≡ bit_or mask (2 ^ r))

-- row q of the state t is what the choice of candidate d for row r makes of row q of the state s
pub record RowAfter (table : List ℕ) (s t : State) (r d q : ℕ) : Type 0 where
  pub candidates : get_or t.current q 0 ≡ bit_and (get_or s.current q 0) (together table r d q)
  pub blamed : Marked (get_or s.culprits q 0) (get_or s.current q 0) (get_or t.current q 0) r (get_or t.culprits q 0)

-- t is the state after the choice of candidate d for row r in the state s
pub record After (rows : ℕ) (table : List ℕ) (s t : State) (r d : ℕ) : Type 0 where
  pub chosen : t.chosen ≡ set s.chosen r d
  pub placed : t.placed ≡ bit_or s.placed (2 ^ r)
  pub each : (q : ℕ) → q < rows → RowAfter table s t r d q

-- the mask m has each candidate of row q that goes together with one of the first n candidates of row p, whose candidates are `own`
abbrev pub Supports : List ℕ → ℕ → ℕ → ℕ → ℕ → ℕ → Type 0
Supports table own p q n m = (d e : ℕ) → d < n → Bit own d → Bit (together table p d q) e → Bit m e

-- no candidate of row q in the mask m goes together with one of row p, whose candidates are `own`: by the one or the other entry of the table
abbrev pub Apart : List ℕ → ℕ → ℕ → ℕ → ℕ → Type 0
Apart table own p q m =
    (d e : ℕ) → d < 24 → e < 24 → Bit m e → Bit own d → Bit (together table p d q) e → Bit (together table q e p) d → ⊥
