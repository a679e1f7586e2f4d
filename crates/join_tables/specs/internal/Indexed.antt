-- The tables of a join dependency.
use Rattle.std.specs.Prelude.{◌≡◌, true, List, ℕ, zero, suc, ◌+◌, ◌≤◌, ◌<◌, length, get_or}
use Rattle.std.specs.Int.Bits.{bit_and, bit_or}
use Rattle.theory.specs.Query.{◌∈◌}
use Rattle.query.specs.View.{columns_of, join_of}
use Rattle.query.specs.declared.JoinDependency.{JoinDependency}
use Rattle.words.specs.Words.{spells_rows}
use Rattle.joins.specs.Join.{JoinFits}
use Rattle.join_lookup.specs.declared.Index.{Index}
use Rattle.join_lookup.specs.internal.Starts.{Known}
use Rattle.theory.specs.Codes.{CodePair}
use Rattle.join_lookup.specs.internal.Tables.{Room, Tabled}

-- The columns of the first k sets
unfoldable pub filled_to : List ℕ → ℕ → ℕ
filled_to sets zero = 0
filled_to sets (suc k) = bit_or (filled_to sets k) (get_or sets k 0)

-- The columns of set k that sets before it have
abbrev pub shared_at : List ℕ → ℕ → ℕ
shared_at sets k = bit_and (get_or sets k 0) (filled_to sets k)

-- A join dependency whose choices can be searched
pub record Searchable (schema words : List ℕ) (j : JoinDependency) : Type 0 where
  pub spelled : spells_rows schema words ≡ true
  pub fits : JoinFits schema (join_of j)
  pub shaped : length j.sets ≡ 4
  pub few : j.count ≤ 4
  pub small : (k : ℕ) → get_or j.sets k 0 < 256
  pub narrow : get_or schema j.relation 0 ≤ 8
  pub within : (k : ℕ) → k < j.count → (c : ℕ) → c ∈ columns_of (get_or j.sets k 0) → c < get_or schema j.relation 0

-- The tables of a join dependency: one for each set, by the columns that it shares with those before, and one of all rows
pub record Indexed (codes : List CodePair) (schema words : List ℕ) (j : JoinDependency) (x : Index) (heads nodes : List ℕ) : Type 0 where
  pub known : Known schema x
  pub relation : x.relation ≡ j.relation
  pub room : Room words x heads nodes
  pub levels : (k : ℕ) → k < j.count → Tabled codes schema words x (k + 1) (shared_at j.sets k) (get_or j.sets k 0) heads nodes
  pub whole : Tabled codes schema words x 0 (filled_to j.sets j.count) 0 heads nodes
