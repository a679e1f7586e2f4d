-- The sets of a join dependency in another order.
use Rattle.std.specs.Prelude.{◌≡◌, ℕ, ◌≤◌, ◌<◌, length, get_or}
use Rattle.query.specs.declared.JoinDependency.{JoinDependency}

-- A join dependency with its sets in another order: the first stay where they are, and the others are the same
pub record Arranged (j r : JoinDependency) (first : ℕ) : Type 0 where
  pub relation : r.relation ≡ j.relation
  pub count : r.count ≡ j.count
  pub shaped : length r.sets ≡ 4
  pub stay : (k : ℕ) → k < first → get_or r.sets k 0 ≡ get_or j.sets k 0
  pub from : (k : ℕ) → first ≤ k → k < j.count → (l : ℕ) × (first ≤ l) × (l < j.count) × (get_or r.sets k 0 ≡ get_or j.sets l 0)
  pub back : (k : ℕ) → first ≤ k → k < j.count → (l : ℕ) × (first ≤ l) × (l < j.count) × (get_or j.sets k 0 ≡ get_or r.sets l 0)
  pub past : (k : ℕ) → j.count ≤ k → get_or r.sets k 0 ≡ get_or j.sets k 0
