-- Groups of rows, by positions: what is known of a dependency once the first rows are passed.
use Rattle.std.specs.Prelude.{◌≡◌, ℕ, ◌≤◌, ◌<◌, length}
use Rattle.theory.specs.Query.{Row, column}
use Rattle.theory.specs.Database.{Database, Dependency, Agree}
use Rattle.words.specs.Broken.{nth_row}
use Rattle.grouping.specs.internal.Hash.{bucket_for, tag_of}

-- Two rows keep a dependency: if both are of its relation and agree on the left columns, they agree on the right one
abbrev pub PairKeeps : Dependency → Row ℕ → Row ℕ → Type 0
PairKeeps d r s = r.relation ≡ d.relation → s.relation ≡ d.relation → Agree 0 d.left r s → column 0 r d.right ≡ column 0 s d.right

-- Two rows are told apart by the left columns of a dependency: they are not both of its relation and agree on them
abbrev pub Apart : Dependency → Row ℕ → Row ℕ → Type 0
Apart d r s = r.relation ≡ d.relation → s.relation ≡ d.relation → Agree 0 d.left r s → ⊥

-- The left columns tell the rows below position n apart
abbrev pub KeyBelow : Dependency → Database → ℕ → Type 0
KeyBelow d D n = (i j : ℕ) → i < j → j < n → Apart d (nth_row D i) (nth_row D j)

-- The left columns are a key: no two rows of the relation, at different positions, agree on them
abbrev pub Key : Dependency → Database → Type 0
Key d D = KeyBelow d D (length D)

-- Two rows are in one group: they have the same bucket and the same tag
abbrev pub Together : ℕ → Dependency → Row ℕ → Row ℕ → Type 0
Together buckets d r s = (bucket_for buckets d r ≡ bucket_for buckets d s) × (tag_of d r ≡ tag_of d s)

-- The row at position k has a leader, with its right value
abbrev pub Led : ℕ → Dependency → Database → ℕ → (ℕ → ℕ) → ℕ → Type 0
Led buckets d D count number k =
    (s : ℕ) × (s < count) × (number s ≤ k) × Together buckets d (nth_row D (number s)) (nth_row D k)
    × (column 0 (nth_row D (number s)) d.right ≡ column 0 (nth_row D k) d.right)

-- Once the rows below n are passed, with `count` leaders, of which leader s is the row at position `number s`:
-- the rows below `least` have a leader with their right value, and keep the dependency with each later row that is passed
pub record Groups (buckets : ℕ) (d : Dependency) (D : Database) (n least count : ℕ) (number : ℕ → ℕ) : Type 0 where
  pub passed : (s : ℕ) → s < count → number s < n
  pub apart : (s t : ℕ) → s < t → t < count → Together buckets d (nth_row D (number s)) (nth_row D (number t)) → ⊥
  pub led : (k : ℕ) → k < n → k < least → (nth_row D k).relation ≡ d.relation → Led buckets d D count number k
  pub kept : (k j : ℕ) → k < j → j < n → k < least → PairKeeps d (nth_row D k) (nth_row D j)
