-- The table of leaders: four words for each, and hash chains that lead to them.
use Rattle.std.specs.Prelude.{◌≡◌, List, ℕ, ◌+◌, ◌*◌, ◌≤◌, ◌<◌, length, get_or, set}
use Rattle.theory.specs.Query.{Row, column}
use Rattle.theory.specs.Database.{Database, Dependency}
use Rattle.words.specs.Broken.{nth_row}
use Rattle.grouping.specs.internal.Hash.{bucket_for, tag_of}
use Rattle.grouping.specs.internal.Chains.{Chained}
use Rattle.grouping.specs.declared.Sought.{Sought}
use Rattle.grouping.specs.declared.Beside.{Beside}
use Rattle.grouping.specs.declared.Beside.TheVariants as beside

-- What is compared of a row
abbrev pub sought_of : ℕ → Dependency → Row ℕ → Sought
sought_of buckets d r = record { bucket = bucket_for buckets d r; tag = tag_of d r; right = column 0 r d.right }

-- The words of leader s: its link, its position among the rows, its right value and its tag
abbrev pub link_of : List ℕ → ℕ → ℕ
link_of nodes s = get_or nodes (4 * s) 0

abbrev pub position_of : List ℕ → ℕ → ℕ
position_of nodes s = get_or nodes (4 * s + 1) 0

abbrev pub right_in : List ℕ → ℕ → ℕ
right_in nodes s = get_or nodes (4 * s + 2) 0

abbrev pub tag_in : List ℕ → ℕ → ℕ
tag_in nodes s = get_or nodes (4 * s + 3) 0

-- The nodes with these words for leader s
abbrev pub with_leader : List ℕ → ℕ → ℕ → ℕ → Sought → List ℕ
with_leader nodes s link number q = set (set (set (set nodes (4 * s) link) (4 * s + 1) number) (4 * s + 2) q.right) (4 * s + 3) q.tag

-- The row of leader s
abbrev pub leader_of : Database → List ℕ → ℕ → Row ℕ
leader_of D nodes s = nth_row D (position_of nodes s)

-- The bucket of leader s
abbrev pub key_of : Dependency → Database → ℕ → List ℕ → ℕ → ℕ
key_of d D buckets nodes s = bucket_for buckets d (leader_of D nodes s)

-- The first `count` leaders have their right values and tags in the nodes, and the chains hold them
pub record Leaders (d : Dependency) (D : Database) (heads nodes : List ℕ) (count : ℕ) : Type 0 where
  pub stored : 4 * count ≤ length nodes
  pub rights : (s : ℕ) → s < count → right_in nodes s ≡ column 0 (leader_of D nodes s) d.right
  pub tags : (s : ℕ) → s < count → tag_in nodes s ≡ tag_of d (leader_of D nodes s)
  pub chained : Chained (key_of d D (length heads) nodes) heads (link_of nodes) count

-- Leader s, of bucket `key s`, is that of the row's group
abbrev pub LeaderFor : (ℕ → ℕ) → List ℕ → Sought → ℕ → Type 0
LeaderFor key nodes q s = (key s ≡ q.bucket) × (tag_in nodes s ≡ q.tag)

-- What a comparison says of a row
abbrev pub BesideSays : (ℕ → ℕ) → List ℕ → ℕ → Sought → Beside → Type 0
BesideSays key nodes count q beside.Same = (s : ℕ) × (s < count) × LeaderFor key nodes q s × (right_in nodes s ≡ q.right)
BesideSays key nodes count q (beside.Differs p) = (s : ℕ) × (s < count) × LeaderFor key nodes q s × (p ≡ position_of nodes s)
BesideSays key nodes count q beside.Alone = (s : ℕ) → s < count → LeaderFor key nodes q s → ⊥
