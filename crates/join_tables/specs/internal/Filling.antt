-- Tables of rows as they are filled.
use Rattle.std.specs.Prelude.{◌≡◌, List, ℕ, suc, ◌+◌, ◌*◌, ◌-◌, ◌≤◌, ◌<◌, length, get_or}
use Rattle.join_lookup.specs.declared.Index.{Index}
use Rattle.join_lookup.specs.internal.Starts.{start_of, row_count}

-- Each row has, at its last word, a link to where it begins
pub record Threaded (schema words nodes : List ℕ) : Type 0 where
  pub prior : (p : ℕ) → p < row_count schema words → get_or nodes (6 * (start_of schema words (suc p) - 1)) 0 ≡ start_of schema words p

-- Heads and nodes in which nothing but table t is changed
pub record Beside (t : ℕ) (heads nodes heads' nodes' : List ℕ) : Type 0 where
  pub heads-size : length heads' ≡ length heads
  pub nodes-size : length nodes' ≡ length nodes
  pub heads-kept : (b u : ℕ) → u < 5 → (u ≡ t → ⊥) → get_or heads' (5 * b + u) 0 ≡ get_or heads (5 * b + u) 0
  pub nodes-kept : (n u : ℕ) → u < 6 → (u ≡ t + 1 → ⊥) → get_or nodes' (6 * n + u) 0 ≡ get_or nodes (6 * n + u) 0

-- There are buckets, room for the tables, and every word's place is one of 32 bits
pub record Roomy (words : List ℕ) (x : Index) (heads nodes : List ℕ) : Type 0 where
  pub some : 0 < x.buckets
  pub heads-room : 5 * x.buckets ≤ length heads
  pub nodes-room : 6 * length words ≤ length nodes
  pub short : length words < 4294967296
