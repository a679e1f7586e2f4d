-- Tables of rows: hash chains in lent words. Table t has a head for each bucket b, at word 5 * b + t, and a link for the row at each word `at`, at word
-- 6 * at + 1 + t. Both are words at which rows begin, or the end of the words. Chains go from earlier to later rows.
use Rattle.std.specs.Prelude.{◌≡◌, List, ℕ, suc, ◌+◌, ◌*◌, ◌≤◌, ◌<◌, ◌/◌, ◌%◌, length, take, get_or}
use Rattle.theory.specs.Database.{Agree}
use Rattle.query.specs.View.{columns_of}
use Rattle.tables.specs.internal.Table.{mixed}
use Rattle.join_lookup.specs.declared.Index.{Index}
use Rattle.theory.specs.Codes.{CodePair}
use Rattle.join_lookup.specs.internal.Starts.{start_of, row_count, row_of, Of, Has}

-- The bucket of some values in a set of columns, of so many: the number made of them, times a factor, in proportion
abbrev pub bucket_of : ℕ → ℕ → List ℕ → ℕ
bucket_of buckets columns values = ((mixed 0 columns values * 2654435769) % 4294967296 * buckets) / 4294967296

-- The bucket of the row at position p, by its values in a set of columns
abbrev pub bucket_at : List CodePair → List ℕ → List ℕ → Index → ℕ → ℕ → ℕ
bucket_at codes schema words x columns p = bucket_of x.buckets columns (row_of codes schema words p).values

-- A row at position p that table t may leave out: an earlier row has the same values in the columns of a set. Table 0 leaves out none
abbrev pub LeftOut : List CodePair → List ℕ → List ℕ → Index → ℕ → ℕ → ℕ → Type 0
LeftOut codes schema words x t set p =
    (t ≡ 0 → ⊥) × (q : ℕ) × (q < p) × Of codes schema words x q × Agree 0 (columns_of set) (row_of codes schema words q) (row_of codes schema words p)

-- From position `from` on the first row of a bucket that table t has begins at word r, or r is the end
pub record Leads (codes : List CodePair) (schema words : List ℕ) (x : Index) (t columns set bucket from r : ℕ) : Type 0 where
  pub row : ℕ
  pub place : r ≡ start_of schema words row
  pub after : from ≤ row
  pub inside : row ≤ row_count schema words
  pub here : row < row_count schema words → Of codes schema words x row × (bucket_at codes schema words x columns row ≡ bucket)
  pub passed : (p : ℕ) → from ≤ p → p < row → Of codes schema words x p → bucket_at codes schema words x columns p ≡ bucket
      → LeftOut codes schema words x t set p

-- Table t of the rows from position `from` on, by the columns of a set; rows that repeat another set's values may be left out
pub record Table (codes : List CodePair) (schema words : List ℕ) (x : Index) (t columns set from : ℕ) (heads nodes : List ℕ) : Type 0 where
  pub head : (b : ℕ) → b < x.buckets → Leads codes schema words x t columns set b from (get_or heads (5 * b + t) 0)
  pub link : (p : ℕ) → from ≤ p → p < row_count schema words → Of codes schema words x p
      → Leads codes schema words x t columns set (bucket_at codes schema words x columns p) (suc p) (get_or nodes (6 * start_of schema words p + 1 + t) 0)

-- There is room for the tables, if there are any buckets
abbrev pub Room : List ℕ → Index → List ℕ → List ℕ → Type 0
Room words x heads nodes = 0 < x.buckets → (5 * x.buckets ≤ length heads) × (6 * length words ≤ length nodes)

-- Table t is there, if there are any buckets
abbrev pub Tabled : List CodePair → List ℕ → List ℕ → Index → ℕ → ℕ → ℕ → List ℕ → List ℕ → Type 0
Tabled codes schema words x t columns set heads nodes = 0 < x.buckets → Table codes schema words x t columns set 0 heads nodes

-- On the way through the rows with some values in a set of columns, from position `from` on, word r is where the next candidate begins, or the end
pub record Reaches (codes : List CodePair) (schema words : List ℕ) (x : Index) (t columns set : ℕ) (values : List ℕ) (from r : ℕ) : Type 0 where
  pub row : ℕ
  pub place : r ≡ start_of schema words row
  pub after : from ≤ row
  pub inside : row ≤ row_count schema words
  pub here : 0 < x.buckets → row < row_count schema words
      → Of codes schema words x row × (bucket_at codes schema words x columns row ≡ bucket_of x.buckets columns (take x.width values))
  pub passed : (p : ℕ) → from ≤ p → p < row → Has codes schema words x columns values p → LeftOut codes schema words x t set p

-- Word r is where the first row that has some values in a set of columns begins, or the end
pub record FirstWith (codes : List CodePair) (schema words : List ℕ) (x : Index) (columns : ℕ) (values : List ℕ) (r : ℕ) : Type 0 where
  pub row : ℕ
  pub place : r ≡ start_of schema words row
  pub inside : row ≤ row_count schema words
  pub here : row < row_count schema words → Has codes schema words x columns values row
  pub before : (p : ℕ) → p < row → Has codes schema words x columns values p → ⊥
