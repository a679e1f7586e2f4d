-- The rows of a relation, partitioned by the columns that all sets of a join dependency share. A part is a bucket of these columns. Each part has a chain in
-- lent words, from later rows to earlier ones: a link is 0, or one more than the word at which a row begins.
use Rattle.std.specs.Prelude.{◌≡◌, true, List, ℕ, zero, suc, ◌+◌, ◌≤◌, ◌<◌, get_or}
use Rattle.std.proofs.Math.Option.{none}
use Rattle.theory.specs.Query.{Row, ◌∈◌}
use Rattle.query.specs.View.{columns_of, join_of}
use Rattle.query.specs.declared.JoinDependency.{JoinDependency}
use Rattle.words.specs.Words.{database_read, spells_rows}
use Rattle.tables.specs.internal.Table.{bucket_of}
use Rattle.join_lookup.specs.internal.Starts.{start_of, row_count, row_of, Of}
use Rattle.join_testing.specs.Unmet.{first_choice}
use Rattle.theory.specs.Codes.{CodePair}
use Rattle.join_parts.specs.declared.Partition.{Partition}

-- Each set of a join dependency has the columns of a mask
abbrev pub SharedBy : JoinDependency → ℕ → Type 0
SharedBy j mask = (set : List ℕ) → set ∈ (join_of j).sets → (c : ℕ) → c ∈ columns_of mask → c ∈ set

-- The part of a row with some values
abbrev pub part_of : Partition → List ℕ → ℕ
part_of x values = bucket_of x.index.buckets x.columns values

-- The row at position p is in part b
abbrev pub InPart : List CodePair → List ℕ → List ℕ → Partition → ℕ → ℕ → Type 0
InPart codes schema words x b p = Of codes schema words x.index p × (part_of x (row_of codes schema words p).values ≡ b)

-- A link to the last of the first n rows, which is in part b; 0 where n is 0
abbrev pub LinksTo : List CodePair → List ℕ → List ℕ → Partition → ℕ → ℕ → ℕ → Type 0
LinksTo codes schema words x b zero r = r ≡ 0
LinksTo codes schema words x b (suc p) r = (r ≡ start_of schema words p + 1) × InPart codes schema words x b p

-- Of the rows before position m the last in part b is the last of the first `rows`, and r links to it
pub record Last (codes : List CodePair) (schema words : List ℕ) (x : Partition) (b m r : ℕ) : Type 0 where
  pub rows : ℕ
  pub inside : rows ≤ m
  pub links : LinksTo codes schema words x b rows r
  pub passed : (p : ℕ) → rows ≤ p → p < m → InPart codes schema words x b p → ⊥

-- The chains of the rows before position m
pub record Chained (codes : List CodePair) (schema words : List ℕ) (x : Partition) (m : ℕ) (heads links : List ℕ) : Type 0 where
  pub head : (b : ℕ) → b < x.index.buckets → Last codes schema words x b m (get_or heads b 0)
  pub link : (p : ℕ) → p < m → (b : ℕ) → InPart codes schema words x b p → Last codes schema words x b p (get_or links (start_of schema words p) 0)

-- Words whose rows, as they are read, are rows of the database, among them all of part b
pub record PartOf (codes : List CodePair) (schema words : List ℕ) (x : Partition) (b : ℕ) (part : List ℕ) : Type 0 where
  pub spelled : spells_rows schema part ≡ true
  pub rows : (r : Row ℕ) → r ∈ database_read codes schema part → r ∈ database_read codes schema words
  pub whole : (p : ℕ) → p < row_count schema words → InPart codes schema words x b p → row_of codes schema words p ∈ database_read codes schema part

-- Part b has no choice of rows that yields a row that is not there
abbrev pub PartObeys : List CodePair → List ℕ → List ℕ → JoinDependency → Partition → ℕ → Type 0
PartObeys codes schema words j x b =
    (part : List ℕ) × PartOf codes schema words x b part × (first_choice schema (join_of j) (database_read codes schema part) ≡ none)
