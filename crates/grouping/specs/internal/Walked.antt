-- A walk over the rows of the words that enters the leaders of groups into a table, and keeps the first row that may break the dependency.
use Rattle.std.specs.Prelude.{◌≡◌, true, List, ℕ, ◌+◌, ◌≤◌, ◌<◌, length, drop, Option, None, Some}
use Rattle.std.proofs.Math.Option.{none}
use Rattle.query.specs.View.{dependency_of}
use Rattle.query.specs.declared.Dependency.{Dependency}
use Rattle.theory.specs.Codes.{CodePair}
use Rattle.words.specs.Words.{database_of, database_read}
use Rattle.words.specs.Testing.{first_pair_from}
use Rattle.words.specs.internal.Found.{From}
use Rattle.grouping.specs.internal.Leaders.{position_of, Leaders}
use Rattle.grouping.specs.internal.Groups.{Groups, Key, KeyBelow}
use Rattle.words.specs.declared.Position.{Position}
use Rattle.grouping.specs.declared.Walk.{Walk}
use Rattle.grouping.specs.declared.End.{End}
use Rattle.grouping.specs.declared.End.TheVariants.{Found, Nothing, Distinct}

-- The row at `at` is the row at position n, or the words end at `at` and there are no more than n rows
pub record RowBegins (schema words : List ℕ) (at n : ℕ) : Type 0 where
  pub from : From schema words at n
  pub read : drop n (database_of schema words) ≡ database_of schema (drop at words)

-- What holds once the rows before a row are passed
pub record Walked (codes : List CodePair) (schema words : List ℕ) (d : Dependency) (row : Position) (w : Walk) (heads nodes : List ℕ) : Type 0 where
  pub bucket : 0 < length heads
  pub placed : RowBegins schema words row.at row.number
  pub few : w.count ≤ row.number
  pub table : Leaders (dependency_of d) (database_read codes schema words) heads nodes w.count
  pub groups : Groups (length heads) (dependency_of d) (database_read codes schema words) row.number w.least w.count (position_of nodes)
  pub key : w.key ≡ true → (w.least ≡ length words) × KeyBelow (dependency_of d) (database_read codes schema words) row.number

-- No row before the position is the first of a broken pair
pub record Skips (codes : List CodePair) (schema words : List ℕ) (d : Dependency) (p : Position) : Type 0 where
  pub from : From schema words p.at p.number
  pub same : (n : ℕ) → first_pair_from (dependency_of d) n (database_read codes schema words)
      ≡ first_pair_from (dependency_of d) (n + p.number) (database_read codes schema (drop p.at words))

-- Where a walk leads to: no row before the one that is found is the first of a broken pair, or, where none is found, there is no such pair
abbrev pub SkipsTo : List CodePair → List ℕ → List ℕ → Dependency → Option Position → Type 0
SkipsTo codes schema words d None = (n : ℕ) → first_pair_from (dependency_of d) n (database_read codes schema words) ≡ none
SkipsTo codes schema words d (Some p) = Skips codes schema words d p × (p.at < length words)

-- The end at a row, if there is one
abbrev pub end_at : Option Position → End Position
end_at None = Nothing
end_at (Some p) = Found p

-- How a walk ends, as far as it leads; if it sees that the left columns are distinct, they are a key
abbrev pub Ends : List CodePair → List ℕ → List ℕ → Dependency → End Position → Type 0
Ends codes schema words d (Found p) = SkipsTo codes schema words d (Some p)
Ends codes schema words d Nothing = SkipsTo codes schema words d None
Ends codes schema words d Distinct = SkipsTo codes schema words d None × Key (dependency_of d) (database_read codes schema words)

-- The row at a position is found, or there are no more rows than that
abbrev pub Located : List ℕ → List ℕ → ℕ → Option Position → Type 0
Located schema words number None = length (database_of schema words) ≤ number
Located schema words number (Some p) = RowBegins schema words p.at p.number × (p.number ≡ number) × (p.at < length words)
