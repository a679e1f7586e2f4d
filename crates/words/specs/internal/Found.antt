-- What the searches of a test answer: the positions of what the definitions find.
use Rattle.std.specs.Prelude.{◌≡◌, true, List, ℕ, ◌^◌, ◌≤◌, ◌<◌, length, drop, get_or}
use Rattle.std.specs.Prelude.{Option as Maybe, None, Some}
use Rattle.std.proofs.Math.Option.{Option, none, some}
use Rattle.theory.specs.Query.{Row}
use Rattle.query.specs.declared.Dependency.{Dependency}
use Rattle.words.specs.Words.{spells_rows}

-- The position of a row that is found
abbrev pub partner_of : Option (ℕ × Row ℕ) → Maybe ℕ
partner_of none = None
partner_of (some row) = Some row.0

-- The positions of a pair of rows that is found
abbrev pub pair_of : Option ((ℕ × Row ℕ) × (ℕ × Row ℕ)) → Maybe (ℕ × ℕ)
pair_of none = None
pair_of (some rows) = Some (rows.0.0, rows.1.0)

-- A dependency that can be tested: its relation is known, and its columns are columns of it, of which there are at most 8
pub record Testable (schema : List ℕ) (d : Dependency) : Type 0 where
  pub known : d.relation < length schema
  pub narrow : get_or schema d.relation 0 ≤ 8
  pub left-fits : d.left < 2 ^ get_or schema d.relation 0
  pub right-fits : d.right < get_or schema d.relation 0

-- The rows of the words from `at` on, the first of them at position n
pub record From (schema words : List ℕ) (at n : ℕ) : Type 0 where
  pub inside : at ≤ length words
  pub counted : n ≤ at
  pub good : spells_rows schema (drop at words) ≡ true
