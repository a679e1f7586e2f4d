-- Dependencies whose left columns are keys of the rows.
use Rattle.std.specs.Prelude.{List, ℕ, Option, None, Some, get_or}
use Rattle.theory.specs.Database.{Database}
use Rattle.query.specs.View.{dependency_of}
use Rattle.query.specs.declared.Dependency.{Dependency}
use Rattle.grouping.specs.internal.Groups.{Key}

-- The left columns of a dependency that is noted are a key of the database
abbrev pub KeyIn : Database → Option Dependency → Type 0
KeyIn D None = Unit {0}
KeyIn D (Some d) = Key (dependency_of d) D

-- So are those of each
abbrev pub Keyed : Database → List (Option Dependency) → Type 0
Keyed D keys = (k : ℕ) → KeyIn D (get_or keys k None)
