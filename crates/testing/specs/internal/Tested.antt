-- What the walk of a dependency over the rows of a database tells.
use Rattle.std.specs.Prelude.{◌≡◌, ℕ, None, Some}
use Rattle.theory.specs.Database.{Dependency, Database}
use Rattle.words.specs.Testing.{first_pair_from}
use Rattle.words.specs.internal.Found.{pair_of}
use Rattle.grouping.specs.declared.End.{End}
use Rattle.grouping.specs.declared.End.TheVariants.{Found, Nothing, Distinct}
use Rattle.grouping.specs.internal.Groups.{Key}

-- The first pair of rows that break the dependency, by their positions; or that none does, and, if it is seen, that the left columns are a key
abbrev pub Tested : Dependency → Database → End (ℕ × ℕ) → Type 0
Tested d D (Found pair) = Some pair ≡ pair_of (first_pair_from d 0 D)
Tested d D Nothing = None ≡ pair_of (first_pair_from d 0 D)
Tested d D Distinct = (None ≡ pair_of (first_pair_from d 0 D)) × Key d D
