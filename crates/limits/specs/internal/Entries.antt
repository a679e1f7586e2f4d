-- Tests of one entry: whether it is a given variable, and whether it is safe in a head.
use Rattle.std.specs.Prelude.{Bool, true, false, List, ℕ, eqb}
use Rattle.theory.specs.Query as theory
use Rattle.query.specs.declared.Entry.{Entry}
use Rattle.query.specs.declared.Entry.TheVariants.{Constant, Variable}
use Rattle.query.specs.declared.Cell.{Cell}

-- Whether an entry is variable v
abbrev pub is_variable : ℕ → Entry → Bool
is_variable v (Constant n) = false
is_variable v (Variable w) = eqb v w

-- The entry of a cell is variable v
abbrev pub names_variable : ℕ → Cell → Bool
names_variable v c = is_variable v c.entry

-- Whether an entry is a constant or one of the given variables
abbrev pub safe_entry : List ℕ → Entry → Bool
safe_entry variables (Constant n) = true
safe_entry variables (Variable v) = theory.member v variables

-- The entry of a cell is a constant or one of the given variables
abbrev pub safe_cell : List ℕ → Cell → Bool
safe_cell variables c = safe_entry variables c.entry
