-- The code of an entry: one number for constants and variables, as where a query is read as a database. It tells entries apart whose constants are below
-- 2,147,483,648, as those of a good query are.
use Rattle.std.specs.Prelude.{cond, ℕ, ◌-◌, ◌%◌, ltb}
use Rattle.theory.specs.Containment.{freeze}
use Rattle.query.specs.declared.Entry.{Entry}
use Rattle.query.specs.declared.Entry.TheVariants.{Constant, Variable}
use Rattle.query.specs.View.{entry_of}

-- A constant is its own code, variable v has 2,147,483,648 + v
abbrev pub code_of : Entry → ℕ
code_of e = freeze 2147483648 (entry_of e)

-- The entry of a code. A variable's number is below 256
abbrev pub decoded : ℕ → Entry
decoded code = cond (ltb code 2147483648) (Constant code) (Variable ((code - 2147483648) % 256))
