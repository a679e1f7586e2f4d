-- The chase at the record's limit of 24 rows, as two examples: the table of `joins` has the same with small limits.
use Rattle.std.specs.Prelude.{List, [], ◌∷◌}
use Rattle.theory.specs.Query.{◌∈◌}
use Rattle.minimization.specs.Examples.{v, R, query}
use Rattle.joins.specs.JoinChase.{overflow}
use Rattle.joins.specs.Examples.{Example, chases_to, grows, Meaning, R·a·b}

-- 24 rows are reached, and a 25th is one too many
abbrev pub at_limit : List Example
at_limit =
    grows [] (R·a·b ∷ []) 24 (query [] (R (v 0) (v 10) ∷ R (v 1) (v 11) ∷ R (v 2) (v 12) ∷ R (v 3) (v 13) ∷ R (v 3) (v 14) ∷ R (v 3) (v 15) ∷ [])) 24
    ∷ chases_to [] (R·a·b ∷ []) 24 (query [] (R (v 0) (v 10) ∷ R (v 1) (v 11) ∷ R (v 2) (v 12) ∷ R (v 3) (v 13) ∷ R (v 4) (v 14) ∷ [])) overflow
    ∷ []

-- Each means what it says
abbrev pub LimitMeans : Type 0
LimitMeans = (x : Example) → x ∈ at_limit → Meaning x
