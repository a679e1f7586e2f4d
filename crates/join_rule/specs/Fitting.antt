-- Join dependencies that the record's rule passes fit the schema. Each statement is proved in `proofs/Fitting`.
use Rattle.std.specs.Prelude.{◌≡◌, true, List, ℕ, ◌<◌, get_or}
use Rattle.lists.specs.Tests.{every}
use Rattle.theory.specs.Query.{◌∈◌}
use Rattle.query.specs.declared.JoinDependency.{JoinDependency}
use Rattle.query.specs.View.{join_of, held_joins}
use Rattle.query.specs.Rule.{good_join, good_joins, shaped_join}
use Rattle.joins.specs.Join.{JoinFits, JoinsFit}

-- A good join dependency fits the schema
abbrev pub GoodJoinFits : Type 0
GoodJoinFits = (schema : List ℕ) (j : JoinDependency) → shaped_join j ≡ true → good_join schema j ≡ true → JoinFits schema (join_of j)

-- Those that are held fit it
abbrev pub GoodJoinsFit : Type 0
GoodJoinsFit =
    (schema : List ℕ) (held : ℕ) (joins : List JoinDependency) → every shaped_join joins ≡ true → good_joins schema held joins ≡ true
    → JoinsFit schema (held_joins joins held)

-- The sets of a good one have columns of the relation only
abbrev pub GoodJoinWithin : Type 0
GoodJoinWithin =
    (schema : List ℕ) (j : JoinDependency) → good_join schema j ≡ true
    → (set : List ℕ) → set ∈ (join_of j).sets → (c : ℕ) → c ∈ set → c < get_or schema j.relation 0
