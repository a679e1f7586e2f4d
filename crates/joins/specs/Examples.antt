-- Examples that single out each rule of the chase with join dependencies: a table, and some closed facts. First what an example says (`Meaning`),
-- then how it is computed (`holds`), then the table. The relations are those of the examples of minimization: R has columns a and b, S has a, b
-- and c, B has a and b.
use Rattle.std.specs.Prelude.{◌≡◌, Bool, true, false, ◌&&◌, List, [], ◌∷◌, ◌++◌, ℕ, eqb, length}
use Rattle.std.specs.Bool.{beq}
use Rattle.std.proofs.Math.Option.{Option, none, some}
use Rattle.lists.specs.Tests.{every}
use Rattle.theory.specs.Query.{Entry, Row, Query, ◌∈◌}
use Rattle.theory.specs.Database.{Database, Dependency, JoinDependency}
use Rattle.theory.specs.Containment.{Contained, Counterexample}
use Rattle.minimization.specs.Examples.{schema, same_query, over_schema, v, k, R, S, B, query}
use Rattle.joins.specs.Join.{LegalForBoth, join_fits}
use Rattle.joins.specs.JoinChase.{yields, first_missing, Outcome, chased, overflow, JoinChases, join_chase, join_contained}

-- An example: what a call with these arguments gives
pub data Example : Type 0 where
  -- with these dependencies and this limit the chase of a query has this outcome, row by row
  chases_to : List Dependency → List JoinDependency → ℕ → Query → Outcome → Example
  -- the chase ends in a query with so many rows
  grows : List Dependency → List JoinDependency → ℕ → Query → ℕ → Example
  -- the first query is contained in the second, or it is not
  compares : List Dependency → List JoinDependency → Query → Query → Bool → Example

-- What an example says. Where the first query is not contained in the second, a database shows it
abbrev pub Meaning : Example → Type 0
Meaning (chases_to ds js limit q outcome) = JoinChases schema ds js limit q outcome
Meaning (grows ds js limit q n) = (result : Query) × JoinChases schema ds js limit q (chased result) × (length result.rows ≡ n)
Meaning (compares ds js p q true) = Contained (LegalForBoth schema ds js) p q
Meaning (compares ds js p q false) = (D : Database) × (t : List ℕ) × Counterexample (LegalForBoth schema ds js) p q D t

-- ---- how it is computed

-- Whether two outcomes are the same
unfoldable pub same_outcome : Outcome → Outcome → Bool
same_outcome (chased p) (chased q) = same_query p q
same_outcome (chased p) overflow = false
same_outcome overflow (chased q) = false
same_outcome overflow overflow = true

-- Whether an outcome is a query with so many rows
unfoldable pub has_rows : Outcome → ℕ → Bool
has_rows (chased q) n = eqb (length q.rows) n
has_rows overflow n = false

-- Whether there is an answer and it is this one
unfoldable pub is_answer : Option Bool → Bool → Bool
is_answer none b = false
is_answer (some a) b = beq a b

-- Whether dependencies of both kinds and the rows of a query are over the relations of the examples; of two queries that are compared, the first is asked
unfoldable pub over_both : List Dependency → List JoinDependency → Query → Bool
over_both ds js q = over_schema ds q && every (join_fits schema) js

-- Whether an example is over the schema and as the definitions compute it
unfoldable pub holds : Example → Bool
holds (chases_to ds js limit q outcome) = over_both ds js q && same_outcome (join_chase schema ds js limit q) outcome
holds (grows ds js limit q n) = over_both ds js q && has_rows (join_chase schema ds js limit q) n
holds (compares ds js p q answer) = over_both ds js p && is_answer (join_contained schema ds js 24 p q) answer

-- ---- how the table is written

-- A chase that ends in a query without head
abbrev ends : List (Row Entry) → Outcome
ends rows = chased (query [] rows)

-- R is the product of its columns
abbrev pub R·a·b : JoinDependency
R·a·b = record { relation = 0; sets = (0 ∷ []) ∷ (1 ∷ []) ∷ [] }

-- The same with the sets in the other order
abbrev R·b·a : JoinDependency
R·b·a = record { relation = 0; sets = (1 ∷ []) ∷ (0 ∷ []) ∷ [] }

-- S is the join of its columns a, b and a, c
abbrev S·ab·ac : JoinDependency
S·ab·ac = record { relation = 1; sets = (0 ∷ 1 ∷ []) ∷ (0 ∷ 2 ∷ []) ∷ [] }

-- S is the join of its columns a, b and b, c
abbrev S·ab·bc : JoinDependency
S·ab·bc = record { relation = 1; sets = (0 ∷ 1 ∷ []) ∷ (1 ∷ 2 ∷ []) ∷ [] }

-- S is the join of its three pairs of columns
abbrev S·ab·bc·ca : JoinDependency
S·ab·bc·ca = record { relation = 1; sets = (0 ∷ 1 ∷ []) ∷ (1 ∷ 2 ∷ []) ∷ (2 ∷ 0 ∷ []) ∷ [] }

-- a determines b in S
abbrev S·a→b : Dependency
S·a→b = record { relation = 1; left = 0 ∷ []; right = 1 }

-- a never varies in S
abbrev S·∅→a : Dependency
S·∅→a = record { relation = 1; left = []; right = 0 }

-- a and b determine c in S
abbrev S·ab→c : Dependency
S·ab→c = record { relation = 1; left = 0 ∷ 1 ∷ []; right = 2 }

-- ---- the table

-- Repeated rows
abbrev pub repeats : List Example
repeats =
    -- with a join dependency held they go in every relation, the earliest staying
    chases_to [] (S·ab·ac ∷ []) 24 (query [] (R (v 0) (v 1) ∷ R (v 1) (v 0) ∷ S (v 0) (v 1) (v 2) ∷ R (v 0) (v 1) ∷ S (v 0) (v 1) (v 2) ∷ []))
    (ends (R (v 0) (v 1) ∷ R (v 1) (v 0) ∷ S (v 0) (v 1) (v 2) ∷ []))
    -- rows of two relations are no repeats, nor is a constant a variable of its number
    ∷ chases_to [] (S·ab·ac ∷ []) 24 (query [] (R (v 0) (v 1) ∷ B (v 0) (v 1) ∷ R (v 0) (k 1) ∷ []))
    (ends (R (v 0) (v 1) ∷ B (v 0) (v 1) ∷ R (v 0) (k 1) ∷ []))
    -- with none held they stay, also beyond the limit
    ∷ chases_to (S·a→b ∷ []) [] 1 (query [] (S (v 0) (v 1) (v 2) ∷ R (v 0) (v 1) ∷ S (v 0) (v 3) (v 2) ∷ R (v 0) (v 1) ∷ []))
    (ends (S (v 0) (v 1) (v 2) ∷ R (v 0) (v 1) ∷ S (v 0) (v 1) (v 2) ∷ R (v 0) (v 1) ∷ []))
    ∷ []

-- The order in which rows are added
abbrev pub order : List Example
order =
    -- at the end, by the first set's row, then by the second's
    chases_to [] (S·ab·ac ∷ []) 24 (query (v 0 ∷ []) (S (v 0) (v 1) (v 2) ∷ S (v 0) (v 3) (v 4) ∷ []))
    (chased (query (v 0 ∷ []) (S (v 0) (v 1) (v 2) ∷ S (v 0) (v 3) (v 4) ∷ S (v 0) (v 1) (v 4) ∷ S (v 0) (v 3) (v 2) ∷ [])))
    ∷ chases_to [] (R·a·b ∷ []) 24 (query [] (R (v 0) (v 1) ∷ R (v 2) (v 3) ∷ [])) (ends (R (v 0) (v 1) ∷ R (v 2) (v 3) ∷ R (v 0) (v 3) ∷ R (v 2) (v 1) ∷ []))
    -- so the order of the sets counts
    ∷ chases_to [] (R·b·a ∷ []) 24 (query [] (R (v 0) (v 1) ∷ R (v 2) (v 3) ∷ [])) (ends (R (v 0) (v 1) ∷ R (v 2) (v 3) ∷ R (v 2) (v 1) ∷ R (v 0) (v 3) ∷ []))
    -- join dependencies in held order
    ∷ chases_to [] (R·a·b ∷ S·ab·ac ∷ []) 24 (query [] (S (v 4) (v 5) (v 6) ∷ S (v 4) (v 7) (v 8) ∷ R (v 0) (v 1) ∷ R (v 2) (v 3) ∷ []))
    (ends (S (v 4) (v 5) (v 6) ∷ S (v 4) (v 7) (v 8) ∷ R (v 0) (v 1) ∷ R (v 2) (v 3) ∷ R (v 0) (v 3) ∷ R (v 2) (v 1)
    ∷ S (v 4) (v 5) (v 8) ∷ S (v 4) (v 7) (v 6) ∷ []))
    ∷ chases_to [] (S·ab·ac ∷ R·a·b ∷ []) 24 (query [] (S (v 4) (v 5) (v 6) ∷ S (v 4) (v 7) (v 8) ∷ R (v 0) (v 1) ∷ R (v 2) (v 3) ∷ []))
    (ends (S (v 4) (v 5) (v 6) ∷ S (v 4) (v 7) (v 8) ∷ R (v 0) (v 1) ∷ R (v 2) (v 3) ∷ S (v 4) (v 5) (v 8) ∷ S (v 4) (v 7) (v 6)
    ∷ R (v 0) (v 3) ∷ R (v 2) (v 1) ∷ []))
    -- and from the first on after each row, not from the one that asked for it
    ∷ chases_to [] (S·ab·ac ∷ S·ab·bc ∷ []) 24 (query [] (S (v 0) (v 0) (v 0) ∷ S (v 1) (v 0) (v 1) ∷ S (v 0) (v 1) (v 2) ∷ []))
    (ends (S (v 0) (v 0) (v 0) ∷ S (v 1) (v 0) (v 1) ∷ S (v 0) (v 1) (v 2) ∷ S (v 0) (v 0) (v 2) ∷ S (v 0) (v 1) (v 0) ∷ S (v 0) (v 0) (v 1)
    ∷ S (v 0) (v 1) (v 1) ∷ S (v 1) (v 0) (v 0) ∷ S (v 1) (v 0) (v 2) ∷ []))
    -- functional steps first: with a row added before them there would be a third
    ∷ chases_to (S·a→b ∷ []) (S·ab·ac ∷ []) 2 (query [] (S (v 0) (v 1) (v 2) ∷ S (v 0) (v 3) (v 4) ∷ []))
    (ends (S (v 0) (v 1) (v 2) ∷ S (v 0) (v 1) (v 4) ∷ []))
    -- repeated rows go before a row is added
    ∷ chases_to [] (S·ab·ac ∷ []) 4 (query [] (S (v 0) (v 1) (v 2) ∷ S (v 0) (v 1) (v 2) ∷ S (v 0) (v 3) (v 4) ∷ []))
    (ends (S (v 0) (v 1) (v 2) ∷ S (v 0) (v 3) (v 4) ∷ S (v 0) (v 1) (v 4) ∷ S (v 0) (v 3) (v 2) ∷ []))
    ∷ []

-- Which rows go together
abbrev pub together : List Example
together =
    -- rows that differ in a shared column do not
    chases_to [] (S·ab·ac ∷ []) 24 (query [] (S (v 0) (v 1) (v 2) ∷ S (v 5) (v 3) (v 4) ∷ [])) (ends (S (v 0) (v 1) (v 2) ∷ S (v 5) (v 3) (v 4) ∷ []))
    -- three rows of which each two agree where their sets overlap
    ∷ chases_to [] (S·ab·bc·ca ∷ []) 24 (query [] (S (k 1) (k 2) (k 6) ∷ S (k 5) (k 2) (k 3) ∷ S (k 1) (k 4) (k 3) ∷ []))
    (ends (S (k 1) (k 2) (k 6) ∷ S (k 5) (k 2) (k 3) ∷ S (k 1) (k 4) (k 3) ∷ S (k 1) (k 2) (k 3) ∷ []))
    -- a row of another relation is none of R, and a dependency of R says nothing of B
    ∷ chases_to [] (R·a·b ∷ []) 24 (query [] (R (v 0) (v 1) ∷ B (v 2) (v 3) ∷ B (v 4) (v 5) ∷ [])) (ends (R (v 0) (v 1) ∷ B (v 2) (v 3) ∷ B (v 4) (v 5) ∷ []))
    ∷ []

-- The limit: no row is added to as many rows
abbrev pub limits : List Example
limits =
    chases_to [] (R·a·b ∷ []) 4 (query [] (R (v 0) (v 1) ∷ R (v 2) (v 3) ∷ [])) (ends (R (v 0) (v 1) ∷ R (v 2) (v 3) ∷ R (v 0) (v 3) ∷ R (v 2) (v 1) ∷ []))
    ∷ chases_to [] (R·a·b ∷ []) 3 (query [] (R (v 0) (v 1) ∷ R (v 2) (v 3) ∷ [])) overflow
    -- rows that are not added count for nothing
    ∷ chases_to [] (R·a·b ∷ []) 0 (query [] (R (v 0) (v 1) ∷ B (v 2) (v 3) ∷ [])) (ends (R (v 0) (v 1) ∷ B (v 2) (v 3) ∷ []))
    -- also where a clash would come later: R, held first, asks for a sixth row; held last it comes too late
    ∷ chases_to (S·ab→c ∷ []) (R·a·b ∷ S·ab·ac ∷ []) 5 (query [] (R (v 0) (v 1) ∷ R (v 2) (v 3) ∷ S (v 0) (v 1) (k 3) ∷ S (v 0) (v 2) (k 4) ∷ [])) overflow
    ∷ chases_to (S·ab→c ∷ []) (S·ab·ac ∷ R·a·b ∷ []) 5 (query [] (R (v 0) (v 1) ∷ R (v 2) (v 3) ∷ S (v 0) (v 1) (k 3) ∷ S (v 0) (v 2) (k 4) ∷ [])) (ends [])
    ∷ []

-- The c of two rows of S with one a
abbrev two_c : Query
two_c = query (v 2 ∷ v 4 ∷ []) (S (v 0) (v 1) (v 2) ∷ S (v 0) (v 3) (v 4) ∷ [])

-- The c of a row of S, twice
abbrev same_c : Query
same_c = query (v 0 ∷ v 0 ∷ []) (S (v 1) (v 2) (v 0) ∷ [])

-- The a and b of a row of S with the c of a row with the same a
abbrev crossed : Query
crossed = query (v 0 ∷ v 1 ∷ v 4 ∷ []) (S (v 0) (v 1) (v 2) ∷ S (v 0) (v 3) (v 4) ∷ [])

-- The rows of S
abbrev straight : Query
straight = query (v 0 ∷ v 1 ∷ v 2 ∷ []) (S (v 0) (v 1) (v 2) ∷ [])

-- Both kinds together, after a well-known example of the literature: the join of a, b with a, c and a, b determining c give that a determines c
abbrev pub both : List Example
both =
    -- the row that is added lets the functional step make c one, and becomes the first row
    chases_to (S·ab→c ∷ []) (S·ab·ac ∷ []) 24 (query (v 0 ∷ v 1 ∷ v 2 ∷ []) (S (v 0) (v 1) (v 2) ∷ S (v 0) (v 3) (v 4) ∷ []))
    (chased (query (v 0 ∷ v 1 ∷ v 2 ∷ []) (S (v 0) (v 1) (v 2) ∷ S (v 0) (v 3) (v 2) ∷ [])))
    -- as a comparison: two rows with one a have one c
    ∷ compares (S·ab→c ∷ []) (S·ab·ac ∷ []) two_c same_c true
    -- which neither kind gives alone
    ∷ compares (S·ab→c ∷ []) [] two_c same_c false
    ∷ compares [] (S·ab·ac ∷ []) two_c same_c false
    -- a clash that only the added row brings, and never, which stays
    ∷ chases_to (S·ab→c ∷ []) (S·ab·ac ∷ []) 24 (query (v 0 ∷ []) (S (v 0) (v 1) (k 3) ∷ S (v 0) (v 2) (k 4) ∷ [])) (chased (query (k 0 ∷ []) []))
    ∷ chases_to (S·ab→c ∷ []) (S·ab·ac ∷ R·a·b ∷ []) 24 (query (k 0 ∷ k 0 ∷ []) []) (chased (query (k 0 ∷ k 0 ∷ []) []))
    -- a column that never varies makes the join a product of the other two
    ∷ chases_to (S·∅→a ∷ []) (S·ab·ac ∷ []) 24 (query [] (S (v 0) (v 1) (v 2) ∷ S (v 3) (v 4) (v 5) ∷ []))
    (ends (S (v 0) (v 1) (v 2) ∷ S (v 0) (v 4) (v 5) ∷ S (v 0) (v 1) (v 5) ∷ S (v 0) (v 4) (v 2) ∷ []))
    -- a join dependency alone: two queries that it makes equivalent
    ∷ compares [] (S·ab·ac ∷ []) crossed straight true
    ∷ compares [] (S·ab·ac ∷ []) straight crossed true
    ∷ compares [] [] crossed straight false
    ∷ []

-- The whole table
abbrev pub examples : List Example
examples = repeats ++ order ++ together ++ limits ++ both

-- Each example of the table means what it says
abbrev pub ExamplesMean : Type 0
ExamplesMean = (x : Example) → x ∈ examples → Meaning x

-- ---- closed facts

-- In a column that two sets share the first set's row counts
abbrev pub YieldsFirst : Type 0
YieldsFirst = yields schema S·ab·ac ((0 ∷ 1 ∷ [], S (k 1) (k 2) (k 3)) ∷ (0 ∷ 2 ∷ [], S (k 4) (k 5) (k 6)) ∷ []) ≡ S (k 1) (k 2) (k 6)

-- A database with its first missing choice: the first row of R for a with the second row of R for b
abbrev pub ChoiceFound : Type 0
ChoiceFound =
    first_missing schema (R (k 1) (k 2) ∷ B (k 1) (k 2) ∷ R (k 3) (k 4) ∷ []) R·a·b ≡ some ((0 ∷ [], R (k 1) (k 2)) ∷ (1 ∷ [], R (k 3) (k 4)) ∷ [])

-- and one that obeys
abbrev pub NoChoice : Type 0
NoChoice = first_missing schema (R (k 1) (k 2) ∷ R (k 3) (k 2) ∷ []) R·a·b ≡ none

-- An overflow gives no answer, also where the second query is never
abbrev pub OverflowDecides : Type 0
OverflowDecides = join_contained schema [] (R·a·b ∷ []) 3 (query [] (R (v 0) (v 1) ∷ R (v 2) (v 3) ∷ [])) (query [] []) ≡ none

-- A set must be there, the relation known and each column in a set
abbrev pub FitsNot : Type 0
FitsNot =
    (join_fits schema (record { relation = 0; sets = [] }) ≡ false) × (join_fits schema (record { relation = 3; sets = (0 ∷ []) ∷ [] }) ≡ false)
    × (join_fits schema (record { relation = 1; sets = (0 ∷ 1 ∷ []) ∷ (1 ∷ []) ∷ [] }) ≡ false)
