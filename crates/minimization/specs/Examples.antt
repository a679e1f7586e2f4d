-- The reference examples P1 to P11 and V1 to V5 of SPECIFICATION, Examples, worked examples of the literature on tableaux and the chase, and some that
-- single out a rule: one table.
-- First what an example says (`Meaning`), then how it is computed (`holds`), then the table, and last the one statement that covers it.
use Rattle.std.specs.Prelude.{◌≡◌, ◌↔◌, Bool, true, false, ◌&&◌, List, [], ◌∷◌, ◌++◌, ℕ, ◌≤◌, eqb, ltb, length, get_or}
use Rattle.std.specs.Bool.{beq}
use Rattle.lists.specs.Tests.{every, same_lists}
use Rattle.theory.specs.Query.{Entry, constant, variable, Row, Query, same_entry, ◌∈◌}
use Rattle.theory.specs.Database.{Database, Dependency, Legal}
use Rattle.theory.specs.Chase.{Chases, chase}
use Rattle.theory.specs.Containment.{Contained, Counterexample}
use Rattle.minimization.specs.Reduction.{Reduction, Rival}
use Rattle.determination.specs.Determined.{Determined, Increasing, determined}
use Rattle.minimization.specs.Search.{contained}
use Rattle.minimization.specs.Kept.{reduced}
use Rattle.minimization.specs.Checking.{same_row}

-- An example: what a call with these arguments gives
pub data Example : Type 0 where
  -- under these dependencies the query reduces to one with this head and so many rows, after so many replacements. Never has 0 rows
  reduces : List Dependency → Query → List Entry → ℕ → ℕ → Example
  -- under these dependencies the result of the query that is given has these rows, in this order
  keeps : List Dependency → Query → List (Row Entry) → Example
  -- under these dependencies the chase of the first query ends in the second, row by row, after so many replacements
  chases_to : List Dependency → Query → Query → ℕ → Example
  -- under these dependencies the first query is contained in the second, or it is not
  compares : List Dependency → Query → Query → Bool → Example
  -- under these dependencies the left set determines so many columns of the relation
  determines : List Dependency → ℕ → List ℕ → ℕ → Example

-- ---- what an example says

-- The relations of the examples: R has columns a and b, S has a, b and c, B has a and b
abbrev pub schema : List ℕ
schema = 2 ∷ 3 ∷ 2 ∷ []

-- A query reduces to one with this head and so many rows, after so many replacements: it has a result, each result is so, no query with the same answers has
-- fewer rows, and the chase makes so many replacements
pub record Reduces (ds : List Dependency) (q : Query) (head : List Entry) (rows count : ℕ) : Type 0 where
  pub result : (T : Query) × Reduction ds q T
  pub each : (T : Query) → Reduction ds q T → (T.head ≡ head) × (length T.rows ≡ rows)
  pub least : (U : Query) → Rival (Legal schema ds) q U → rows ≤ length U.rows
  pub counted : (chased : Query) × Chases ds q chased count

-- The left set determines so many columns: those that it determines, in ascending order, are so many
pub record Counts (ds : List Dependency) (relation : ℕ) (left : List ℕ) (columns : ℕ) : Type 0 where
  pub set : List ℕ
  pub ascending : Increasing set
  pub size : length set ≡ columns
  pub exact : (c : ℕ) → (c ∈ set) ↔ Determined schema ds relation left c

-- What an example says, over all databases. Where the first query is not contained in the second, a database shows it
abbrev pub Meaning : Example → Type 0
Meaning (reduces ds q head rows count) = Reduces ds q head rows count
Meaning (keeps ds q rows) = (reduced ds q).rows ≡ rows
Meaning (chases_to ds q result count) = Chases ds q result count
Meaning (compares ds p q true) = Contained (Legal schema ds) p q
Meaning (compares ds p q false) = (D : Database) × (t : List ℕ) × Counterexample (Legal schema ds) p q D t
Meaning (determines ds relation left columns) = Counts ds relation left columns

-- ---- how it is computed

-- Whether two queries have the same head and the same rows in the same order
unfoldable pub same_query : Query → Query → Bool
same_query p q = same_lists same_entry p.head q.head && same_lists same_row p.rows q.rows

-- Whether a dependency fits a schema
unfoldable pub fits_columns : List ℕ → Dependency → Bool
fits_columns widths d =
    ltb d.relation (length widths) && every (λ c. ltb c (get_or widths d.relation 0)) d.left && ltb d.right (get_or widths d.relation 0)

-- Whether a row fits a schema
unfoldable pub fits_schema : List ℕ → Row Entry → Bool
fits_schema widths r = ltb r.relation (length widths) && eqb (length r.values) (get_or widths r.relation 0)

-- Whether the dependencies and the rows of a query are over the relations of the examples
unfoldable pub over_schema : List Dependency → Query → Bool
over_schema ds q = every (fits_columns schema) ds && every (fits_schema schema) q.rows

-- Whether an example is over the schema and as the definitions compute it
unfoldable pub holds : Example → Bool
holds (reduces ds q head rows count) =
    over_schema ds q && same_lists same_entry (reduced ds q).head head && eqb (length (reduced ds q).rows) rows && eqb (chase ds q).count count
holds (keeps ds q rows) = over_schema ds q && same_lists same_row (reduced ds q).rows rows
holds (chases_to ds q result count) = over_schema ds q && same_query (chase ds q).query result && eqb (chase ds q).count count
holds (compares ds p q answer) = over_schema ds p && over_schema ds q && beq (contained ds p q) answer
holds (determines ds relation left columns) =
    ltb relation (length schema) && every (fits_columns schema) ds && eqb (length (determined ds relation (get_or schema relation 0) left)) columns

-- ---- how the table is written

-- A variable
abbrev pub v : ℕ → Entry
v n = variable n

-- A constant
abbrev pub k : ℕ → Entry
k n = constant n

-- A row of R, with columns a and b
abbrev pub R : Entry → Entry → Row Entry
R a b = record { relation = 0; values = a ∷ b ∷ [] }

-- A row of S, with columns a, b and c
abbrev pub S : Entry → Entry → Entry → Row Entry
S a b c = record { relation = 1; values = a ∷ b ∷ c ∷ [] }

-- A row of a third relation, with two columns
abbrev pub B : Entry → Entry → Row Entry
B a b = record { relation = 2; values = a ∷ b ∷ [] }

-- A query by its head and rows
abbrev pub query : List Entry → List (Row Entry) → Query
query head rows = record { head = head; rows = rows }

-- A dependency with one left column
abbrev from : ℕ → ℕ → ℕ → Dependency
from relation left right = record { relation = relation; left = left ∷ []; right = right }

-- A dependency without left columns
abbrev never_varies : ℕ → ℕ → Dependency
never_varies relation right = record { relation = relation; left = []; right = right }

-- a determines b in R
abbrev R·a→b : List Dependency
R·a→b = from 0 0 1 ∷ []

-- A dependency whose right column is one of its left columns
abbrev S·ab→b : Dependency
S·ab→b = record { relation = 1; left = 0 ∷ 1 ∷ []; right = 1 }

-- The triangle R(v0,v1), R(v1,v2), R(v2,v0)
abbrev triangle : List (Row Entry)
triangle = R (v 0) (v 1) ∷ R (v 1) (v 2) ∷ R (v 2) (v 0) ∷ []

-- ---- the table

-- P1 to P11 of SPECIFICATION, Examples, in order. P11 has two parts
abbrev pub reference : List Example
reference =
    -- P1
    reduces [] (query (v 0 ∷ []) (R (v 0) (v 1) ∷ R (v 0) (v 2) ∷ [])) (v 0 ∷ []) 1 0
    -- P2
    ∷ reduces [] (query (v 0 ∷ v 1 ∷ v 2 ∷ []) (R (v 0) (v 1) ∷ R (v 0) (v 2) ∷ [])) (v 0 ∷ v 1 ∷ v 2 ∷ []) 2 0
    -- P3
    ∷ reduces R·a→b (query (v 0 ∷ v 1 ∷ v 2 ∷ []) (R (v 0) (v 1) ∷ R (v 0) (v 2) ∷ [])) (v 0 ∷ v 1 ∷ v 1 ∷ []) 1 1
    -- P4
    ∷ reduces R·a→b (query (v 0 ∷ []) (R (v 0) (k 3) ∷ R (v 0) (k 4) ∷ [])) (k 0 ∷ []) 0 0
    -- P5
    ∷ reduces [] (query (v 0 ∷ []) (R (v 0) (k 3) ∷ R (v 0) (k 4) ∷ [])) (v 0 ∷ []) 2 0
    -- P6
    ∷ reduces (from 1 1 2 ∷ from 1 0 1 ∷ []) (query (v 0 ∷ []) (S (v 0) (v 1) (v 2) ∷ S (v 0) (v 3) (v 4) ∷ [])) (v 0 ∷ []) 1 2
    -- P7
    ∷ reduces [] (query [] triangle) [] 3 0
    -- P8
    ∷ reduces [] (query [] (triangle ++ R (v 3) (v 3) ∷ [])) [] 1 0
    -- P9
    ∷ compares [] (query [] (R (v 0) (v 0) ∷ [])) (query [] (R (v 0) (v 1) ∷ [])) true
    -- P10
    ∷ compares [] (query [] (R (v 0) (v 1) ∷ [])) (query [] (R (v 0) (v 0) ∷ [])) false
    -- P11
    ∷ determines (from 1 0 1 ∷ from 1 1 2 ∷ []) 1 (0 ∷ []) 3
    ∷ determines (from 1 0 1 ∷ from 1 1 2 ∷ []) 1 (2 ∷ []) 1
    ∷ []

-- The first of two queries that are often shown first, with x = v0 and y = v1: R(y,x), R(x,z) and R(y,x), R(w,x), R(x,u)
abbrev two_joins : Query
two_joins = query (v 0 ∷ v 1 ∷ []) (R (v 1) (v 0) ∷ R (v 0) (v 2) ∷ [])

-- The second of them
abbrev three_joins : Query
three_joins = query (v 0 ∷ v 1 ∷ []) (R (v 1) (v 0) ∷ R (v 2) (v 0) ∷ R (v 0) (v 3) ∷ [])

-- Worked examples of the literature on tableaux and the chase: equivalence, minimisation, several relations, and those with a dependency.
-- x, y and z have higher numbers than the other variables where a dependency is used: a head variable survives all the same
abbrev pub worked : List Example
worked =
    compares [] two_joins three_joins true
    ∷ compares [] three_joins two_joins true
    ∷ reduces [] three_joins (v 0 ∷ v 1 ∷ []) 2 0
    ∷ reduces [] (query (v 0 ∷ k 4 ∷ v 1 ∷ []) (S (v 0) (k 4) (v 2) ∷ S (v 3) (k 4) (v 4) ∷ S (v 3) (k 4) (v 1) ∷ [])) (v 0 ∷ k 4 ∷ v 1 ∷ []) 2 0
    ∷ reduces [] (query (v 0 ∷ v 1 ∷ []) (B (v 0) (v 1) ∷ R (v 1) (v 2) ∷ R (v 1) (v 3) ∷ R (v 3) (v 1) ∷ [])) (v 0 ∷ v 1 ∷ []) 3 0
    ∷ reduces (from 1 0 1 ∷ []) (query (v 7 ∷ v 8 ∷ v 9 ∷ []) (S (v 7) (v 8) (v 1) ∷ S (v 7) (v 2) (v 9) ∷ [])) (v 7 ∷ v 8 ∷ v 9 ∷ []) 1 1
    ∷ reduces (from 1 1 0 ∷ []) (query (v 7 ∷ v 8 ∷ v 9 ∷ []) (S (k 4) (v 8) (v 9) ∷ S (v 7) (v 8) (v 1) ∷ [])) (k 4 ∷ v 8 ∷ v 9 ∷ []) 1 1
    ∷ reduces (from 1 1 0 ∷ []) (query (k 5 ∷ v 8 ∷ v 9 ∷ []) (S (k 4) (v 8) (v 9) ∷ S (k 5) (v 8) (v 1) ∷ [])) (k 0 ∷ k 0 ∷ k 0 ∷ []) 0 0
    ∷ reduces [] (query (k 5 ∷ v 8 ∷ v 9 ∷ []) (S (k 4) (v 8) (v 9) ∷ S (k 5) (v 8) (v 1) ∷ [])) (k 5 ∷ v 8 ∷ v 9 ∷ []) 2 0
    ∷ reduces (from 1 0 1 ∷ [])
    (query (v 7 ∷ v 8 ∷ []) (S (v 7) (v 8) (v 1) ∷ S (v 7) (v 2) (v 3) ∷ S (v 4) (v 8) (v 3) ∷ S (v 7) (k 4) (v 5) ∷ [])) (v 7 ∷ k 4 ∷ []) 1 2
    ∷ []

-- Further: the query of SPECIFICATION, The listing program; a dependency of R says nothing of B; a clash that comes after a replacement;
-- the first is chased, not the second in its place; never is contained in all and contains no other;
-- both left columns must agree; a row that stands there twice, with a constant that is no clash; a row of B is none of R; the closure in the other held order
abbrev pub further : List Example
further =
    reduces (from 1 0 1 ∷ []) (query (v 0 ∷ v 1 ∷ v 2 ∷ []) (S (v 0) (v 1) (v 2) ∷ S (v 0) (k 7) (v 3) ∷ [])) (v 0 ∷ k 7 ∷ v 2 ∷ []) 1 1
    ∷ reduces R·a→b (query (v 0 ∷ v 1 ∷ v 2 ∷ v 3 ∷ []) (B (v 0) (v 1) ∷ R (v 0) (v 2) ∷ B (v 0) (v 3) ∷ [])) (v 0 ∷ v 1 ∷ v 2 ∷ v 3 ∷ []) 3 0
    ∷ reduces (from 1 1 2 ∷ from 1 0 1 ∷ []) (query (v 0 ∷ []) (S (v 0) (v 1) (k 3) ∷ S (v 0) (v 2) (k 4) ∷ [])) (k 0 ∷ []) 0 1
    ∷ compares R·a→b (query (v 0 ∷ []) (R (v 0) (v 1) ∷ R (v 0) (v 2) ∷ B (v 1) (v 2) ∷ [])) (query (v 0 ∷ []) (R (v 0) (v 1) ∷ B (v 1) (v 1) ∷ [])) true
    ∷ compares [] (query (v 0 ∷ []) (R (v 0) (v 1) ∷ R (v 0) (v 2) ∷ B (v 1) (v 2) ∷ [])) (query (v 0 ∷ []) (R (v 0) (v 1) ∷ B (v 1) (v 1) ∷ [])) false
    ∷ compares R·a→b (query [] (R (v 0) (k 3) ∷ R (v 0) (k 4) ∷ [])) (query [] []) true
    ∷ compares [] (query [] (R (v 0) (v 0) ∷ [])) (query [] []) false
    ∷ reduces (record { relation = 1; left = 0 ∷ 1 ∷ []; right = 2 } ∷ []) (query (v 2 ∷ v 4 ∷ []) (S (v 0) (v 1) (v 2) ∷ S (v 0) (v 3) (v 4) ∷ []))
    (v 2 ∷ v 4 ∷ []) 2 0
    ∷ reduces R·a→b (query (v 0 ∷ []) (R (v 0) (k 3) ∷ R (v 0) (k 3) ∷ [])) (v 0 ∷ []) 1 0
    ∷ reduces R·a→b (query (v 0 ∷ []) (R (v 0) (v 1) ∷ B (v 0) (v 2) ∷ [])) (v 0 ∷ []) 2 0
    ∷ determines (from 1 1 2 ∷ from 1 0 1 ∷ []) 1 (0 ∷ []) 3
    ∷ []

-- The survivor of a replacement: of two variables outside the head the lower, in whichever row it stands; the one in the head, though its number is the higher;
-- of two in the head the lower
abbrev pub survivors : List Example
survivors =
    chases_to R·a→b (query (v 0 ∷ []) (R (v 0) (v 5) ∷ R (v 0) (v 3) ∷ B (v 5) (v 3) ∷ []))
    (query (v 0 ∷ []) (R (v 0) (v 3) ∷ R (v 0) (v 3) ∷ B (v 3) (v 3) ∷ [])) 1
    ∷ chases_to R·a→b (query (v 0 ∷ []) (R (v 0) (v 3) ∷ R (v 0) (v 5) ∷ B (v 5) (v 3) ∷ []))
    (query (v 0 ∷ []) (R (v 0) (v 3) ∷ R (v 0) (v 3) ∷ B (v 3) (v 3) ∷ [])) 1
    ∷ reduces (from 1 0 1 ∷ []) (query (v 7 ∷ v 8 ∷ v 9 ∷ []) (S (v 7) (v 2) (v 9) ∷ S (v 7) (v 8) (v 1) ∷ [])) (v 7 ∷ v 8 ∷ v 9 ∷ []) 1 1
    ∷ reduces R·a→b (query (v 0 ∷ v 1 ∷ v 2 ∷ []) (R (v 0) (v 2) ∷ R (v 0) (v 1) ∷ [])) (v 0 ∷ v 1 ∷ v 1 ∷ []) 1 1
    ∷ []

-- The order of search, each time shown by how many replacements come before a clash
abbrev pub search_order : List Example
search_order =
    -- by i and then j: the pair (0, 3) comes before (1, 2)
    reduces R·a→b (query [] (R (v 0) (v 1) ∷ R (v 2) (k 3) ∷ R (v 2) (k 4) ∷ R (v 0) (v 3) ∷ [])) [] 0 1
    -- j ascends: (0, 1) comes before (0, 2)
    ∷ reduces R·a→b (query [] (R (v 0) (k 3) ∷ R (v 0) (v 1) ∷ R (v 0) (k 4) ∷ [])) [] 0 1
    -- i ascends: (0, 1) comes before (2, 3)
    ∷ reduces R·a→b (query [] (R (v 0) (k 3) ∷ R (v 0) (k 4) ∷ R (v 1) (v 2) ∷ R (v 1) (v 3) ∷ [])) [] 0 0
    -- dependencies in held order: a→b before a→c, and the other way round
    ∷ reduces (from 1 0 1 ∷ from 1 0 2 ∷ []) (query [] (S (v 0) (v 1) (k 3) ∷ S (v 0) (v 2) (k 4) ∷ [])) [] 0 1
    ∷ reduces (from 1 0 2 ∷ from 1 0 1 ∷ []) (query [] (S (v 0) (v 1) (k 3) ∷ S (v 0) (v 2) (k 4) ∷ [])) [] 0 0
    -- dependencies outermost: (2, 3) for a→b before (0, 1) for a→c
    ∷ reduces (from 1 0 1 ∷ from 1 0 2 ∷ []) (query [] (S (v 0) (v 1) (k 3) ∷ S (v 0) (v 1) (k 4) ∷ S (v 5) (v 6) (k 7) ∷ S (v 5) (v 8) (k 7) ∷ [])) [] 0 1
    -- after a replacement from the first dependency on: b→c clashes before a→b goes on to (2, 3)
    ∷ reduces (from 1 1 2 ∷ from 1 0 1 ∷ []) (query [] (S (v 0) (v 1) (k 3) ∷ S (v 0) (v 2) (k 4) ∷ S (v 5) (v 6) (k 7) ∷ S (v 5) (v 8) (k 7) ∷ [])) [] 0 1
    ∷ []

-- The rows that are kept and their order, where results differ in no other way
abbrev pub kept_rows : List Example
kept_rows =
    -- the last of two that can stand for each other goes, whichever comes first in the order
    keeps [] (query [] (R (v 0) (v 1) ∷ R (v 2) (v 3) ∷ [])) (R (v 0) (v 1) ∷ [])
    ∷ keeps [] (query [] (R (v 2) (v 3) ∷ R (v 0) (v 1) ∷ [])) (R (v 2) (v 3) ∷ [])
    -- of four rows that can, the first stays
    ∷ keeps [] (query [] (R (v 4) (v 5) ∷ R (v 0) (v 1) ∷ R (v 6) (v 7) ∷ R (v 2) (v 3) ∷ [])) (R (v 4) (v 5) ∷ [])
    -- a row may go only because others move with it: R(v2,v3) goes to R(v0,v0) together with R(v0,v1) and R(v1,v2)
    ∷ keeps [] (query (v 0 ∷ []) (R (v 0) (v 0) ∷ R (v 0) (v 1) ∷ R (v 1) (v 2) ∷ R (v 2) (v 3) ∷ [])) (R (v 0) (v 0) ∷ [])
    -- by position, whatever the relations: of two parts that can stand for each other the one with the last row goes
    ∷ keeps [] (query [] (R (v 0) (v 1) ∷ R (v 2) (v 3) ∷ B (v 3) (v 2) ∷ B (v 1) (v 0) ∷ [])) (R (v 2) (v 3) ∷ B (v 3) (v 2) ∷ [])
    ∷ keeps [] (query [] (B (v 1) (v 0) ∷ B (v 3) (v 2) ∷ R (v 2) (v 3) ∷ R (v 0) (v 1) ∷ [])) (R (v 2) (v 3) ∷ B (v 3) (v 2) ∷ [])
    -- of rows that repeat each other one stays
    ∷ keeps [] (query [] (R (v 1) (k 2) ∷ B (v 0) (v 1) ∷ R (v 1) (k 2) ∷ [])) (R (v 1) (k 2) ∷ B (v 0) (v 1) ∷ [])
    -- by relation first, whatever the entries
    ∷ keeps [] (query (v 0 ∷ []) (B (k 1) (v 0) ∷ S (v 0) (v 1) (v 2) ∷ R (v 0) (v 1) ∷ [])) (R (v 0) (v 1) ∷ S (v 0) (v 1) (v 2) ∷ B (k 1) (v 0) ∷ [])
    -- constants before variables, whatever their numbers
    ∷ keeps [] (query (v 0 ∷ []) (R (v 0) (k 4) ∷ R (k 4) (v 0) ∷ [])) (R (k 4) (v 0) ∷ R (v 0) (k 4) ∷ [])
    -- each by number
    ∷ keeps [] (query (v 0 ∷ []) (R (v 0) (k 10) ∷ R (v 0) (k 9) ∷ [])) (R (v 0) (k 9) ∷ R (v 0) (k 10) ∷ [])
    ∷ keeps [] (query (v 10 ∷ v 9 ∷ []) (R (v 10) (k 4) ∷ R (v 9) (k 4) ∷ [])) (R (v 9) (k 4) ∷ R (v 10) (k 4) ∷ [])
    -- variables by number, in the head or not
    ∷ keeps [] (query (v 1 ∷ []) (B (v 1) (k 2) ∷ B (v 0) (v 1) ∷ [])) (B (v 0) (v 1) ∷ B (v 1) (k 2) ∷ [])
    -- the first position where they differ tells, whatever the kinds after it
    ∷ keeps [] (query (v 0 ∷ []) (R (k 2) (k 3) ∷ R (k 1) (v 0) ∷ [])) (R (k 1) (v 0) ∷ R (k 2) (k 3) ∷ [])
    -- from the left, and on where entries are equal
    ∷ keeps [] (query (v 0 ∷ []) (S (v 0) (k 2) (k 1) ∷ S (v 0) (k 1) (k 2) ∷ S (v 0) (k 1) (k 1) ∷ []))
    (S (v 0) (k 1) (k 1) ∷ S (v 0) (k 1) (k 2) ∷ S (v 0) (k 2) (k 1) ∷ [])
    -- as the chase leaves them: v1 has become 7 before rows are tried and sorted
    ∷ keeps R·a→b (query (v 0 ∷ []) (R (v 0) (v 1) ∷ R (v 0) (k 7) ∷ B (v 1) (v 0) ∷ B (k 8) (v 0) ∷ []))
    (R (v 0) (k 7) ∷ B (k 7) (v 0) ∷ B (k 8) (v 0) ∷ [])
    -- never has none
    ∷ keeps R·a→b (query [] (R (v 0) (k 3) ∷ R (v 0) (k 4) ∷ [])) []
    ∷ []

-- A flight and the site of a flight, say: head v0, v3 with R(v0,v1), R(v2,v3)
abbrev pub two_rows : Query
two_rows = query (v 0 ∷ v 3 ∷ []) (R (v 0) (v 1) ∷ R (v 2) (v 3) ∷ [])

-- Columns that never vary. V1 to V5 of SPECIFICATION, Examples, come first
abbrev pub never_varying : List Example
never_varying =
    -- V1: two rows become one
    reduces (never_varies 0 1 ∷ []) two_rows (v 0 ∷ v 3 ∷ []) 1 1
    -- V2: without the dependency they stay two
    ∷ reduces [] two_rows (v 0 ∷ v 3 ∷ []) 2 0
    -- V3: two constants in such a column clash
    ∷ reduces (never_varies 0 1 ∷ []) (query [] (R (v 0) (k 3) ∷ R (v 1) (k 4) ∷ [])) [] 0 0
    -- V4: contained by it, and not without it
    ∷ compares (never_varies 0 1 ∷ []) two_rows (query (v 0 ∷ v 1 ∷ []) (R (v 0) (v 1) ∷ [])) true
    ∷ compares [] two_rows (query (v 0 ∷ v 1 ∷ []) (R (v 0) (v 1) ∷ [])) false
    -- V5: what the empty set determines: nothing, nothing by a dependency that has a left column, and by one that has none all that follows
    ∷ determines [] 1 [] 0
    ∷ determines (from 1 0 1 ∷ []) 1 [] 0
    ∷ determines (from 1 0 1 ∷ never_varies 1 0 ∷ []) 1 [] 2
    -- what the empty set determines every set does
    ∷ determines (from 1 0 1 ∷ never_varies 1 0 ∷ []) 1 (2 ∷ []) 3
    -- a column of R is none of S
    ∷ determines (never_varies 0 0 ∷ []) 1 [] 0
    -- every row of the relation, and none of another
    ∷ chases_to (never_varies 0 1 ∷ []) (query [] (R (v 0) (v 1) ∷ B (v 2) (v 3) ∷ R (v 4) (v 5) ∷ R (v 6) (k 7) ∷ []))
    (query [] (R (v 0) (k 7) ∷ B (v 2) (v 3) ∷ R (v 4) (k 7) ∷ R (v 6) (k 7) ∷ [])) 2
    -- a single row agrees with itself
    ∷ chases_to (never_varies 0 0 ∷ never_varies 0 1 ∷ []) (query (v 0 ∷ []) (R (v 0) (v 1) ∷ [])) (query (v 0 ∷ []) (R (v 0) (v 1) ∷ [])) 0
    -- where a never varies and determines b, b never varies
    ∷ compares (never_varies 0 0 ∷ R·a→b) (query (v 1 ∷ v 3 ∷ []) (R (v 0) (v 1) ∷ R (v 2) (v 3) ∷ [])) (query (v 0 ∷ v 0 ∷ []) (R (v 1) (v 0) ∷ [])) true
    ∷ compares R·a→b (query (v 1 ∷ v 3 ∷ []) (R (v 0) (v 1) ∷ R (v 2) (v 3) ∷ [])) (query (v 0 ∷ v 0 ∷ []) (R (v 1) (v 0) ∷ [])) false
    ∷ []

-- Cases that are easily passed over
abbrev pub edge_cases : List Example
edge_cases =
    -- never stays never, with count 0, and is its own result; it is contained in every query, and in never
    chases_to R·a→b (query (k 0 ∷ k 0 ∷ []) []) (query (k 0 ∷ k 0 ∷ []) []) 0
    ∷ reduces R·a→b (query (k 0 ∷ k 0 ∷ []) []) (k 0 ∷ k 0 ∷ []) 0 0
    ∷ reduces [] (query [] []) [] 0 0
    ∷ compares [] (query [] []) (query [] (R (v 0) (v 0) ∷ [])) true
    ∷ compares [] (query [] []) (query [] []) true
    -- constant 3 and variable 3 are two entries: the one replaces the other, and a mapping moves only the variable
    ∷ chases_to R·a→b (query (v 3 ∷ []) (R (v 0) (k 3) ∷ R (v 0) (v 3) ∷ [])) (query (k 3 ∷ []) (R (v 0) (k 3) ∷ R (v 0) (k 3) ∷ [])) 1
    ∷ reduces [] (query [] (R (k 3) (v 3) ∷ R (v 3) (k 3) ∷ [])) [] 2 0
    ∷ compares [] (query [] (R (k 3) (k 3) ∷ [])) (query [] (R (k 3) (v 3) ∷ [])) true
    ∷ compares [] (query [] (R (k 3) (v 3) ∷ [])) (query [] (R (k 3) (k 3) ∷ [])) false
    -- a variable twice in the head: it is replaced in both entries, and asks for equal values of an answer
    ∷ reduces R·a→b (query (v 2 ∷ v 2 ∷ []) (R (v 0) (v 2) ∷ R (v 0) (k 7) ∷ [])) (k 7 ∷ k 7 ∷ []) 1 1
    ∷ compares [] (query (v 0 ∷ v 0 ∷ []) (R (v 0) (v 0) ∷ [])) (query (v 0 ∷ v 1 ∷ []) (R (v 0) (v 1) ∷ [])) true
    ∷ compares [] (query (v 0 ∷ v 1 ∷ []) (R (v 0) (v 1) ∷ R (v 0) (v 0) ∷ [])) (query (v 0 ∷ v 0 ∷ []) (R (v 0) (v 0) ∷ [])) false
    -- a right column inside the left set says nothing: the left set is not smaller for it
    ∷ reduces (S·ab→b ∷ []) (query (v 1 ∷ v 3 ∷ []) (S (v 0) (v 1) (v 2) ∷ S (v 0) (v 3) (v 4) ∷ [])) (v 1 ∷ v 3 ∷ []) 2 0
    ∷ determines (S·ab→b ∷ []) 1 (0 ∷ []) 1
    -- a dependency held twice says what it says once
    ∷ reduces (R·a→b ++ R·a→b) (query (v 0 ∷ v 1 ∷ v 2 ∷ []) (R (v 0) (v 1) ∷ R (v 0) (v 2) ∷ [])) (v 0 ∷ v 1 ∷ v 1 ∷ []) 1 1
    ∷ determines (from 1 0 1 ∷ from 1 0 1 ∷ from 1 1 2 ∷ []) 1 (0 ∷ []) 3
    ∷ []

-- The whole table
abbrev pub examples : List Example
examples = reference ++ worked ++ further ++ survivors ++ search_order ++ kept_rows ++ never_varying ++ edge_cases

-- Each example of the table means what it says
abbrev pub ExamplesMean : Type 0
ExamplesMean = (x : Example) → x ∈ examples → Meaning x
