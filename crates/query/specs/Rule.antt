-- The rule of relations, dependencies, queries and places as tests on the fields: what refusals 3, 18, 4, 15, 5 and 6 judge, and 14 of a place.
-- The lengths of the arrays are the types': `shaped_query`, `shaped_tableau` and `shaped_join` say them.
use Rattle.std.specs.Prelude.{Bool, true, false, cond, not, ◌&&◌, ℕ, ◌*◌, ◌^◌, eqb, ltb, leb, length, take, drop, get_or, replicate}
use mathlib.Core.List.{List, [], ◌∷◌, flatten}
use Rattle.query.specs.declared.Entry.{Entry}
use Rattle.query.specs.declared.Entry.TheVariants.{Constant, Variable}
use Rattle.query.specs.declared.Cell.{Cell}
use Rattle.query.specs.Types.{Query}
use Rattle.query.specs.Types.{Tableau}
use Rattle.query.specs.declared.Dependency.{Dependency}
use Rattle.query.specs.declared.JoinDependency.{JoinDependency}
use Rattle.query.specs.declared.CodePair.{CodePair}
use Rattle.query.specs.declared.Place.{Place}
use Rattle.query.specs.View.{query_of, as_query, join_of}
use Rattle.theory.specs.Query as theory
use Rattle.lists.specs.Tests.{between, every, in_use, is_zero}
use Rattle.lists.specs.Numbers.{numbers_where}

-- ---- what is not in use

-- Whether an entry is constant 0
abbrev pub blank_entry : Entry → Bool
blank_entry (Constant n) = eqb n 0
blank_entry (Variable v) = false

-- An entry that is not in use is constant 0
abbrev pub blank_cell : Cell → Bool
blank_cell c = blank_entry c.entry

-- A dependency that is not in use is all 0
abbrev pub blank_dependency : Dependency → Bool
blank_dependency d = is_zero d.relation && is_zero d.left && is_zero d.right

-- A join dependency that is not in use is all 0
abbrev pub blank_join : JoinDependency → Bool
blank_join j = is_zero j.relation && is_zero j.count && every is_zero j.sets

-- A pair of codes that is not in use is all 0
abbrev pub blank_pair : CodePair → Bool
blank_pair p = is_zero p.old && is_zero p.current

-- A query that is not in use is all 0
unfoldable pub blank_query : Query → Bool
blank_query q = is_zero q.arity && is_zero q.size && every blank_cell q.head && every is_zero q.relations && every blank_cell q.cells

-- ---- relations and dependencies

-- 1 to 8 relations, each of 1 to 8 columns
unfoldable pub good_relations : ℕ → List ℕ → Bool
good_relations relations widths = between 1 8 relations && in_use relations (between 1 8) is_zero widths

-- Two codes, which differ
abbrev pub good_pair : CodePair → Bool
good_pair p = leb p.old 2147483647 && leb p.current 2147483647 && not (eqb p.old p.current)

-- Two pairs of codes may be held together: the old code of neither stands in the other
abbrev pub apart : CodePair → CodePair → Bool
apart p q = not (eqb p.old q.old) && not (eqb p.old q.current) && not (eqb p.current q.old)

-- A pair of codes may be held beside some others: what refusal 18 asks
unfoldable pub pair_fits : List CodePair → CodePair → Bool
pair_fits others p = good_pair p && every (apart p) others

-- Each of some pairs of codes may be held beside those after it
unfoldable pub all_fit : List CodePair → Bool
all_fit [] = true
all_fit (p ∷ ps) = pair_fits ps p && all_fit ps

-- 0 to 16 pairs of codes
unfoldable pub good_codes : ℕ → List CodePair → Bool
good_codes coded pairs = leb coded 16 && all_fit (take coded pairs) && every blank_pair (drop coded pairs)

-- A known relation and a set of its columns, which may be empty: what refusal 4 asks of a question about determined columns
unfoldable pub good_set : List ℕ → ℕ → ℕ → Bool
good_set schema relation left = ltb relation (length schema) && ltb left (2 ^ get_or schema relation 0)

-- A known relation, a set of its columns, which may be empty, and one of its columns
unfoldable pub good_dependency : List ℕ → Dependency → Bool
good_dependency schema d = good_set schema d.relation d.left && ltb d.right (get_or schema d.relation 0)

-- 0 to 32 dependencies
unfoldable pub good_dependencies : List ℕ → ℕ → List Dependency → Bool
good_dependencies schema held dependencies = leb held 32 && in_use held (good_dependency schema) blank_dependency dependencies

-- Each column of the relation of a join dependency stands in one of its sets
abbrev pub covers_columns : List ℕ → JoinDependency → Bool
covers_columns schema j = theory.subset (numbers_where (λ c. true) 0 (get_or schema j.relation 0)) (flatten (join_of j).sets)

-- A known relation and a nonempty set of its columns: what refusal 15 asks of each set of a join dependency
unfoldable pub good_join_set : List ℕ → ℕ → ℕ → Bool
good_join_set schema relation set = good_set schema relation set && not (eqb set 0)

-- A known relation and 2 to 4 nonempty sets of its columns that together are all of them: what refusal 15 asks of a join dependency
unfoldable pub good_join : List ℕ → JoinDependency → Bool
good_join schema j = between 2 4 j.count && in_use j.count (good_join_set schema j.relation) is_zero j.sets && covers_columns schema j

-- 0 to 4 join dependencies
unfoldable pub good_joins : List ℕ → ℕ → List JoinDependency → Bool
good_joins schema held joins = leb held 4 && in_use held (good_join schema) blank_join joins

-- The array of a join dependency is as long as its type says: 4 sets
abbrev pub shaped_join : JoinDependency → Bool
shaped_join j = eqb (length j.sets) 4

-- ---- queries

-- A constant is at most 2,147,483,647, a variable at most 95
abbrev pub good_entry : Entry → Bool
good_entry (Constant n) = leb n 2147483647
good_entry (Variable v) = leb v 95

-- The entry of a cell is good
abbrev pub good_cell : Cell → Bool
good_cell c = good_entry c.entry

-- A row names a known relation and has one entry a column; its cells are 8
abbrev pub good_row : List ℕ → ℕ → List Cell → Bool
good_row schema relation cells = ltb relation (length schema) && in_use (get_or schema relation 0) good_cell blank_cell cells

-- Each row is good, a row's cells starting 8 after those of the row before
unfoldable pub good_rows : List ℕ → List ℕ → List Cell → Bool
good_rows schema [] cells = true
good_rows schema (relation ∷ relations) cells = good_row schema relation (take 8 cells) && good_rows schema relations (drop 8 cells)

-- How many head entries are in use: never, which has no rows, has a head length but no head entries
abbrev pub head_in_use : Query → ℕ
head_in_use q = cond (eqb q.size 0) 0 q.arity

-- A head of 0 to 8 entries and at most so many rows, everything not in use blank
unfoldable pub good_up_to : ℕ → List ℕ → Query → Bool
good_up_to most schema q =
    leb q.arity 8 && leb q.size most && in_use (head_in_use q) good_cell blank_cell q.head
    && good_rows schema (take q.size q.relations) q.cells
    && every is_zero (drop q.size q.relations) && every blank_cell (drop (8 * q.size) q.cells)

-- A stored query has 0 to 12 rows: what refusal 5 asks
abbrev pub good_query : List ℕ → Query → Bool
good_query schema q = good_up_to 12 schema q

-- A tableau has 0 to 24
abbrev pub good_tableau : List ℕ → Tableau → Bool
good_tableau schema t = good_up_to 24 schema (as_query t)

-- Each head variable occurs in a row: what refusal 6 asks of a query
unfoldable pub head_safe : List ℕ → Query → Bool
head_safe schema q =
    theory.subset (theory.variables_of (query_of schema q).head) (theory.variables_of (theory.row_entries (query_of schema q).rows))

-- The arrays of a query have room for so many rows: 8 head cells, a relation and 8 cells for each row
abbrev pub shaped_for : ℕ → Query → Bool
shaped_for rows q = eqb (length q.head) 8 && eqb (length q.relations) rows && eqb (length q.cells) (8 * rows)

-- The arrays of a query are as long as its type says: for 12 rows
abbrev pub shaped_query : Query → Bool
shaped_query q = shaped_for 12 q

-- So with a tableau: for 24 rows
abbrev pub shaped_tableau : Tableau → Bool
shaped_tableau t = shaped_for 24 (as_query t)

-- ---- places

-- A place that holds a query
abbrev pub place_with : Query → Place
place_with q = record { filled = true; query = q }

-- A filled place holds a good query with a safe head, a vacant one holds nothing
abbrev pub good_place : List ℕ → Place → Bool
good_place schema p = cond p.filled (good_query schema p.query && head_safe schema p.query) (blank_query p.query)

-- ---- blank values

-- The cell of an entry that is not in use
abbrev pub no_cell : Cell
no_cell = record { entry = Constant 0 }

-- The dependency of a slot that is not in use
abbrev pub no_dependency : Dependency
no_dependency = record { relation = 0; left = 0; right = 0 }

-- The join dependency of a slot that is not in use
abbrev pub no_join : JoinDependency
no_join = record { relation = 0; count = 0; sets = replicate 4 0 }

-- The pair of codes of a slot that is not in use
abbrev pub no_pair : CodePair
no_pair = record { old = 0; current = 0 }

-- The never query with a head of n entries
abbrev pub never_query : ℕ → Query
never_query n = record { arity = n; size = 0; head = replicate 8 no_cell; relations = replicate 12 0; cells = replicate 96 no_cell }

-- The query of a vacant place
abbrev pub no_query : Query
no_query = never_query 0

-- The never query with a head of n entries, as a tableau
abbrev pub never_tableau : ℕ → Tableau
never_tableau n = record { arity = n; size = 0; head = replicate 8 no_cell; relations = replicate 24 0; cells = replicate 192 no_cell }

-- The tableau where there is none
abbrev pub no_tableau : Tableau
no_tableau = never_tableau 0

-- A vacant place
abbrev pub no_place : Place
no_place = record { filled = false; query = no_query }
