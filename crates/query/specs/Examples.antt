-- Examples of the views and of the rule, at the edge of each limit one value that passes and one that doesn't. `proofs/Examples` proves them by computation.
use Rattle.std.specs.Prelude.{◌≡◌, Bool, true, false, not, List, [], ◌∷◌, ◌++◌, map, ℕ, zero, suc, length, replicate}
use Rattle.theory.specs.Query as theory
use Rattle.lists.specs.Tests.{every}
use Rattle.lists.specs.Over.{pad}
use Rattle.query.specs.declared.Entry.{Entry}
use Rattle.query.specs.declared.Entry.TheVariants.{Constant, Variable}
use Rattle.query.specs.declared.Cell.{Cell}
use Rattle.query.specs.Types.{Query}
use Rattle.query.specs.Types.{Tableau}
use Rattle.query.specs.declared.Dependency.{Dependency}
use Rattle.query.specs.declared.JoinDependency.{JoinDependency}
use Rattle.query.specs.declared.CodePair.{CodePair}
use Rattle.query.specs.View.{entries_of, query_of, as_query, columns_of, mask_of, dependency_of, held_of, join_of, held_joins, pair_of, held_codes, images_of}
use Rattle.query.specs.Rule.{blank_cell, blank_dependency, blank_query, good_relations, good_set, good_dependency, good_dependencies, good_cell, good_query}
use Rattle.query.specs.Rule.{blank_join, good_join, good_joins, good_tableau, shaped_query, shaped_tableau, shaped_join, no_join, never_tableau, no_tableau}
use Rattle.query.specs.Rule.{good_pair, pair_fits, good_codes, blank_pair, no_pair}
use Rattle.query.specs.Rule.{head_safe, good_place, no_cell, no_dependency, no_query, never_query, no_place, place_with}

-- ---- values for the examples

-- The cell of an entry
abbrev pub cell : Entry → Cell
cell e = record { entry = e }

-- The cells of some rows, 8 a row
unfoldable pub cells_of : List (List Entry) → List Cell
cells_of [] = []
cells_of (es ∷ rows) = pad 8 no_cell (map cell es) ++ cells_of rows

-- The stored query with this head and rows of these relations and entries
abbrev pub stored : List Entry → List ℕ → List (List Entry) → Query
stored head relations rows =
    record {
      arity = length head;
      size = length relations;
      head = pad 8 no_cell (map cell head);
      relations = pad 12 0 relations;
      cells = pad 96 no_cell (cells_of rows);
    }

-- The tableau with this head and rows of these relations and entries
abbrev pub tableau : List Entry → List ℕ → List (List Entry) → Tableau
tableau head relations rows =
    record {
      arity = length head;
      size = length relations;
      head = pad 8 no_cell (map cell head);
      relations = pad 24 0 relations;
      cells = pad 192 no_cell (cells_of rows);
    }

-- Relation 0 has 2 columns, relation 1 has 8
abbrev pub schema : List ℕ
schema = 2 ∷ 8 ∷ []

-- A row of relation 0
abbrev pub pair : List Entry
pair = Variable 1 ∷ Constant 5 ∷ []

-- The query of one such row with the given head
abbrev pub asked : List Entry → Query
asked head = stored head (0 ∷ []) (pair ∷ [])

-- The dependency of relation 0 on a set of columns
abbrev pub depends : ℕ → ℕ → Dependency
depends left right = record { relation = 0; left = left; right = right }

-- The join dependency of relation 0 on these sets of columns
abbrev pub joins : List ℕ → JoinDependency
joins sets = record { relation = 0; count = length sets; sets = pad 4 0 sets }

-- The pair of an old code and its current one
abbrev pub renumbered : ℕ → ℕ → CodePair
renumbered old current = record { old = old; current = current }

-- So many pairs: the old codes are those from a start on, the current one is always 99
unfoldable pub renumbered_from : ℕ → ℕ → List CodePair
renumbered_from zero old = []
renumbered_from (suc n) old = renumbered old 99 ∷ renumbered_from n (suc old)

-- ---- the views

-- What stored values stand for
pub record Views : Type 0 where
  -- a constant is a constant and a variable a variable, in order
  pub entries : entries_of (cell (Constant 7) ∷ cell (Variable 9) ∷ []) ≡ theory.constant 7 ∷ theory.variable 9 ∷ []
  -- of the head so many entries as it is long, of the rows so many as there are, of a row one entry a column; the second row begins at cell 8
  pub query :
      query_of (2 ∷ 1 ∷ []) (stored (Variable 1 ∷ []) (0 ∷ 1 ∷ []) (pair ∷ (Variable 2 ∷ []) ∷ []))
      ≡ record {
        head = theory.variable 1 ∷ [];
        rows =
            record { relation = 0; values = theory.variable 1 ∷ theory.constant 5 ∷ [] } ∷ record { relation = 1; values = theory.variable 2 ∷ [] }
            ∷ [];
      }
  -- so with a tableau: its second row begins at cell 8 too
  pub tableaux :
      query_of (2 ∷ 1 ∷ []) (as_query (tableau (Variable 1 ∷ []) (0 ∷ 1 ∷ []) (pair ∷ (Variable 2 ∷ []) ∷ [])))
      ≡ query_of (2 ∷ 1 ∷ []) (stored (Variable 1 ∷ []) (0 ∷ 1 ∷ []) (pair ∷ (Variable 2 ∷ []) ∷ []))
  -- bits 0, 2 and 7 are columns 0, 2 and 7, and back
  pub columns : columns_of 133 ≡ 0 ∷ 2 ∷ 7 ∷ []
  pub mask : mask_of (0 ∷ 2 ∷ 7 ∷ []) ≡ 133
  -- columns 0 and 1 determine column 1; of two dependencies the first is held
  pub dependency : dependency_of (depends 3 1) ≡ record { relation = 0; left = 0 ∷ 1 ∷ []; right = 1 }
  pub held : held_of (depends 3 1 ∷ depends 1 1 ∷ []) 1 ≡ dependency_of (depends 3 1) ∷ []
  -- a dependency of zeros that is held says that column 0 never varies
  pub held-zeros : held_of (no_dependency ∷ no_dependency ∷ []) 1 ≡ record { relation = 0; left = []; right = 0 } ∷ []
  -- column 0, and columns 0 and 1; of two join dependencies the first is held
  pub join : join_of (joins (1 ∷ 3 ∷ [])) ≡ record { relation = 0; sets = (0 ∷ []) ∷ (0 ∷ 1 ∷ []) ∷ [] }
  pub held-joins : held_joins (joins (1 ∷ 3 ∷ []) ∷ joins (1 ∷ 2 ∷ []) ∷ []) 1 ≡ join_of (joins (1 ∷ 3 ∷ [])) ∷ []
  -- the old code stays the old one; of two pairs of codes the first is held
  pub code-pair : pair_of (renumbered 5 9) ≡ record { old = 5; current = 9 }
  pub held-pairs : held_codes (renumbered 5 9 ∷ renumbered 6 8 ∷ []) 1 ≡ record { old = 5; current = 9 } ∷ []
  -- variable 1 goes to the second image, variable 2 to constant 0, as there is no third
  pub images : images_of (cell (Constant 4) ∷ cell (Variable 9) ∷ []) 1 ≡ theory.variable 9
  pub images-past : images_of (cell (Constant 4) ∷ cell (Variable 9) ∷ []) 2 ≡ theory.constant 0

-- ---- the rule

-- What passes
abbrev pub good_cases : List Bool
good_cases =
    -- one relation of 1 column; 8 of 8
    good_relations 1 (pad 8 0 (1 ∷ [])) ∷ good_relations 8 (replicate 8 8)
    -- all columns of a relation as a set, of 2 and of 8; no column
    ∷ good_set schema 0 3 ∷ good_set schema 1 255 ∷ good_set schema 0 0
    -- the last column as the right one; no left column
    ∷ good_dependency schema (depends 3 1) ∷ good_dependency schema (depends 0 1)
    -- no dependency; 32 of them; one of zeros, and 32 of these, which only their number tells from none
    ∷ good_dependencies schema 0 (replicate 32 no_dependency) ∷ good_dependencies schema 32 (replicate 32 (depends 3 1))
    ∷ good_dependencies schema 1 (replicate 32 no_dependency) ∷ good_dependencies schema 32 (replicate 32 no_dependency)
    -- 2 sets that share no column and 4 that do; none held, and 4 of them
    ∷ good_join schema (joins (1 ∷ 2 ∷ [])) ∷ good_join schema (joins (3 ∷ 1 ∷ 3 ∷ 2 ∷ []))
    ∷ good_joins schema 0 (replicate 4 no_join) ∷ good_joins schema 4 (replicate 4 (joins (1 ∷ 2 ∷ []))) ∷ shaped_join no_join
    -- the least code and the largest, either way; beside 5, which became 9: another that became 9, and two codes that stand in no pair
    ∷ good_pair (renumbered 0 2147483647) ∷ good_pair (renumbered 2147483647 0)
    ∷ pair_fits (renumbered 5 9 ∷ []) (renumbered 6 9) ∷ pair_fits (renumbered 5 9 ∷ []) (renumbered 7 8)
    -- no pair of codes; 16 of them
    ∷ good_codes 0 (replicate 16 no_pair) ∷ good_codes 16 (renumbered_from 16 0)
    -- the largest constant and the last variable
    ∷ good_cell (cell (Constant 2147483647)) ∷ good_cell (cell (Variable 95))
    -- constant 0 where nothing is in use
    ∷ blank_cell no_cell ∷ blank_pair no_pair ∷ blank_dependency no_dependency ∷ blank_join no_join ∷ blank_query no_query
    -- never with a head of 0 and of 8 entries; a head of 8 entries; 12 rows; a row of 8 columns
    ∷ good_query schema no_query ∷ good_query schema (never_query 8) ∷ good_query schema (asked (replicate 8 (Variable 1)))
    ∷ good_query schema (stored [] (replicate 12 0) (replicate 12 pair)) ∷ good_query schema (stored [] (1 ∷ []) (replicate 8 (Variable 0) ∷ []))
    -- a tableau without rows, and of 24; arrays for 12 rows, and for 24
    ∷ good_tableau schema no_tableau ∷ good_tableau schema (never_tableau 8) ∷ good_tableau schema (tableau [] (replicate 24 0) (replicate 24 pair))
    ∷ shaped_query no_query ∷ shaped_tableau no_tableau
    -- a head variable that stands in the row, and a constant that stands nowhere
    ∷ head_safe schema (asked (Variable 1 ∷ Constant 6 ∷ []))
    -- a filled place with such a query, and a vacant one
    ∷ good_place schema (place_with (asked (Variable 1 ∷ []))) ∷ good_place schema no_place ∷ []

-- What does not
abbrev pub bad_cases : List Bool
bad_cases =
    -- no relation; 9; one of 0 columns; one of 9; a width that is not in use
    good_relations 0 (replicate 8 0) ∷ good_relations 9 (replicate 9 8) ∷ good_relations 2 (pad 8 0 (1 ∷ 0 ∷ [])) ∷ good_relations 1 (pad 8 0 (9 ∷ []))
    ∷ good_relations 1 (pad 8 0 (1 ∷ 1 ∷ []))
    -- a third column of 2; an unknown relation, of no column and of one
    ∷ good_set schema 0 4 ∷ good_set schema 2 0 ∷ good_set schema 2 1
    -- a right column past the last, of all left columns and of none; an unknown relation
    ∷ good_dependency schema (depends 3 2) ∷ good_dependency schema (depends 0 2) ∷ good_dependency schema (record { relation = 2; left = 0; right = 0 })
    -- 33 dependencies; one that is not in use; a bad one
    ∷ good_dependencies schema 33 (replicate 33 (depends 3 1)) ∷ good_dependencies schema 0 (pad 32 no_dependency (depends 0 1 ∷ []))
    ∷ good_dependencies schema 1 (pad 32 no_dependency (depends 3 2 ∷ []))
    -- one set; five; an empty set; a third column of 2; a column in no set; an unknown relation; a set that is not in use
    ∷ good_join schema (joins (3 ∷ [])) ∷ good_join schema (joins (replicate 5 3)) ∷ good_join schema (joins (3 ∷ 0 ∷ [])) ∷ good_join schema (joins (3 ∷ 4 ∷ []))
    ∷ good_join schema (joins (1 ∷ 1 ∷ [])) ∷ good_join schema (record { relation = 2; count = 2; sets = pad 4 0 (1 ∷ 1 ∷ []) })
    ∷ good_join schema (record { relation = 0; count = 2; sets = pad 4 0 (1 ∷ 2 ∷ 1 ∷ []) })
    -- 5 join dependencies; one that is not in use; a bad one; 3 sets
    ∷ good_joins schema 5 (replicate 5 (joins (1 ∷ 2 ∷ []))) ∷ good_joins schema 0 (pad 4 no_join (joins (1 ∷ 2 ∷ []) ∷ []))
    ∷ good_joins schema 1 (pad 4 no_join (joins (1 ∷ 1 ∷ []) ∷ [])) ∷ shaped_join (record { relation = 0; count = 0; sets = replicate 3 0 })
    -- equal codes; an old and a current code past the limit
    ∷ good_pair (renumbered 5 5) ∷ good_pair (renumbered 2147483648 5) ∷ good_pair (renumbered 5 2147483648) ∷ pair_fits [] (renumbered 5 5)
    -- beside 5, which became 9: an old code that is old, one that is current, and a current one that is old; the same where 5 stands second
    ∷ pair_fits (renumbered 5 9 ∷ []) (renumbered 5 8) ∷ pair_fits (renumbered 5 9 ∷ []) (renumbered 9 8) ∷ pair_fits (renumbered 5 9 ∷ []) (renumbered 8 5)
    ∷ pair_fits (renumbered 6 7 ∷ renumbered 5 9 ∷ []) (renumbered 5 8)
    -- 17 pairs; one that is not in use; a held one of zeros; the second and the third, and the first and the third, which may not be held together
    ∷ good_codes 17 (renumbered_from 17 0) ∷ good_codes 0 (pad 16 no_pair (renumbered 5 9 ∷ [])) ∷ good_codes 1 (replicate 16 no_pair)
    ∷ good_codes 3 (pad 16 no_pair (renumbered 5 9 ∷ renumbered 6 8 ∷ renumbered 6 7 ∷ []))
    ∷ good_codes 3 (pad 16 no_pair (renumbered 5 9 ∷ renumbered 6 8 ∷ renumbered 9 7 ∷ []))
    -- a constant and a variable past the last
    ∷ good_cell (cell (Constant 2147483648)) ∷ good_cell (cell (Variable 96))
    -- another constant, or variable 0, where nothing is in use
    ∷ blank_cell (cell (Constant 1)) ∷ blank_cell (cell (Variable 0))
    -- a pair of codes with one field in use
    ∷ blank_pair (renumbered 1 0) ∷ blank_pair (renumbered 0 1)
    -- a dependency with one field in use
    ∷ blank_dependency (record { relation = 1; left = 0; right = 0 }) ∷ blank_dependency (depends 1 0) ∷ blank_dependency (depends 0 1)
    -- a join dependency with one field in use
    ∷ blank_join (record { relation = 1; count = 0; sets = replicate 4 0 }) ∷ blank_join (record { relation = 0; count = 1; sets = replicate 4 0 })
    ∷ blank_join (record { relation = 0; count = 0; sets = pad 4 0 (1 ∷ []) })
    -- a query with a head length, a row, a head entry, a relation or a cell in use
    ∷ blank_query (never_query 1) ∷ blank_query (record { arity = 0; size = 1; head = []; relations = []; cells = [] })
    ∷ blank_query (record { arity = 0; size = 0; head = cell (Constant 1) ∷ []; relations = []; cells = [] })
    ∷ blank_query (record { arity = 0; size = 0; head = []; relations = 1 ∷ []; cells = [] })
    ∷ blank_query (record { arity = 0; size = 0; head = []; relations = []; cells = cell (Constant 1) ∷ [] })
    -- a head of 9 entries; 13 rows
    ∷ good_query schema (never_query 9) ∷ good_query schema (stored [] (replicate 13 0) (replicate 13 pair))
    -- 25 rows of a tableau; arrays for 24 rows, and for 12
    ∷ good_tableau schema (tableau [] (replicate 25 0) (replicate 25 pair)) ∷ shaped_query (as_query no_tableau)
    ∷ shaped_tableau (record { arity = 0; size = 0; head = replicate 8 no_cell; relations = replicate 12 0; cells = replicate 96 no_cell })
    -- an unknown relation; a row longer than its relation is wide; a bad entry in the second row, and in the head
    ∷ good_query schema (stored [] (2 ∷ []) ([] ∷ [])) ∷ good_query schema (stored [] (0 ∷ []) (replicate 3 (Variable 1) ∷ []))
    ∷ good_query schema (stored [] (0 ∷ 0 ∷ []) (pair ∷ replicate 2 (Variable 96) ∷ [])) ∷ good_query schema (asked (Variable 96 ∷ []))
    -- never with a head entry; a head entry past the head's length; a relation and a cell past the last row
    ∷ good_query schema (record { arity = 1; size = 0; head = pad 8 no_cell (cell (Constant 1) ∷ []); relations = replicate 12 0; cells = replicate 96 no_cell })
    ∷ good_query schema (record { arity = 0; size = 1; head = pad 8 no_cell (cell (Constant 1) ∷ []); relations = replicate 12 0; cells = replicate 96 no_cell })
    ∷ good_query schema (record { arity = 0; size = 0; head = replicate 8 no_cell; relations = pad 12 0 (1 ∷ []); cells = replicate 96 no_cell })
    ∷ good_query schema (stored [] (0 ∷ []) (pair ∷ pair ∷ []))
    -- a head variable that stands in no row
    ∷ head_safe schema (asked (Variable 2 ∷ []))
    -- a filled place with such a query, and with a bad one; a vacant place that holds a query
    ∷ good_place schema (place_with (asked (Variable 2 ∷ [])))
    ∷ good_place schema (place_with (stored (Variable 96 ∷ []) (0 ∷ []) (replicate 2 (Variable 96) ∷ [])))
    ∷ good_place schema (record { filled = false; query = asked [] }) ∷ []

-- All of them
pub record RuleExamples : Type 0 where
  pub pass : every (λ b. b) good_cases ≡ true
  pub fail : every not bad_cases ≡ true
