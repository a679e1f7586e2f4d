-- The parts of the file as formats: relations, pairs of codes, dependencies of both kinds and queries, as SPECIFICATION, The file, lists them.
-- Arrays are those of the record: the elements in use are written, those after them are blank.
use Rattle.std.specs.Prelude.{Bool, cond, ◌&&◌, ℕ, ◌+◌, ◌*◌, ◌^◌, eqb, ltb, leb, length, get_or, take, drop, replicate}
use mathlib.Core.List.{List, [], ◌∷◌, ◌++◌, map, flat_map}
use Rattle.query.specs.declared.Entry.{Entry}
use Rattle.query.specs.declared.Entry.TheVariants.{Constant, Variable}
use Rattle.query.specs.declared.Cell.{Cell}
use Rattle.query.specs.Types.{Query}
use Rattle.query.specs.declared.Dependency.{Dependency}
use Rattle.query.specs.declared.JoinDependency.{JoinDependency}
use Rattle.query.specs.declared.CodePair.{CodePair}
use Rattle.lists.specs.Tests.{between, every, is_zero}
use Rattle.lists.specs.Over.{pad}
use Rattle.query.specs.Rule.{blank_cell, blank_dependency, blank_join, good_dependency, good_join, good_cell, no_cell, no_dependency, no_join, shaped_join}
use Rattle.query.specs.Rule.{blank_pair, good_codes, no_pair}
use Rattle.format.specs.Bytes.{number, bytes_of}
use Rattle.format.specs.Format.{got_if, Format, byte, sequence, padded, such_that, via}

-- ---- part 0 and part 1

-- Part 0 begins with the count of relations, then a width byte each
unfoldable pub relations : Format (ℕ × List ℕ)
relations = sequence (byte (between 1 8)) (λ n. padded 8 0 is_zero n (byte (between 1 8)))

-- The pair of codes that eight bytes stand for
abbrev pub pair_at : List ℕ → CodePair
pair_at bytes = record { old = number 4 bytes; current = number 4 (drop 4 bytes) }

-- Two numbers of 32 bits
abbrev pub fits_words : CodePair → Bool
fits_words p = ltb p.old (2 ^ 32) && ltb p.current (2 ^ 32)

-- A pair of codes: the old code and the current one, 32 bits each
unfoldable pub code_pair : Format CodePair
code_pair =
    record {
      good = fits_words;
      put = λ p. bytes_of 4 p.old ++ bytes_of 4 p.current;
      get = λ bytes. got_if (leb 8 (length bytes)) (pair_at bytes) (drop 8 bytes);
    }

-- The count of pairs of codes, then 8 bytes each
unfoldable pub code_pairs : Format (ℕ × List CodePair)
code_pairs = sequence (byte (between 1 16)) (λ n. padded 16 no_pair blank_pair n code_pair)

-- Part 0 goes on where pairs of codes are held: these pairs, which together keep the rule
unfoldable pub codes : Format (ℕ × List CodePair)
codes = such_that (λ c. good_codes c.0 c.1) code_pairs

-- The dependency that three bytes stand for
abbrev pub dependency_at : List ℕ → Dependency
dependency_at bytes = record { relation = get_or bytes 0 0; left = get_or bytes 1 0; right = get_or bytes 2 0 }

-- A functional dependency: relation, left set (bit c for column c), right column
unfoldable pub dependency : List ℕ → Format Dependency
dependency schema =
    record {
      good = good_dependency schema;
      put = λ d. d.relation ∷ d.left ∷ d.right ∷ [];
      get = λ bytes. got_if (leb 3 (length bytes) && good_dependency schema (dependency_at bytes)) (dependency_at bytes) (drop 3 bytes);
    }

-- Part 1 begins with the count of functional dependencies, then 3 bytes each
unfoldable pub dependencies : List ℕ → Format (ℕ × List Dependency)
dependencies schema = sequence (byte (λ n. leb n 32)) (λ n. padded 32 no_dependency blank_dependency n (dependency schema))

-- How many bytes the join dependency at the front of some bytes has: relation, number of sets, and so many sets
abbrev pub join_bytes : List ℕ → ℕ
join_bytes bytes = 2 + get_or bytes 1 0

-- The join dependency that these bytes stand for
abbrev pub join_at : List ℕ → JoinDependency
join_at bytes = record { relation = get_or bytes 0 0; count = get_or bytes 1 0; sets = pad 4 0 (take (get_or bytes 1 0) (drop 2 bytes)) }

-- A join dependency: relation, number of sets, then each set (bit c for column c)
unfoldable pub join : List ℕ → Format JoinDependency
join schema =
    record {
      good = λ j. shaped_join j && good_join schema j;
      put = λ j. j.relation ∷ j.count ∷ take j.count j.sets;
      get = λ bytes. got_if (leb (join_bytes bytes) (length bytes) && good_join schema (join_at bytes)) (join_at bytes) (drop (join_bytes bytes) bytes);
    }

-- Whether a join dependency is not in use: all 0, in 4 sets
abbrev pub unused_join : JoinDependency → Bool
unused_join j = shaped_join j && blank_join j

-- Part 1 goes on where join dependencies are held: their count, then each
unfoldable pub joins : List ℕ → Format (ℕ × List JoinDependency)
joins schema = sequence (byte (between 1 4)) (λ n. padded 4 no_join unused_join n (join schema))

-- ---- queries

-- The bytes of an entry: 0 for a constant, 1 for a variable, and 32 bits
unfoldable pub put_entry : Entry → List ℕ
put_entry (Constant n) = 0 ∷ bytes_of 4 n
put_entry (Variable v) = 1 ∷ bytes_of 4 v

-- The entry that a byte and a number stand for
abbrev pub entry_from : ℕ → ℕ → Cell
entry_from tag n = record { entry = cond (eqb tag 0) (Constant n) (Variable n) }

-- Whether they stand for a good one: the byte is 0 or 1, and the number keeps the limit
abbrev pub is_entry : ℕ → ℕ → Bool
is_entry tag n = leb tag 1 && good_cell (entry_from tag n)

-- An entry: a byte (0 constant, 1 variable) and 32 bits
unfoldable pub entry : Format Cell
entry =
    record {
      good = good_cell;
      put = λ c. put_entry c.entry;
      get = λ bytes.
          got_if (leb 5 (length bytes) && is_entry (get_or bytes 0 0) (number 4 (drop 1 bytes)))
          (entry_from (get_or bytes 0 0) (number 4 (drop 1 bytes)))
          (drop 5 bytes);
    }

-- n entries in 8 cells
unfoldable pub entries : ℕ → Format (List Cell)
entries n = padded 8 no_cell blank_cell n entry

-- A row: the relation byte and one entry a column
unfoldable pub row : List ℕ → Format (ℕ × List Cell)
row schema = sequence (byte (λ r. ltb r (length schema))) (λ r. entries (get_or schema r 0))

-- A row that is not in use
abbrev pub no_row : ℕ × List Cell
no_row = (0, replicate 8 no_cell)

-- Whether a row is blank: all 0, in 8 cells
abbrev pub blank_row : ℕ × List Cell → Bool
blank_row r = is_zero r.0 && (eqb (length r.1) 8 && every blank_cell r.1)

-- n rows, with room for `most`
unfoldable pub rows : ℕ → List ℕ → ℕ → Format (List (ℕ × List Cell))
rows most schema n = padded most no_row blank_row n (row schema)

-- Relations and cells as rows of 8 cells each
unfoldable pub chunk : List ℕ → List Cell → List (ℕ × List Cell)
chunk [] cells = []
chunk (r ∷ rs) cells = (r, take 8 cells) ∷ chunk rs (drop 8 cells)

-- The cells of some rows, row by row
abbrev pub flat : List (ℕ × List Cell) → List Cell
flat rows = flat_map (λ r. r.1) rows

-- A query's head length, row count, head and rows
abbrev pub QueryFields : Type 0
QueryFields = ℕ × (ℕ × (List Cell × List (ℕ × List Cell)))

-- The query with the given fields
abbrev pub query_with : QueryFields → Query
query_with f =
    record { arity = f.0; size = f.1.0; head = f.1.1.0; relations = map (λ r. r.0) f.1.1.1; cells = flat f.1.1.1 }

-- The fields of a query
abbrev pub fields_of : Query → QueryFields
fields_of q = (q.arity, (q.size, (q.head, chunk q.relations q.cells)))

-- Whether a query has 8 cells for each of `most` rows
abbrev pub full_cells : ℕ → Query → Bool
full_cells most q = eqb (length q.cells) (8 * most)

-- A query with room for `most` rows: head length, row count, head entries, then rows. Never, which has no rows, has no head entries: only the two bytes
unfoldable pub query_for : ℕ → List ℕ → Format Query
query_for most schema =
    via (full_cells most) query_with fields_of
    (sequence (byte (λ n. leb n 8))
    (λ arity.
    sequence (byte (λ n. leb n most))
    (λ size. sequence (entries (cond (eqb size 0) 0 arity)) (λ head. rows most schema size))))

-- A stored query has at most 12 rows
abbrev pub query : List ℕ → Format Query
query schema = query_for 12 schema
