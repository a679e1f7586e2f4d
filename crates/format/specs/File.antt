-- The file: the directory of its parts, the reader with its refusals, and the bytes of a record (SPECIFICATION, The file and Refusals, 1 to 6, 15 and 18).
use Rattle.std.specs.Prelude.{Bool, true, false, cond, ◌&&◌, ℕ, zero, suc, ◌+◌, ◌*◌, eqb, leb, length, take, drop, replicate}
use mathlib.Core.List.{List, [], ◌∷◌, ◌++◌, map, flatten}
use Rattle.query.specs.Types.{Query}
use Rattle.query.specs.declared.Dependency.{Dependency}
use Rattle.query.specs.declared.JoinDependency.{JoinDependency}
use Rattle.query.specs.declared.CodePair.{CodePair}
use Rattle.query.specs.declared.Place.{Place}
use Rattle.record.specs.declared.Record.{Record}
use Rattle.record.specs.View.{schema_of}
use Rattle.lists.specs.Tests.{between, every}
use Rattle.lists.specs.Over.{pad}
use Rattle.query.specs.Rule.{head_safe, shaped_query, shaped_join, no_pair, no_join, no_place, place_with}
use Rattle.record_calls.specs.Calls.{blank_record}
use Rattle.refusals.specs.Refusals.{bad_code, bad_dependency, bad_directory, bad_join, bad_offsets, bad_query, bad_relations, unsafe_head, Reply, refused, gives, ◌>>=◌}
use Rattle.format.specs.Bytes.{number, bytes_of}
use Rattle.format.specs.Format.{Reading, none, got}
use Rattle.format.specs.Parts.{relations, codes, dependencies, joins, query}

-- ---- the first fault decides

-- A part that is to hold one value and no more: refused if the value is bad or the part too short, and refused if it is too long
unfoldable pub complete : {A : Type 0} → ℕ → Reading A → Reply A
complete n none = refused n
complete n (got a []) = gives a
complete n (got a (b ∷ rest)) = refused n

-- A value at the front of a part, and the bytes after it: refused if the value is bad or the part too short
unfoldable pub front : {A : Type 0} → ℕ → Reading A → Reply (A × List ℕ)
front n none = refused n
front n (got a rest) = gives (a, rest)

-- ---- the directory

-- Each pair of the table has the offset that is due, and the last part ends where the file does
unfoldable pub chained : ℕ → ℕ → ℕ → List ℕ → Bool
chained zero due end table = eqb due end
chained (suc n) due end table = eqb (number 2 table) due && chained n (due + number 2 (drop 2 table)) end (drop 4 table)

-- The stretch of the file that the first pair of the table names
abbrev pub stretch : List ℕ → List ℕ → List ℕ
stretch file table = take (number 2 (drop 2 table)) (drop (number 2 table) file)

-- The stretches of the file that the first n pairs of the table name
unfoldable pub stretches : ℕ → List ℕ → List ℕ → List (List ℕ)
stretches zero file table = []
stretches (suc n) file table = stretch file table ∷ stretches n file (drop 4 table)

-- At least 2 bytes, 2 to 10 parts, and a pair of 4 bytes for each: what bad_directory is refused for
abbrev pub table_fits : List ℕ → Bool
table_fits file = leb 2 (length file) && (between 2 10 (number 2 file) && leb (2 + 4 * number 2 file) (length file))

-- The parts of a file. Refused: 1, the table does not fit; 2, a pair breaks the offset rule
unfoldable pub directory : List ℕ → Reply (List (List ℕ))
directory file =
    cond (table_fits file)
    (cond (chained (number 2 file) (2 + 4 * number 2 file) (length file) (drop 2 file))
    (gives (stretches (number 2 file) file (drop 2 file)))
    (refused bad_offsets))
    (refused bad_directory)

-- The table of some parts, the first of which starts at the given offset
unfoldable pub table_of : ℕ → List (List ℕ) → List ℕ
table_of start [] = []
table_of start (p ∷ ps) = bytes_of 2 start ++ bytes_of 2 (length p) ++ table_of (start + length p) ps

-- The file of some parts: their number, the table, and the parts one after the other
unfoldable pub assemble : List (List ℕ) → List ℕ
assemble parts = bytes_of 2 (length parts) ++ table_of (2 + 4 * length parts) parts ++ flatten parts

-- ---- reading

-- No pairs of codes, in an array of 16
abbrev pub no_codes : ℕ × List CodePair
no_codes = (0, replicate 16 no_pair)

-- What part 0 holds after the widths: nothing where no pair of codes is held. Refused: 18, any bytes that are not theirs
unfoldable pub read_codes : List ℕ → Reply (ℕ × List CodePair)
read_codes [] = gives no_codes
read_codes (b ∷ bytes) = complete bad_code (codes.get (b ∷ bytes))

-- No join dependencies, in an array of 4
abbrev pub no_joins : ℕ × List JoinDependency
no_joins = (0, replicate 4 no_join)

-- What part 1 holds after the functional dependencies: nothing where no join dependency is held. Refused: 15, any bytes that are not theirs
unfoldable pub read_joins : List ℕ → List ℕ → Reply (ℕ × List JoinDependency)
read_joins schema [] = gives no_joins
read_joins schema (b ∷ bytes) = complete bad_join ((joins schema).get (b ∷ bytes))

-- Whether a part is the single byte 255, a vacant place
unfoldable pub is_vacant : List ℕ → Bool
is_vacant [] = false
is_vacant (b ∷ []) = eqb b 255
is_vacant (b ∷ c ∷ bytes) = false

-- A query whose head is safe. Refused: 6, a head variable in no row
unfoldable pub safe_query : List ℕ → Query → Reply Place
safe_query schema q = cond (head_safe schema q) (gives (place_with q)) (refused unsafe_head)

-- A query part. Refused: 5, a bad query, another length, or a last part that is vacant; then 6
unfoldable pub read_place : List ℕ → Bool → List ℕ → Reply Place
read_place schema last part =
    cond (is_vacant part) (cond last (refused bad_query) (gives no_place)) (complete bad_query ((query schema).get part) >>= safe_query schema)

-- Whether there is no part left
unfoldable pub none_left : List (List ℕ) → Bool
none_left [] = true
none_left (p ∷ ps) = false

-- The query parts in file order
unfoldable pub read_places : List ℕ → List (List ℕ) → Reply (List Place)
read_places schema [] = gives []
read_places schema (p ∷ ps) = do
  place ← read_place schema (none_left ps) p
  places ← read_places schema ps
  gives (place ∷ places)

-- The record of the given relations, pairs of codes, functional and join dependencies and first places
abbrev pub record_with : ℕ × List ℕ → ℕ × List CodePair → ℕ × List Dependency → ℕ × List JoinDependency → List Place → Record
record_with rs cs ds js places =
    record {
      relations = rs.0;
      widths = rs.1;
      coded = cs.0;
      codes = cs.1;
      held = ds.0;
      dependencies = ds.1;
      joined = js.0;
      joins = js.1;
      places = pad 8 no_place places;
    }

-- The parts in file order. Refused: 3, relations; 18, pairs of codes; 4, functional dependencies; 15, join dependencies; 5 and 6, query parts
unfoldable pub read_parts : List ℕ → List ℕ → List (List ℕ) → Reply Record
read_parts part0 part1 parts = do
  rs ← front bad_relations (relations.get part0)
  cs ← read_codes rs.1
  ds ← front bad_dependency ((dependencies (take rs.0.0 rs.0.1)).get part1)
  js ← read_joins (take rs.0.0 rs.0.1) ds.1
  places ← read_places (take rs.0.0 rs.0.1) parts
  gives (record_with rs.0 cs ds.0 js places)

-- All parts. The directory gives at least two
unfoldable pub read_all : List (List ℕ) → Reply Record
read_all [] = refused bad_directory
read_all (part0 ∷ []) = refused bad_directory
read_all (part0 ∷ part1 ∷ parts) = read_parts part0 part1 parts

-- The record of a file, or the first fault
unfoldable pub read_file : List ℕ → Reply Record
read_file file = directory file >>= read_all

-- What reading says, and the record that it hands back: that of the file, or the blank one where it is refused
abbrev pub read_outcome : Reply Record → Reply (Unit {0}) × Record
read_outcome (gives r) = (gives tt, r)
read_outcome (refused n) = (refused n, blank_record)

-- ---- writing

-- The bytes of pairs of codes, none where none is held
unfoldable pub put_codes : ℕ × List CodePair → List ℕ
put_codes cs = cond (eqb cs.0 0) [] (codes.put cs)

-- The bytes of join dependencies, none where none is held
unfoldable pub put_joins : List ℕ → ℕ × List JoinDependency → List ℕ
put_joins schema js = cond (eqb js.0 0) [] ((joins schema).put js)

-- The part of a place: 255 alone if it is vacant, else its query
unfoldable pub put_place : List ℕ → Place → List ℕ
put_place schema p = cond p.filled ((query schema).put p.query) (255 ∷ [])

-- One more if there is any
abbrev pub one_more_if_any : ℕ → ℕ
one_more_if_any zero = zero
one_more_if_any (suc n) = suc (suc n)

-- How many places there are up to the last filled one
unfoldable pub up_to_filled : List Place → ℕ
up_to_filled [] = 0
up_to_filled (p ∷ ps) = cond p.filled (suc (up_to_filled ps)) (one_more_if_any (up_to_filled ps))

-- The parts of a record's file
unfoldable pub parts_of : Record → List (List ℕ)
parts_of r =
    (relations.put (r.relations, r.widths) ++ put_codes (r.coded, r.codes))
    ∷ ((dependencies (schema_of r)).put (r.held, r.dependencies) ++ put_joins (schema_of r) (r.joined, r.joins))
    ∷ map (put_place (schema_of r)) (take (up_to_filled r.places) r.places)

-- The file of a record
unfoldable pub file_of : Record → List ℕ
file_of r = assemble (parts_of r)

-- ---- the lengths of the record's arrays, which its types give

-- A record has 8 widths, 16 pairs of codes, 32 functional dependencies, 4 join dependencies of 4 sets each, and 8 places, each with the arrays of a query
abbrev pub shaped : Record → Bool
shaped r =
    eqb (length r.widths) 8 && eqb (length r.codes) 16 && eqb (length r.dependencies) 32 && eqb (length r.joins) 4 && every shaped_join r.joins
    && eqb (length r.places) 8 && every (λ p. shaped_query p.query) r.places
