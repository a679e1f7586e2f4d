-- The bytes that the functions write, piece by piece.
use Rattle.std.specs.Prelude.{Bool, cond, ℕ, ◌+◌, ◌*◌, eqb, leb, take}
use mathlib.Core.List.{List, [], ◌∷◌, ◌++◌, map, flat_map, flatten}
use Rattle.query.specs.declared.CodePair.{CodePair}
use Rattle.query.specs.declared.Dependency.{Dependency}
use Rattle.query.specs.declared.JoinDependency.{JoinDependency}
use Rattle.record.specs.declared.Record.{Record}
use Rattle.record.specs.View.{schema_of}
use Rattle.format.specs.Bytes.{bytes_of}
use Rattle.format.specs.Parts.{relations}
use Rattle.format.specs.File.{table_of, put_place}

-- The bytes of a pair of codes
abbrev pub put_pair : CodePair → List ℕ
put_pair p = bytes_of 4 p.old ++ bytes_of 4 p.current

-- The bytes of part 0 after the widths: none where no pair of codes is held, else their count, then 8 bytes each
abbrev pub codes_bytes : ℕ → List CodePair → List ℕ
codes_bytes coded list = cond (eqb coded 0) [] (coded ∷ flat_map put_pair (take coded list))

-- How many bytes these are
abbrev pub codes_long : ℕ → ℕ
codes_long coded = cond (eqb coded 0) 0 (1 + 8 * coded)

-- The bytes of a functional dependency
abbrev pub put_dependency : Dependency → List ℕ
put_dependency d = d.relation ∷ d.left ∷ d.right ∷ []

-- The bytes at the front of part 1: the count of functional dependencies, then 3 bytes each
abbrev pub dependency_bytes : ℕ → List Dependency → List ℕ
dependency_bytes held list = held ∷ flat_map put_dependency (take held list)

-- The bytes of a join dependency
abbrev pub put_join : JoinDependency → List ℕ
put_join j = j.relation ∷ j.count ∷ take j.count j.sets

-- Whether a join dependency has at most 4 sets
abbrev pub few_sets : JoinDependency → Bool
few_sets j = leb j.count 4

-- The bytes of part 1 after them: none where no join dependency is held, else their count, then each
abbrev pub joins_bytes : ℕ → List JoinDependency → List ℕ
joins_bytes joined list = cond (eqb joined 0) [] (joined ∷ flat_map put_join (take joined list))

-- The number of parts and the table: parts 0 and 1 of the given lengths, and query parts
abbrev pub directory_bytes : ℕ → ℕ → ℕ → List (List ℕ) → List ℕ
directory_bytes n first second parts =
    bytes_of 2 (n + 2) ++ bytes_of 2 (2 + 4 * (n + 2)) ++ bytes_of 2 first ++ bytes_of 2 (2 + 4 * (n + 2) + first) ++ bytes_of 2 second
    ++ table_of (2 + 4 * (n + 2) + first + second) parts

-- The parts of a record, n of them query parts, one after the other
abbrev pub part_bytes : Record → ℕ → List ℕ
part_bytes r n =
    relations.put (r.relations, r.widths) ++ codes_bytes r.coded r.codes ++ dependency_bytes r.held r.dependencies ++ joins_bytes r.joined r.joins
    ++ flatten (map (put_place (schema_of r)) (take n r.places))
