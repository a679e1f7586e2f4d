-- The meaning of the fields of a stored query and of stored dependencies: the theory's query and dependencies that they stand for.
-- One definition for every width and row count.
use Rattle.std.specs.Prelude.{cond, List, [], ◌∷◌, map, ℕ, zero, suc, ◌+◌, ◌/◌, ◌%◌, ◌^◌, eqb, take, drop, get_or}
use Rattle.query.specs.declared.Entry.{Entry}
use Rattle.query.specs.declared.Entry.TheVariants.{Constant, Variable}
use Rattle.query.specs.declared.Cell.{Cell}
use Rattle.query.specs.Types.{Query}
use Rattle.query.specs.Types.{Tableau}
use Rattle.query.specs.declared.Dependency.{Dependency}
use Rattle.query.specs.declared.JoinDependency.{JoinDependency}
use Rattle.query.specs.declared.CodePair.{CodePair}
use Rattle.theory.specs.Query as theory
use Rattle.theory.specs.Database as database
use Rattle.theory.specs.Codes as codes

-- The entry that an enum value stands for
abbrev pub entry_of : Entry → theory.Entry
entry_of (Constant n) = theory.constant n
entry_of (Variable v) = theory.variable v

-- The entries that some cells stand for
abbrev pub entries_of : List Cell → List theory.Entry
entries_of cells = map (λ c. entry_of c.entry) cells

-- The rows of the given relations: a row's cells start 8 after those of the row before, and it has as many entries as its relation has columns
unfoldable pub rows_of : List ℕ → List ℕ → List Cell → List (theory.Row theory.Entry)
rows_of widths [] cells = []
rows_of widths (relation ∷ relations) cells =
    record { relation = relation; values = entries_of (take (get_or widths relation 0) cells) } ∷ rows_of widths relations (drop 8 cells)

-- The query that a stored query stands for
abbrev pub query_of : List ℕ → Query → theory.Query
query_of widths q =
    record {
      head = entries_of (take q.arity q.head);
      rows = rows_of widths (take q.size q.relations) q.cells;
    }

-- A tableau as a query: it has the fields of one, with room for more rows
abbrev pub as_query : Tableau → Query
as_query t = record { arity = t.arity; size = t.size; head = t.head; relations = t.relations; cells = t.cells }

-- The columns of a mask, ascending from a start: bit c stands for column c
unfoldable pub columns_from : ℕ → ℕ → ℕ → List ℕ
columns_from start zero mask = []
columns_from start (suc n) mask =
    cond (eqb (mask % 2) 1) (start ∷ columns_from (suc start) n (mask / 2)) (columns_from (suc start) n (mask / 2))

-- The columns of a mask of 8 bits
abbrev pub columns_of : ℕ → List ℕ
columns_of mask = columns_from 0 8 mask

-- The mask of a set of columns: bit c for column c
unfoldable pub mask_of : List ℕ → ℕ
mask_of [] = 0
mask_of (c ∷ cs) = 2 ^ c + mask_of cs

-- The dependency that a stored one stands for
abbrev pub dependency_of : Dependency → database.Dependency
dependency_of d = record { relation = d.relation; left = columns_of d.left; right = d.right }

-- The dependencies that the first `held` of an array stand for
abbrev pub held_of : List Dependency → ℕ → List database.Dependency
held_of dependencies held = map dependency_of (take held dependencies)

-- The join dependency that a stored one stands for
abbrev pub join_of : JoinDependency → database.JoinDependency
join_of j = record { relation = j.relation; sets = map columns_of (take j.count j.sets) }

-- The join dependencies that the first `held` of an array stand for
abbrev pub held_joins : List JoinDependency → ℕ → List database.JoinDependency
held_joins joins held = map join_of (take held joins)

-- The pair of codes that a stored one stands for
abbrev pub pair_of : CodePair → codes.CodePair
pair_of p = record { old = p.old; current = p.current }

-- The pairs of codes that the first `coded` of an array stand for
abbrev pub held_codes : List CodePair → ℕ → List codes.CodePair
held_codes pairs coded = map pair_of (take coded pairs)

-- The assignment that an array of images gives: variable v goes to the entry at v, to constant 0 past the end
abbrev pub images_of : List Cell → ℕ → theory.Entry
images_of images v = entry_of (get_or images v (record { entry = Constant 0 })).entry
