-- What is proved of constants that were renumbered. Each statement is proved in `proofs/Theorems`.
use Rattle.std.specs.Prelude.{◌≡◌, ◌↔◌, false, List, [], ◌∷◌, ◌++◌, map, ℕ, ◌<◌, length}
use Rattle.theory.specs.Query.{constant, variable, Query, variables, member, RowsFit, WellFormed, ◌∈◌}
use Rattle.theory.specs.Database.{Database, Dependency, Legal}
use Rattle.theory.specs.Answer.{Answer}
use Rattle.theory.specs.Chase.{chase}
use Rattle.theory.specs.Containment.{frozen_rows}
use Rattle.theory.specs.Codes.{CodePair, read_code, read_query, read_database, old_codes, WithoutOld, QueryWithoutOld, CurrentStay, LegalAsRead}

-- ---- codes

-- To read twice is to read once
abbrev pub ReadTwice : Type 0
ReadTwice = (ps : List CodePair) (n : ℕ) → CurrentStay ps → read_code ps (read_code ps n) ≡ read_code ps n

-- What is read is no old code
abbrev pub ReadIsCurrent : Type 0
ReadIsCurrent = (ps : List CodePair) (n : ℕ) → CurrentStay ps → member (read_code ps n) (old_codes ps) ≡ false

-- A number that is no old code is read as itself
abbrev pub OthersStay : Type 0
OthersStay = (ps : List CodePair) (n : ℕ) → member n (old_codes ps) ≡ false → read_code ps n ≡ n

-- and an old code as its current one. Where two pairs have one old code, the first of them counts
abbrev pub OldIsRead : Type 0
OldIsRead =
    (ps before after : List CodePair) (p : CodePair) → ps ≡ before ++ p ∷ after → member p.old (old_codes before) ≡ false
    → read_code ps p.old ≡ p.current

-- With one pair more what was read is read on by it, where its old code is no current one of those before it: so the record's rule has it
abbrev pub ReadOneMore : Type 0
ReadOneMore =
    (ps : List CodePair) (p : CodePair) (n : ℕ) → member p.old (map (λ q. q.current) ps) ≡ false
    → read_code (ps ++ p ∷ []) n ≡ read_code (p ∷ []) (read_code ps n)

-- Two old codes may have one current code, but no current code may be an old one: 5 and 6 may both become 9, but not 5 become 9 and 9 become 10
abbrev pub StayExample : Type 0
StayExample =
    CurrentStay (record { old = 5; current = 9 } ∷ record { old = 6; current = 9 } ∷ [])
    × (CurrentStay (record { old = 5; current = 9 } ∷ record { old = 9; current = 10 } ∷ []) → ⊥)

-- ---- databases

-- A database as it is read has no old code
abbrev pub DatabaseRead : Type 0
DatabaseRead = (ps : List CodePair) (D : Database) → CurrentStay ps → WithoutOld ps (read_database ps D)

-- and one without old codes is read as itself
abbrev pub CurrentDatabase : Type 0
CurrentDatabase = (ps : List CodePair) (D : Database) → WithoutOld ps D → read_database ps D ≡ D

-- So the databases that statements speak of are the legal ones that are read as themselves
abbrev pub LegalAsReadExactly : Type 0
LegalAsReadExactly =
    (ps : List CodePair) (widths : List ℕ) (ds : List Dependency) (D : Database) → CurrentStay ps
    → LegalAsRead ps widths ds D ↔ (Legal widths ds D × (read_database ps D ≡ D))

-- Where 5 became 9, values are read and the numbers of relations are not. Rows that become equal both stay, each at its position
abbrev pub DatabaseExample : Type 0
DatabaseExample =
    read_database (record { old = 5; current = 9 } ∷ []) (record { relation = 5; values = 5 ∷ 7 ∷ 9 ∷ [] } ∷ record { relation = 5; values = 9 ∷ 7 ∷ 5 ∷ [] } ∷ record { relation = 0; values = [] } ∷ [])
    ≡ record { relation = 5; values = 9 ∷ 7 ∷ 9 ∷ [] } ∷ record { relation = 5; values = 9 ∷ 7 ∷ 9 ∷ [] } ∷ record { relation = 0; values = [] } ∷ []

-- ---- queries

-- A query as it is read has no old code
abbrev pub QueryRead : Type 0
QueryRead = (ps : List CodePair) (q : Query) → CurrentStay ps → QueryWithoutOld ps (read_query ps q)

-- and one without old codes is read as itself
abbrev pub CurrentQuery : Type 0
CurrentQuery = (ps : List CodePair) (q : Query) → QueryWithoutOld ps q → read_query ps q ≡ q

-- Reading keeps a query well-formed,
abbrev pub ReadWellFormed : Type 0
ReadWellFormed = (ps : List CodePair) (widths : List ℕ) (q : Query) → WellFormed widths q → WellFormed widths (read_query ps q)

-- its rows' fit,
abbrev pub ReadRowsFit : Type 0
ReadRowsFit = (ps : List CodePair) (widths : List ℕ) (q : Query) → RowsFit widths q → RowsFit widths (read_query ps q)

-- how many rows it has, and its head's length,
abbrev pub ReadLengths : Type 0
ReadLengths =
    (ps : List CodePair) (q : Query)
    → (length (read_query ps q).rows ≡ length q.rows) × (length (read_query ps q).head ≡ length q.head)

-- and its variables
abbrev pub ReadVariables : Type 0
ReadVariables = (ps : List CodePair) (q : Query) → variables (read_query ps q) ≡ variables q

-- Where 5 became 9, constants are read, in the head too; variables and the numbers of relations are not
abbrev pub QueryExample : Type 0
QueryExample =
    read_query
    (record { old = 5; current = 9 } ∷ [])
    (record {
      head = constant 5 ∷ variable 5 ∷ [];
      rows = record { relation = 5; values = constant 7 ∷ variable 5 ∷ constant 5 ∷ [] } ∷ [];
    })
    ≡ record {
      head = constant 9 ∷ variable 5 ∷ [];
      rows = record { relation = 5; values = constant 7 ∷ variable 5 ∷ constant 9 ∷ [] } ∷ [];
    }

-- With no pairs all is read as it is
abbrev pub NothingRead : Type 0
NothingRead = ((q : Query) → read_query [] q ≡ q) × ((D : Database) → read_database [] D ≡ D)

-- ---- answers and the chase

-- An answer of a query on a database, both as they are read, has no old code. A variable of the head that stands in no row could be any number
abbrev pub AnswersCurrent : Type 0
AnswersCurrent =
    (ps : List CodePair) (widths : List ℕ) (D : Database) (q : Query) (t : List ℕ) → CurrentStay ps → WellFormed widths q
    → Answer (read_database ps D) (read_query ps q) t → (n : ℕ) → n ∈ t → member n (old_codes ps) ≡ false

-- The chase brings no old code. In a row that does not fit, constant 0 stands in for a missing column
abbrev pub ChaseCurrent : Type 0
ChaseCurrent =
    (ps : List CodePair) (widths : List ℕ) (ds : List Dependency) (q : Query) → RowsFit widths q
    → QueryWithoutOld ps q → QueryWithoutOld ps (chase ds q).query

-- Each old code is below the base
abbrev pub OldCodesBelow : ℕ → List CodePair → Type 0
OldCodesBelow base ps = (p : CodePair) → p ∈ ps → p.old < base

-- Then no variable is read as one, so that a query without old codes, read as a database, has none
abbrev pub FrozenCurrent : Type 0
FrozenCurrent = (ps : List CodePair) (base : ℕ) (q : Query) → OldCodesBelow base ps → QueryWithoutOld ps q → WithoutOld ps (frozen_rows base q)
