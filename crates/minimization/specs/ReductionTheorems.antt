-- What is proved of the results of reduction: of the one that is given, and of every one, whichever rows stay in which order.
-- Each statement is proved in `proofs/Theorems`.
use Rattle.std.specs.Prelude.{◌≡◌, ◌≢◌, ◌↔◌, List, [], ℕ, ◌≤◌, length}
use Rattle.theory.specs.Query.{Entry, Row, Query, RowsFit, WellFormed, ◌∈◌, without}
use Rattle.theory.specs.Database.{Database, Dependency, Obeys, Legal}
use Rattle.theory.specs.Answer.{Answer, Mapping}
use Rattle.theory.specs.Chase.{chase}
use Rattle.theory.specs.Containment.{frozen_rows, ConstantsBelow}
use Rattle.theory.specs.Codes.{CodePair, read_query, QueryWithoutOld, CurrentStay, LegalAsRead}
use Rattle.minimization.specs.Reduction.{Reduction, Shrinks, Reordered, Rival, Minimal, MinimalAsRead}
use Rattle.minimization.specs.Kept.{Ascend, reduced}

-- Every query has a result
abbrev pub ResultExists : Type 0
ResultExists = (ds : List Dependency) (S : Query) → (T : Query) × Reduction ds S T

-- `reduced` is one
abbrev pub ReducedIsResult : Type 0
ReducedIsResult = (ds : List Dependency) (S : Query) → Reduction ds S (reduced ds S)

-- The rows of the result that is given ascend
abbrev pub ReducedAscends : Type 0
ReducedAscends = (widths : List ℕ) (ds : List Dependency) (S : Query) → RowsFit widths S → Ascend (reduced ds S).rows

-- The results are what the chased query comes to by losing rows one at a time, in any order of rows
abbrev pub ResultsExactly : Type 0
ResultsExactly =
    (ds : List Dependency) (S T : Query) → Reduction ds S T ↔ ((T' : Query) × Shrinks (chase ds S).query T' × Reordered T T')

-- On every database that obeys the dependencies a result has exactly the answers of the source query
abbrev pub ResultKeepsAnswers : Type 0
ResultKeepsAnswers =
    (ds : List Dependency) (S T : Query) → Reduction ds S T → (D : Database) → Obeys ds D → (t : List ℕ) → Answer D S t ↔ Answer D T t

-- No rival of the source query over the legal databases has fewer rows than a result
abbrev pub ResultMinimal : Type 0
ResultMinimal = (widths : List ℕ) (ds : List Dependency) (S T : Query) → RowsFit widths S → Reduction ds S T → Minimal (Legal widths ds) S T

-- and a result is a rival itself
abbrev pub ResultIsRival : Type 0
ResultIsRival = (widths : List ℕ) (ds : List Dependency) (S T : Query) → Reduction ds S T → Rival (Legal widths ds) S T

-- So all results have equally many rows
abbrev pub ResultsSameSize : Type 0
ResultsSameSize = (ds : List Dependency) (S T U : Query) → Reduction ds S T → Reduction ds S U → length T.rows ≡ length U.rows

-- No rival has fewer rows over any class of databases that obey, if each database whose rows are rows of the result, read as numbers, is of the class
abbrev pub ResultMinimalOver : Type 1
ResultMinimalOver =
    (C : Database → Type 0) (ds : List Dependency) (S T : Query) (base : ℕ) → ((D : Database) → C D → Obeys ds D)
    → ConstantsBelow base T → ((D : Database) → ((r : Row ℕ) → r ∈ D → r ∈ frozen_rows base T) → C D)
    → Reduction ds S T → Minimal C S T

-- Unless it is never, a result receives a mapping from the source query
abbrev pub ResultMaps : Type 0
ResultMaps = (ds : List Dependency) (S T : Query) → Reduction ds S T → T.rows ≢ [] → Mapping S T

-- A result is never exactly when the source query chases to never, and then it is that never
abbrev pub ResultNever : Type 0
ResultNever =
    (ds : List Dependency) (S T : Query) → Reduction ds S T
    → ((T.rows ≡ []) ↔ ((chase ds S).query.rows ≡ [])) × (T.rows ≡ [] → T ≡ (chase ds S).query)

-- No row stands twice in a result
abbrev pub ResultWithoutRepeats : Type 0
ResultWithoutRepeats =
    (ds : List Dependency) (S T : Query) → Reduction ds S T → (r : Row Entry) (at : r ∈ T.rows) → r ∈ without T.rows at → ⊥

-- A result is well-formed if the source query is, and has no more rows
abbrev pub ResultWellFormed : Type 0
ResultWellFormed =
    (widths : List ℕ) (ds : List Dependency) (S T : Query) → Reduction ds S T
    → (WellFormed widths S → WellFormed widths T) × (length T.rows ≤ length S.rows)

-- ---- where constants were renumbered

-- A result of a query without old codes has none
abbrev pub ResultCurrent : Type 0
ResultCurrent =
    (ps : List CodePair) (widths : List ℕ) (ds : List Dependency) (S T : Query) → RowsFit widths S → QueryWithoutOld ps S
    → Reduction ds S T → QueryWithoutOld ps T

-- so `reduced` has none
abbrev pub ReducedCurrent : Type 0
ReducedCurrent =
    (ps : List CodePair) (widths : List ℕ) (ds : List Dependency) (S : Query) → RowsFit widths S → QueryWithoutOld ps S
    → QueryWithoutOld ps (reduced ds S)

-- Over the legal databases without old codes no query that, as it is read, is a rival of such a query has fewer rows than a result
abbrev pub ReducedMinimalAsRead : Type 0
ReducedMinimalAsRead =
    (ps : List CodePair) (widths : List ℕ) (ds : List Dependency) (S T : Query) → RowsFit widths S → QueryWithoutOld ps S
    → Reduction ds S T → MinimalAsRead ps (LegalAsRead ps widths ds) S T

-- and a result, as it is read, is a rival itself
abbrev pub ReducedRivalAsRead : Type 0
ReducedRivalAsRead =
    (ps : List CodePair) (widths : List ℕ) (ds : List Dependency) (S T : Query) → RowsFit widths S → QueryWithoutOld ps S
    → Reduction ds S T → Rival (LegalAsRead ps widths ds) S (read_query ps T)

-- Of the queries only those without old codes count, over any class
abbrev pub MinimalAsReadExactly : Type 1
MinimalAsReadExactly =
    (ps : List CodePair) (C : Database → Type 0) (S T : Query) → CurrentStay ps
    → MinimalAsRead ps C S T ↔ ((R : Query) → QueryWithoutOld ps R → Rival C S R → length T.rows ≤ length R.rows)
