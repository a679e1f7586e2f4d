-- What is proved of join dependencies and of the chase with both kinds. Each statement is proved in `proofs/Theorems`.
use Rattle.std.specs.Prelude.{◌≡◌, ◌≢◌, ◌↔◌, ◌⊎◌, Bool, true, false, cond, not, ◌&&◌, List, [], ◌∷◌, ◌++◌, map, ℕ, ◌≤◌, ◌<◌, eqb, length, get_or}
use Rattle.std.proofs.Math.Option
use Rattle.std.proofs.Math.Option.{Option, none, some}
use Rattle.theory.specs.Query.{Entry, constant, Row, Query, column, map_row, RowsFit, WellFormed, ◌∈◌}
use Rattle.theory.specs.Database.{Database, Dependency, Agree, Obeys, Sound, JoinDependency}
use Rattle.theory.specs.Answer.{Answer, Mapping}
use Rattle.theory.specs.Chase.{first_passing, first_found, agree, chase}
use Rattle.theory.specs.Containment.{Contained, Counterexample, frozen_rows, frozen_head, ConstantsBelow, StandsFor}
use Rattle.theory.specs.Codes.{CodePair, read_database, QueryWithoutOld, CurrentStay}
use Rattle.theory.specs.CodeTheorems.{OldCodesBelow}
use Rattle.theory.specs.OrderTheorems.{FirstFound}
use Rattle.minimization.specs.Checking.{same_row}
use Rattle.joins.specs.Join.{ObeysJoin, ObeysBoth, LegalForBoth, LegalForBothAsRead, JoinFits, JoinsFit, join_fits}
use Rattle.joins.specs.JoinChase.{Choice, picks, candidates, choices, yields, consistent, missing, first_missing, next_row, keep_first}
use Rattle.joins.specs.JoinChase.{Outcome, chased, overflow, JoinChases, join_chase, join_contained}

-- ---- the chase ends, in one way

-- The chase ends
abbrev pub JoinChaseEnds : Type 0
JoinChaseEnds =
    (widths : List ℕ) (ds : List Dependency) (js : List JoinDependency) (limit : ℕ) (q : Query) → JoinsFit widths js
    → (outcome : Outcome) × JoinChases widths ds js limit q outcome

-- in one outcome
abbrev pub JoinChaseUnique : Type 0
JoinChaseUnique =
    (widths : List ℕ) (ds : List Dependency) (js : List JoinDependency) (limit : ℕ) (q : Query) (one other : Outcome)
    → JoinChases widths ds js limit q one → JoinChases widths ds js limit q other → one ≡ other

-- and `join_chase` computes it
abbrev pub JoinChaseComputes : Type 0
JoinChaseComputes =
    (widths : List ℕ) (ds : List Dependency) (js : List JoinDependency) (limit : ℕ) (q : Query) (outcome : Outcome) → JoinsFit widths js
    → JoinChases widths ds js limit q outcome ↔ (join_chase widths ds js limit q ≡ outcome)

-- With no join dependency it is the functional chase, repeated rows and all, whatever the limit
abbrev pub WithoutJoins : Type 0
WithoutJoins =
    (widths : List ℕ) (ds : List Dependency) (limit : ℕ) (q : Query) (outcome : Outcome)
    → JoinChases widths ds [] limit q outcome ↔ (outcome ≡ chased (chase ds q).query)

-- ---- answers

-- On every database that obeys both kinds the chased query has the answers of the query
abbrev pub JoinChaseKeepsAnswers : Type 0
JoinChaseKeepsAnswers =
    (widths : List ℕ) (ds : List Dependency) (js : List JoinDependency) (limit : ℕ) (q result : Query) → JoinsFit widths js
    → JoinChases widths ds js limit q (chased result)
    → (D : Database) → ObeysBoth widths ds js D → (t : List ℕ) → Answer D q t ↔ Answer D result t

-- A query that chases to never has no answer there
abbrev pub NeverMeansNoAnswers : Type 0
NeverMeansNoAnswers =
    (widths : List ℕ) (ds : List Dependency) (js : List JoinDependency) (limit : ℕ) (q result : Query) → JoinsFit widths js
    → JoinChases widths ds js limit q (chased result) → result.rows ≡ []
    → (D : Database) → ObeysBoth widths ds js D → (t : List ℕ) → Answer D q t → ⊥

-- Unless it is never, the chased query receives a mapping from the query
abbrev pub JoinChaseMaps : Type 0
JoinChaseMaps =
    (widths : List ℕ) (ds : List Dependency) (js : List JoinDependency) (limit : ℕ) (q result : Query) → JoinsFit widths js
    → JoinChases widths ds js limit q (chased result) → result.rows ≢ [] → Mapping q result

-- ---- the chased query

-- Read as a database it is legal for both kinds
abbrev pub JoinChasedLegal : Type 0
JoinChasedLegal =
    (widths : List ℕ) (ds : List Dependency) (js : List JoinDependency) (limit : ℕ) (q result : Query) (base : ℕ) → JoinsFit widths js
    → JoinChases widths ds js limit q (chased result)
    → RowsFit widths q → 0 < base → ConstantsBelow base q → LegalForBoth widths ds js (frozen_rows base result)

-- It is well-formed, with a head of the same length
abbrev pub JoinChasedWellFormed : Type 0
JoinChasedWellFormed =
    (widths : List ℕ) (ds : List Dependency) (js : List JoinDependency) (limit : ℕ) (q result : Query) → JoinsFit widths js
    → JoinChases widths ds js limit q (chased result) → WellFormed widths q
    → WellFormed widths result × (length result.head ≡ length q.head)

-- and has at most as many rows as the limit or the query, whichever are more
abbrev pub JoinChasedLength : Type 0
JoinChasedLength =
    (widths : List ℕ) (ds : List Dependency) (js : List JoinDependency) (limit : ℕ) (q result : Query) (most : ℕ)
    → JoinChases widths ds js limit q (chased result) → limit ≤ most → length q.rows ≤ most → length result.rows ≤ most

-- ---- containment

-- The chased query stands for the query over the databases that are legal for both kinds
abbrev pub JoinChasedStands : Type 0
JoinChasedStands =
    (widths : List ℕ) (ds : List Dependency) (js : List JoinDependency) (limit : ℕ) (q result : Query) (base : ℕ) → JoinsFit widths js
    → JoinChases widths ds js limit q (chased result)
    → RowsFit widths q → 0 < base → ConstantsBelow base q → StandsFor (LegalForBoth widths ds js) base q result

-- So p is contained in q over those databases exactly when it chases to never or q can be mapped to the chased p
abbrev pub JoinContainedExactly : Type 0
JoinContainedExactly =
    (widths : List ℕ) (ds : List Dependency) (js : List JoinDependency) (limit : ℕ) (p q result : Query) → JoinsFit widths js
    → JoinChases widths ds js limit p (chased result) → RowsFit widths p
    → ((result.rows ≡ []) ⊎ Mapping q result) ↔ Contained (LegalForBoth widths ds js) p q

-- Where it does, p is contained in q over all databases that obey both kinds, whether or not their rows fit the schema
abbrev pub JoinContainedObeying : Type 0
JoinContainedObeying =
    (widths : List ℕ) (ds : List Dependency) (js : List JoinDependency) (limit : ℕ) (p q result : Query) → JoinsFit widths js
    → JoinChases widths ds js limit p (chased result) → (result.rows ≡ []) ⊎ Mapping q result → Contained (ObeysBoth widths ds js) p q

-- Otherwise the chased p, read as a database, shows that it is not
abbrev pub JoinChasedCounterexample : Type 0
JoinChasedCounterexample =
    (widths : List ℕ) (ds : List Dependency) (js : List JoinDependency) (limit : ℕ) (p q result : Query) (base : ℕ) → JoinsFit widths js
    → JoinChases widths ds js limit p (chased result)
    → RowsFit widths p → ConstantsBelow base p → ConstantsBelow base q → 0 < base → result.rows ≢ [] → (Mapping q result → ⊥)
    → Counterexample (LegalForBoth widths ds js) p q (frozen_rows base result) (frozen_head base result)

-- `join_contained` is true exactly when the chase does not overflow and p is contained in q
abbrev pub JoinContainedComputes : Type 0
JoinContainedComputes =
    (widths : List ℕ) (ds : List Dependency) (js : List JoinDependency) (limit : ℕ) (p q : Query) → JoinsFit widths js → RowsFit widths p
    → (join_contained widths ds js limit p q ≡ some true)
    ↔ ((join_chase widths ds js limit p ≢ overflow) × Contained (LegalForBoth widths ds js) p q)

-- and false exactly when the chase does not overflow and some database shows that p is not
abbrev pub JoinNotContainedComputes : Type 0
JoinNotContainedComputes =
    (widths : List ℕ) (ds : List Dependency) (js : List JoinDependency) (limit : ℕ) (p q : Query) → JoinsFit widths js → RowsFit widths p
    → (join_contained widths ds js limit p q ≡ some false)
    ↔ ((join_chase widths ds js limit p ≢ overflow) × (D : Database) × (t : List ℕ) × Counterexample (LegalForBoth widths ds js) p q D t)

-- ---- where constants were renumbered

-- The chase brings no old code
abbrev pub JoinChaseCurrent : Type 0
JoinChaseCurrent =
    (ps : List CodePair) (widths : List ℕ) (ds : List Dependency) (js : List JoinDependency) (limit : ℕ) (q result : Query) → JoinsFit widths js
    → JoinChases widths ds js limit q (chased result) → RowsFit widths q → QueryWithoutOld ps q → QueryWithoutOld ps result

-- The databases that statements speak of are those that are legal for both kinds and are read as themselves
abbrev pub LegalForBothAsReadExactly : Type 0
LegalForBothAsReadExactly =
    (ps : List CodePair) (widths : List ℕ) (ds : List Dependency) (js : List JoinDependency) (D : Database) → CurrentStay ps
    → LegalForBothAsRead ps widths ds js D ↔ (LegalForBoth widths ds js D × (read_database ps D ≡ D))

-- Over these databases the chased query stands for a query without old codes, with a base above these too
abbrev pub JoinChasedStandsAsRead : Type 0
JoinChasedStandsAsRead =
    (ps : List CodePair) (widths : List ℕ) (ds : List Dependency) (js : List JoinDependency) (limit : ℕ) (q result : Query) (base : ℕ) → JoinsFit widths js
    → JoinChases widths ds js limit q (chased result)
    → RowsFit widths q → QueryWithoutOld ps q → 0 < base → ConstantsBelow base q → OldCodesBelow base ps
    → StandsFor (LegalForBothAsRead ps widths ds js) base q result

-- So p, if it has no old code, is contained in q over these databases exactly when it chases to never or q can be mapped to the chased p. Of the constants of q
-- nothing is asked
abbrev pub JoinContainedExactlyAsRead : Type 0
JoinContainedExactlyAsRead =
    (ps : List CodePair) (widths : List ℕ) (ds : List Dependency) (js : List JoinDependency) (limit : ℕ) (p q result : Query) → JoinsFit widths js
    → JoinChases widths ds js limit p (chased result) → RowsFit widths p → QueryWithoutOld ps p
    → ((result.rows ≡ []) ⊎ Mapping q result) ↔ Contained (LegalForBothAsRead ps widths ds js) p q

-- Otherwise the chased p, read as a database, shows that it is not, and has no old code
abbrev pub JoinChasedCounterexampleAsRead : Type 0
JoinChasedCounterexampleAsRead =
    (ps : List CodePair) (widths : List ℕ) (ds : List Dependency) (js : List JoinDependency) (limit : ℕ) (p q result : Query) (base : ℕ) → JoinsFit widths js
    → JoinChases widths ds js limit p (chased result)
    → RowsFit widths p → QueryWithoutOld ps p → ConstantsBelow base p → ConstantsBelow base q → OldCodesBelow base ps → 0 < base
    → result.rows ≢ [] → (Mapping q result → ⊥)
    → Counterexample (LegalForBothAsRead ps widths ds js) p q (frozen_rows base result) (frozen_head base result)

-- ---- the order of search

-- x stands in a list, and no list that begins with an element before it, and goes on as one of the rests, passes a test
pub record FirstElement {A : Type 0} (test : List A → Bool) (xs : List A) (rests : List (List A)) (x : A) : Type 0 where
  pub earlier : List A
  pub later : List A
  pub places : xs ≡ earlier ++ x ∷ later
  pub none-earlier : (y : A) → y ∈ earlier → (rest : List A) → rest ∈ rests → test (y ∷ rest) ≡ false

-- l takes one element of each list and passes a test, and none before it does: none that begins with an earlier element of the first list, and,
-- among those that begin as l does, none before it in the other lists
abbrev pub FirstPick : {A : Type 0} → (List A → Bool) → List (List A) → List A → Type 0
FirstPick test [] l = (l ≡ []) × (test [] ≡ true)
FirstPick {A} test (xs ∷ xss) l =
    (x : A) × (rest : List A) × (l ≡ x ∷ rest) × FirstElement test xs (picks xss) x × FirstPick (λ m. test (x ∷ m)) xss rest

-- What is found in `picks` is the first
abbrev pub FirstPickIsFirst : Type 1
FirstPickIsFirst = (A : Type 0) (test : List A → Bool) (xss : List (List A)) (l : List A) → first_passing test (picks xss) ≡ some l → FirstPick test xss l

-- To look through the images of some elements finds the image of what is found through them: so with rows that carry their positions
abbrev pub FirstPickAlong : Type 1
FirstPickAlong =
    (A B : Type 0) (f : A → B) (test : List B → Bool) (xss : List (List A))
    → first_passing test (picks (map (map f) xss)) ≡ Option.map (map f) (first_passing (λ l. test (map f l)) (picks xss))

-- The row to be added is what the first missing choice yields, of the first join dependency that has one
pub record FirstAdded (widths : List ℕ) (js : List JoinDependency) (rows : List (Row Entry)) (r : Row Entry) : Type 0 where
  pub dependency : JoinDependency
  pub choice : Choice
  pub held : FirstFound (first_missing widths rows) js dependency choice
  pub first : FirstPick (missing widths dependency rows) (candidates dependency.sets rows) choice
  pub row : r ≡ yields widths dependency choice

-- A row that is added is so
abbrev pub NextRowIsFirst : Type 0
NextRowIsFirst =
    (widths : List ℕ) (js : List JoinDependency) (rows : List (Row Entry)) (r : Row Entry) → next_row widths js rows ≡ some r
    → FirstAdded widths js rows r

-- What a choice of rows for a join dependency is: a row for each set, in the order of the sets
pub record ChoiceOf (sets : List (List ℕ)) (rows : List (Row Entry)) (choice : Choice) : Type 0 where
  pub for-sets : map (λ p. p.0) choice ≡ sets
  pub of-rows : (p : List ℕ × Row Entry) → p ∈ choice → p.1 ∈ rows

-- All are tried
abbrev pub ChoicesExactly : Type 0
ChoicesExactly = (sets : List (List ℕ)) (rows : List (Row Entry)) (choice : Choice) → (choice ∈ choices sets rows) ↔ ChoiceOf sets rows choice

-- The chosen rows go together exactly where they are of the relation and each agrees on its set with the row they yield
abbrev pub ConsistentExactly : Type 0
ConsistentExactly =
    (widths : List ℕ) (j : JoinDependency) (choice : Choice)
    → (consistent widths j choice ≡ true)
    ↔ ((p : List ℕ × Row Entry) → p ∈ choice → (p.1.relation ≡ j.relation) × Agree (constant 0) p.0 p.1 (yields widths j choice))

-- A choice is missing exactly where its rows go together and the row they yield is not there
abbrev pub MissingExactly : Type 0
MissingExactly =
    (widths : List ℕ) (j : JoinDependency) (rows : List (Row Entry)) (choice : Choice)
    → (missing widths j rows choice ≡ true) ↔ ((consistent widths j choice ≡ true) × (yields widths j choice ∈ rows → ⊥))

-- That they agree with the row they yield is the same as that any two agree where their sets overlap, the sets having no column beyond the relation's width
abbrev pub ConsistentPairwise : Type 0
ConsistentPairwise =
    (widths : List ℕ) (j : JoinDependency) (choice : Choice)
    → ((p : List ℕ × Row Entry) → p ∈ choice → (c : ℕ) → c ∈ p.0 → c < get_or widths j.relation 0)
    → (consistent widths j choice ≡ true)
    ↔ (((p : List ℕ × Row Entry) → p ∈ choice → p.1.relation ≡ j.relation)
    × ((p s : List ℕ × Row Entry) → p ∈ choice → s ∈ choice → (c : ℕ) → c ∈ p.0 → c ∈ s.0
    → column (constant 0) p.1 c ≡ column (constant 0) s.1 c))

-- Whether two rows are of one relation and have the same entries in a set of columns
abbrev pub same_on : List ℕ → Row Entry → Row Entry → Bool
same_on set r s = eqb r.relation s.relation && agree set r s

-- For each set only the earliest of the rows that are the same on it
abbrev pub earliest : List (List ℕ) → List (Row Entry) → List Choice
earliest sets rows = map (λ set. map (λ r. (set, r)) (keep_first (same_on set) [] rows)) sets

-- To try only these finds the same
abbrev pub EarliestEnough : Type 0
EarliestEnough =
    (widths : List ℕ) (rows : List (Row Entry)) (j : JoinDependency)
    → first_missing widths rows j ≡ first_passing (missing widths j rows) (picks (earliest j.sets rows))

-- A search that takes an element of each list in turn, and goes no further with a beginning that is cut off
unfoldable pub search_from : {A : Type 0} → (List A → Bool) → (List A → Bool) → List A → List (List A) → Option (List A)
search_from cut test front [] = cond (test front) (some front) none
search_from cut test front (xs ∷ xss) =
    Option.map (λ found. found.1)
    (first_found (λ x. cond (cut (front ++ x ∷ [])) none (search_from cut test (front ++ x ∷ []) xss)) xs)

-- To cut off beginnings whose rows do not go together finds the same, whichever rows are tried for each set
abbrev pub CutEnough : Type 0
CutEnough =
    (widths : List ℕ) (j : JoinDependency) (rows : List (Row Entry)) (tried : List Choice)
    → first_passing (missing widths j rows) (picks tried) ≡ search_from (λ front. not (consistent widths j front)) (missing widths j rows) [] tried

-- ---- repeated rows

-- Rows without repeats, taken from the front: a row that is there already is left out, and any other is kept after those before it
abbrev pub RepeatsGo : Type 0
RepeatsGo =
    (rows : List (Row Entry)) (r : Row Entry)
    → ((r ∈ rows) → keep_first same_row [] (rows ++ r ∷ []) ≡ keep_first same_row [] rows)
    × ((r ∈ rows → ⊥) → keep_first same_row [] (rows ++ r ∷ []) ≡ keep_first same_row [] rows ++ r ∷ [])

-- ---- databases

-- With no join dependency to obey both kinds is to obey the functional dependencies
abbrev pub ObeysWithoutJoins : Type 0
ObeysWithoutJoins = (widths : List ℕ) (ds : List Dependency) (D : Database) → ObeysBoth widths ds [] D ↔ Obeys ds D

-- `join_fits` tests whether a join dependency fits
abbrev pub JoinFitsExactly : Type 0
JoinFitsExactly = (widths : List ℕ) (j : JoinDependency) → (join_fits widths j ≡ true) ↔ JoinFits widths j

-- A join dependency with no missing choice is obeyed, and where there is a missing choice it is not. The numbers are read as constants
abbrev pub ObeysJoinExactly : Type 0
ObeysJoinExactly =
    (widths : List ℕ) (j : JoinDependency) (D : Database) → JoinFits widths j → Sound widths D
    → (first_missing widths (map (map_row constant) D) j ≡ none) ↔ ObeysJoin widths j D
