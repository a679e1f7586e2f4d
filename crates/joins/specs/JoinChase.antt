-- The chase with functional and join dependencies. A round is the whole functional chase; then repeated rows go; then the first row that a join dependency
-- asks for and that is not there is added, and the next round begins. `JoinChases` is the definition; `join_chase` computes it (`JoinTheorems`).
use Rattle.std.specs.Prelude.{◌≡◌, Bool, true, cond, not, ◌&&◌, List, [], ◌∷◌, ◌++◌, map, ℕ, zero, suc, ◌*◌, ◌≤◌, ◌<◌, eqb, ltb, length, get_or}
use Rattle.std.proofs.Math.Option
use Rattle.std.proofs.Math.Option.{Option, none, some}
use Rattle.lists.specs.Tests.{every}
use Rattle.lists.specs.Numbers.{numbers_where}
use Rattle.theory.specs.Query.{Entry, constant, Row, Query, column, member, variable_count}
use Rattle.theory.specs.Database.{Dependency, JoinDependency}
use Rattle.theory.specs.Chase.{first_passing, first_found, agree, Chases, chase}
use Rattle.minimization.specs.Checking.{same_row, stands_in}
use Rattle.minimization.specs.Search.{is_some, contained_on}

-- ---- choices of rows

-- Each of some elements in front of each of some lists: all lists with the first element come first
unfoldable pub before : {A : Type 0} → List A → List (List A) → List (List A)
before [] rests = []
before (x ∷ xs) rests = map (λ rest. x ∷ rest) rests ++ before xs rests

-- One element of each list, in all ways: by the position of the first list's element, then by that of the next's
unfoldable pub picks : {A : Type 0} → List (List A) → List (List A)
picks [] = [] ∷ []
picks (xs ∷ xss) = before xs (picks xss)

-- A choice of rows: one for each set of columns
abbrev pub Choice : Type 0
Choice = List (List ℕ × Row Entry)

-- For each set all rows
abbrev pub candidates : List (List ℕ) → List (Row Entry) → List Choice
candidates sets rows = map (λ set. map (λ r. (set, r)) rows) sets

-- The choices among some rows, in order
abbrev pub choices : List (List ℕ) → List (Row Entry) → List Choice
choices sets rows = picks (candidates sets rows)

-- ---- the row that a choice yields

-- What a choice has in column c: the entry of the row that is chosen for the first set with the column; constant 0 where no set has it, which the record's
-- rule does not let happen
unfoldable pub chosen_entry : Choice → ℕ → Entry
chosen_entry [] c = constant 0
chosen_entry (p ∷ ps) c = cond (member c p.0) (column (constant 0) p.1 c) (chosen_entry ps c)

-- The row that a choice yields: what it has in each column of the relation
unfoldable pub yields : List ℕ → JoinDependency → Choice → Row Entry
yields widths j choice =
    record { relation = j.relation; values = map (chosen_entry choice) (numbers_where (λ c. true) 0 (get_or widths j.relation 0)) }

-- Whether the chosen rows are of the relation and each agrees on its set with a row
unfoldable pub fits_choice : JoinDependency → Choice → Row Entry → Bool
fits_choice j choice r = every (λ p. eqb p.1.relation j.relation && agree p.0 p.1 r) choice

-- Whether the chosen rows go together, so that each agrees on its set with the row they yield
unfoldable pub consistent : List ℕ → JoinDependency → Choice → Bool
consistent widths j choice = fits_choice j choice (yields widths j choice)

-- Whether the chosen rows go together and yield a row that is not there
unfoldable pub missing : List ℕ → JoinDependency → List (Row Entry) → Choice → Bool
missing widths j rows choice = consistent widths j choice && not (stands_in (yields widths j choice) rows)

-- The first choice of rows for a join dependency that yields a row that is not there
unfoldable pub first_missing : List ℕ → List (Row Entry) → JoinDependency → Option Choice
first_missing widths rows j = first_passing (missing widths j rows) (choices j.sets rows)

-- The first join dependency in held order with such a choice, and its first
unfoldable pub first_unmet : List ℕ → List JoinDependency → List (Row Entry) → Option (JoinDependency × Choice)
first_unmet widths js rows = first_found (first_missing widths rows) js

-- The row that is to be added
unfoldable pub next_row : List ℕ → List JoinDependency → List (Row Entry) → Option (Row Entry)
next_row widths js rows = Option.map (λ found. yields widths found.0 found.1) (first_unmet widths js rows)

-- ---- repeated rows

-- The kept elements and those of the rest, in order, each unless one that is the same is kept already: the earliest stays
unfoldable pub keep_first : {A : Type 0} → (A → A → Bool) → List A → List A → List A
keep_first same kept [] = kept
keep_first same kept (x ∷ xs) = keep_first same (cond (is_some (first_passing (same x) kept)) kept (kept ++ x ∷ [])) xs

-- A query without repeated rows, if some join dependency is held, of whichever relation. With none held repeated rows stay
unfoldable pub without_repeats : List JoinDependency → Query → Query
without_repeats [] q = q
without_repeats (j ∷ js) q = record { head = q.head; rows = keep_first same_row [] q.rows }

-- ---- the whole chase

-- A query with one row more, at the end
abbrev pub add_row : Query → Row Entry → Query
add_row q r = record { head = q.head; rows = q.rows ++ r ∷ [] }

-- How the chase ends: in a query, which is never after a clash, or before the row that would be one too many
pub data Outcome : Type 0 where
  chased : Query → Outcome
  overflow : Outcome

-- `JoinChases widths ds js limit q outcome`: the chase of q with the functional dependencies ds and the join dependencies js, with no row added
-- where there are `limit` rows already, ends in `outcome`
pub data JoinChases (widths : List ℕ) (ds : List Dependency) (js : List JoinDependency) (limit : ℕ) : Query → Outcome → Type 0 where
  complete : {q mid : Query} {n : ℕ} → Chases ds q mid n → next_row widths js (without_repeats js mid).rows ≡ none
      → JoinChases widths ds js limit q (chased (without_repeats js mid))
  adds : {q mid : Query} {n : ℕ} {r : Row Entry} {outcome : Outcome} → Chases ds q mid n → next_row widths js (without_repeats js mid).rows ≡ some r
      → length (without_repeats js mid).rows < limit → JoinChases widths ds js limit (add_row (without_repeats js mid) r) outcome
      → JoinChases widths ds js limit q outcome
  exceeds : {q mid : Query} {n : ℕ} {r : Row Entry} → Chases ds q mid n → next_row widths js (without_repeats js mid).rows ≡ some r
      → limit ≤ length (without_repeats js mid).rows → JoinChases widths ds js limit q overflow

-- The chase after the functional part of a round has ended in q, from the row that is to be added on; `again` chases the query with that row
unfoldable pub join_on : (Query → Outcome) → ℕ → Query → Option (Row Entry) → Outcome
join_on again limit q none = chased q
join_on again limit q (some r) = cond (ltb (length q.rows) limit) (again (add_row q r)) overflow

-- The functional part of a round: the chase, and repeated rows gone
unfoldable pub settle : List Dependency → List JoinDependency → Query → Query
settle ds js q = without_repeats js (chase ds q).query

-- The chase, for at most so many rounds
unfoldable pub join_chase_for : ℕ → List ℕ → List Dependency → List JoinDependency → ℕ → Query → Outcome
join_chase_for zero widths ds js limit q = overflow
join_chase_for (suc n) widths ds js limit q = join_on (join_chase_for n widths ds js limit) limit (settle ds js q) (next_row widths js (settle ds js q).rows)

-- The chase. Of any limit + 1 rounds one after another some round loses a variable or is the last, so these are enough
unfoldable pub join_chase : List ℕ → List Dependency → List JoinDependency → ℕ → Query → Outcome
join_chase widths ds js limit q = join_chase_for (suc (variable_count q) * suc limit) widths ds js limit q

-- ---- containment

-- Whether p, whose chase has this outcome, is contained in q; none where the chase overflows
unfoldable pub contained_in : Query → Outcome → Option Bool
contained_in q (chased p) = some (contained_on p.rows p q)
contained_in q overflow = none

-- Whether p is contained in q under both kinds, as far as the limit lets the chase tell
unfoldable pub join_contained : List ℕ → List Dependency → List JoinDependency → ℕ → Query → Query → Option Bool
join_contained widths ds js limit p q = contained_in q (join_chase widths ds js limit p)
