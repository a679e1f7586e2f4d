-- The chase with functional dependencies, as SPECIFICATION, The chase, gives it: order of search, survivor rule, restart, clash and count.
-- `Chases` is the definition; `chase` computes it: that the two are one, and what else is proved of them, is in `ChaseTheorems`.
use Rattle.std.specs.Prelude.{◌≡◌, Bool, true, false, cond, not, ◌&&◌, List, [], ◌∷◌, ℕ, zero, suc, eqb, ltb, length}
use Rattle.std.proofs.Math.Option.{Option, none, some, or_else, map}
use Rattle.theory.specs.Query.{Entry, constant, variable, Row, Query, never, column, map_query, same_entry, variables_of, member, variable_count}
use Rattle.theory.specs.Database.{Dependency}

-- ---- the order of search

-- The first element that passes a test
unfoldable pub first_passing : {A : Type 0} → (A → Bool) → List A → Option A
first_passing test [] = none
first_passing test (x ∷ xs) = cond (test x) (some x) (first_passing test xs)

-- The first pair (x, y) that passes a test, x standing before y: by the position of x, then by that of y
unfoldable pub first_pair : {A : Type 0} → (A → A → Bool) → List A → Option (A × A)
first_pair test [] = none
first_pair test (x ∷ xs) = or_else (map (λ y. (x, y)) (first_passing (test x) xs)) (first_pair test xs)

-- The first d for which something is found, with what is found for it
unfoldable pub first_found : {D A : Type 0} → (D → Option A) → List D → Option (D × A)
first_found find [] = none
first_found find (d ∷ ds) = or_else (map (λ x. (d, x)) (find d)) (first_found find ds)

-- Whether two rows have the same entry in each of the given columns
unfoldable pub agree : List ℕ → Row Entry → Row Entry → Bool
agree [] r s = true
agree (c ∷ cs) r s = same_entry (column (constant 0) r c) (column (constant 0) s c) && agree cs r s

-- Whether two rows break a dependency: both are of its relation, agree on every left column and differ on the right
unfoldable pub breaks : Dependency → Row Entry → Row Entry → Bool
breaks d r s =
    eqb r.relation d.relation && eqb s.relation d.relation && agree d.left r s
    && not (same_entry (column (constant 0) r d.right) (column (constant 0) s d.right))

-- The first broken dependency in held order, with its first pair of rows
unfoldable pub first_broken : List Dependency → List (Row Entry) → Option (Dependency × (Row Entry × Row Entry))
first_broken ds rows = first_found (λ d. first_pair (breaks d) rows) ds

-- ---- one step

-- What two different entries that must be equal lead to: a clash, or one variable replaced by an entry
pub data Resolution : Type 0 where
  clash : Resolution
  replace : ℕ → Entry → Resolution

-- Whether variable v survives variable w: one in the head survives one that is not, otherwise the lower number survives
unfoldable pub survives : (ℕ → Bool) → ℕ → ℕ → Bool
survives in_head v w = cond (in_head v) (cond (in_head w) (ltb v w) true) (cond (in_head w) false (ltb v w))

-- Two different constants clash; a constant survives a variable; of two variables one `survives`
unfoldable pub resolve : (ℕ → Bool) → Entry → Entry → Resolution
resolve in_head (constant m) (constant n) = clash
resolve in_head (constant m) (variable w) = replace w (constant m)
resolve in_head (variable v) (constant n) = replace v (constant n)
resolve in_head (variable v) (variable w) = cond (survives in_head v w) (replace w (variable v)) (replace v (variable w))

-- Whether a variable stands in the head of a query
abbrev pub in_head : Query → ℕ → Bool
in_head q v = member v (variables_of q.head)

-- Entry e in place of variable v
unfoldable pub substitute : ℕ → Entry → Entry → Entry
substitute v e (constant n) = constant n
substitute v e (variable w) = cond (eqb w v) e (variable w)

-- What the broken pair of rows leads to
abbrev pub resolve_pair : Query → (Dependency × (Row Entry × Row Entry)) → Resolution
resolve_pair q found =
    resolve (in_head q) (column (constant 0) found.1.0 found.0.right) (column (constant 0) found.1.1 found.0.right)

-- The step that the chase makes on a query, or none where it rests
unfoldable pub step : List Dependency → Query → Option Resolution
step ds q = map (resolve_pair q) (first_broken ds q.rows)

-- ---- the whole chase

-- `Chases ds q result count`: the chase of q with ds ends in `result` after `count` replacements. A clash ends it in never
pub data Chases (ds : List Dependency) : Query → Query → ℕ → Type 0 where
  rests : {q : Query} → step ds q ≡ none → Chases ds q q zero
  clashes : {q : Query} → step ds q ≡ some clash → Chases ds q (never (length q.head)) zero
  replaces : {q result : Query} {v count : ℕ} {e : Entry}
      → step ds q ≡ some (replace v e) → Chases ds (map_query (substitute v e) q) result count → Chases ds q result (suc count)

-- A chased query with its count of replacements
pub record Chased : Type 0 where
  pub query : Query
  pub count : ℕ

-- One replacement more
abbrev pub one_more : Chased → Chased
one_more c = record { query = c.query; count = suc c.count }

-- The chase of q from its step on; `again` chases the query after a replacement
unfoldable pub chase_on : (Query → Chased) → Query → Option Resolution → Chased
chase_on again q none = record { query = q; count = zero }
chase_on again q (some clash) = record { query = never (length q.head); count = zero }
chase_on again q (some (replace v e)) = one_more (again (map_query (substitute v e) q))

-- The chase, for at most so many steps
unfoldable pub chase_for : ℕ → List Dependency → Query → Chased
chase_for zero ds q = record { query = q; count = zero }
chase_for (suc n) ds q = chase_on (chase_for n ds) q (step ds q)

-- The chase. Each replacement loses a variable, so one step more than there are variables is enough: the last may be a clash
unfoldable pub chase : List Dependency → Query → Chased
chase ds q = chase_for (suc (variable_count q)) ds q
