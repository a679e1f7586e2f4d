-- A search for a mapping that computes: depth first over the rows of the one query and, for each, over the rows of the other.
-- It finds a mapping exactly where there is one (`ContainmentTheorems`). The engine's own search is another, with the same meaning.
use Rattle.std.specs.Prelude.{Bool, true, false, cond, List, [], ◌∷◌, ℕ, eqb}
use Rattle.std.proofs.Math.Option.{Option, none, some, bind, or_else}
use Rattle.theory.specs.Query.{Entry, constant, variable, Row, Query, same_entry}
use Rattle.theory.specs.Database.{Dependency}
use Rattle.theory.specs.Chase.{chase}

-- A partial mapping: some variables, each with the entry it goes to
abbrev pub PartialMapping : Type 0
PartialMapping = List (ℕ × Entry)

-- The entry that a variable goes to, if one is chosen
unfoldable pub lookup : ℕ → PartialMapping → Option Entry
lookup v [] = none
lookup v (b ∷ bs) = cond (eqb v b.0) (some b.1) (lookup v bs)

-- A partial mapping under which variable v goes to e, where `chosen` is what v goes to so far
unfoldable pub assign_to : ℕ → Entry → PartialMapping → Option Entry → Option PartialMapping
assign_to v e bs none = some ((v, e) ∷ bs)
assign_to v e bs (some chosen) = cond (same_entry chosen e) (some bs) none

-- A partial mapping extended so that an entry goes to another: a constant goes to itself only
unfoldable pub send_entry : Entry → Entry → PartialMapping → Option PartialMapping
send_entry (constant n) e bs = cond (same_entry (constant n) e) (some bs) none
send_entry (variable v) e bs = assign_to v e bs (lookup v bs)

-- The same for lists of entries, position by position
unfoldable pub send_entries : List Entry → List Entry → PartialMapping → Option PartialMapping
send_entries [] [] bs = some bs
send_entries [] (e ∷ es) bs = none
send_entries (d ∷ ds) [] bs = none
send_entries (d ∷ ds) (e ∷ es) bs = bind (send_entry d e bs) (send_entries ds es)

-- The same for rows of one relation
unfoldable pub send_row : Row Entry → Row Entry → PartialMapping → Option PartialMapping
send_row r s bs = cond (eqb r.relation s.relation) (send_entries r.values s.values bs) none

-- The first of the candidates that row r can go to so that `next`, which places the other rows, succeeds
unfoldable pub try_rows : (PartialMapping → Option PartialMapping) → Row Entry → List (Row Entry) → PartialMapping → Option PartialMapping
try_rows next r [] bs = none
try_rows next r (s ∷ ss) bs = let later = try_rows next r ss bs in or_else (bind (send_row r s bs) next) later

-- A partial mapping under which each row goes to one of the candidates
unfoldable pub place_rows : List (Row Entry) → List (Row Entry) → PartialMapping → Option PartialMapping
place_rows [] candidates bs = some bs
place_rows (r ∷ rs) candidates bs = try_rows (place_rows rs candidates) r candidates bs

-- A partial mapping that carries a query with some rows into T: the head first, then row by row. Never is mapped nowhere
unfoldable pub place_query : List Entry → List (Row Entry) → Query → Option PartialMapping
place_query head [] T = none
place_query head (r ∷ rs) T = bind (send_entries head T.head []) (place_rows (r ∷ rs) T.rows)

-- Whether there is something
abbrev pub is_some : {A : Type 0} → Option A → Bool
is_some none = false
is_some (some x) = true

-- Whether there is a mapping from S to T
unfoldable pub mappable : Query → Query → Bool
mappable S T = is_some (place_query S.head S.rows T)

-- Whether p, once chased to `chased`, is contained in q: it is never, or q can be mapped to it
unfoldable pub contained_on : List (Row Entry) → Query → Query → Bool
contained_on [] chased q = true
contained_on (r ∷ rs) chased q = mappable q chased

-- Whether p is contained in q under the dependencies
unfoldable pub contained : List Dependency → Query → Query → Bool
contained ds p q = contained_on (chase ds p).query.rows (chase ds p).query q
