-- The search for a mapping is exact: it succeeds where, and only where, there is one (Chandra and Merlin 1977: guess a mapping, check it).
-- Plan. 1. An assignment fits a partial one if it sends each chosen variable where the partial one does. 2. A match extends the partial assignment by
-- just what it asks: what fits after it is what fitted before and meets the match; where it fails, nothing that fits meets it. 3. Over the rows:
-- a result is sound, and a failure excludes each placing.
-- 4. So `mappable` decides mappings, and `contained` decides containment.
-- Assumes nothing.
use mathlib.Core.Path.{◌≡◌, refl, sym, ◌∙◌, ap}
use mathlib.Core.Logic.{◌↔◌, ◌⊎◌, inl, inr}
use mathlib.Core.Bool.{Bool, true, false, cond, true≢false}
use mathlib.Core.List.Memᴰ
use mathlib.Core.List.{List, [], ◌∷◌, map, cons≢nil}
use mathlib.Core.Option.{Option, none, some, none-ne-some, some-ne-none, some-injective, bind, bind-eq-some_iff, or_else, get_or}
use Prim.Native.Nat.{ℕ, ◌+◌, ◌<◌}
use native.Mathlib.Omega.{arith}
use lib.Dec.{eqb}
use borrow.Author.Tests.{eqb-true, eqb-false, eq-eqb}
use Rattle.theory.specs.Query.{Entry, constant, variable, Row, Query, map_row, same_entry, FitsSchema, ◌∈◌}
use Rattle.theory.specs.Answer.{value_of, Carries, Mapping}
use Rattle.theory.specs.Database.{Database, Dependency, Legal}
use Rattle.theory.specs.Chase.{chase}
use Rattle.theory.specs.Containment.{Contained, Counterexample, frozen_rows, frozen_head, ConstantsBelow}
use Rattle.minimization.specs.Search.{PartialMapping, lookup, assign_to, send_entry, send_entries, send_row, try_rows, place_rows, place_query}
use Rattle.minimization.specs.Search.{is_some, mappable, contained_on, contained}
use Rattle.theory.proofs.Entries.{same_entry-eq, same_entry-ne}
use Rattle.theory.proofs.Carry.{mapping-of}
use Rattle.theory.proofs.Containment.{contained-iff, counterexample}
use Rattle.theory.specs.Codes.{CodePair}
use Rattle.theory.specs.CodeTheorems.{OldCodesBelow}
use Rattle.theory.proofs.Codes.{codes-base, codes-below-more}
use Rattle.minimization.proofs.Reduction.{some-base, below_more}

-- Rows are equal when their relations and values are
row_same : (r s : Row Entry) → r.relation ≡ s.relation → r.values ≡ s.values → r ≡ s
row_same r s p q = λ i. record { relation = p i; values = q i }

-- ---- 1. assignments that fit

-- An assignment fits a partial one: it sends each chosen variable where the partial one does
abbrev Fits : (ℕ → Entry) → PartialMapping → Type 0
Fits h bs = (v : ℕ) (e : Entry) → lookup v bs ≡ some e → h v ≡ e

-- The assignment that a partial one gives: constant 0 where nothing is chosen
abbrev assignment : PartialMapping → ℕ → Entry
assignment bs v = get_or (lookup v bs) (constant 0)

-- It fits the partial one
fits-own : (bs : PartialMapping) → Fits (assignment bs) bs
fits-own bs v e chosen = rw chosen refl

-- Every assignment fits the empty one
fits-empty : (h : ℕ → Entry) → Fits h []
unfolding lookup
fits-empty h v e chosen = absurd (none-ne-some e chosen)

-- What fits after one more choice fitted before, and makes that choice; and the other way round
fits-cons : (h : ℕ → Entry) (v : ℕ) (e : Entry) (bs : PartialMapping) → Fits h bs → h v ≡ e → Fits h ((v, e) ∷ bs)
unfolding lookup
fits-cons h v e bs fits makes w d chosen = go (eqb w v) refl chosen
  where
    go : (b : Bool) → eqb w v ≡ b → cond b (some e) (lookup w bs) ≡ some d → h w ≡ d
    go true same chosen = ap h (eqb-true w v same) ∙ makes ∙ some-injective e d chosen
    go false other chosen = fits w d chosen

cons-chosen : (h : ℕ → Entry) (v : ℕ) (e : Entry) (bs : PartialMapping) → Fits h ((v, e) ∷ bs) → h v ≡ e
unfolding lookup
cons-chosen h v e bs fits = fits v e (rw (eq-eqb v v refl) refl)

cons-fits : (h : ℕ → Entry) (v : ℕ) (e : Entry) (bs : PartialMapping) → lookup v bs ≡ none → Fits h ((v, e) ∷ bs) → Fits h bs
unfolding lookup
cons-fits h v e bs free fits w d chosen = fits w d (go (eqb w v) refl)
  where
    go : (b : Bool) → eqb w v ≡ b → cond b (some e) (lookup w bs) ≡ some d
    go true same = absurd (none-ne-some d (sym (rw (eqb-true w v same) free) ∙ chosen))
    go false other = chosen

-- ---- 2. matches

-- A match that asks P of an assignment: after it fits what fitted before and has P; where it fails, nothing that fits has P
abbrev Exact : (ℕ → Entry) → PartialMapping → Type 0 → Option PartialMapping → Type 0
Exact h bs P none = Fits h bs → P → ⊥
Exact h bs P (some after) = Fits h after ↔ (Fits h bs × P)

-- Two matches one after the other ask both
exact-both : (h : ℕ → Entry) (bs : PartialMapping) (P Q : Type 0) (first : Option PartialMapping) (next : PartialMapping → Option PartialMapping)
    → Exact h bs P first → ((after : PartialMapping) → Exact h after Q (next after)) → Exact h bs (P × Q) (bind first next)
unfolding bind
exact-both h bs P Q none next p q = λ fits both. p fits both.0
exact-both h bs P Q (some after) next p q = go (next after) (q after)
  where
    go : (second : Option PartialMapping) → Exact h after Q second → Exact h bs (P × Q) second
    go none q = λ fits both. q (p.1 (fits, both.0)) both.1
    go (some last) q = (
      (λ fits. let mid = q.0 fits in let start = p.0 mid.0 in (start.0, (start.1, mid.1))),
      λ start. q.1 (p.1 (start.0, start.1.0), start.1.1),
    )

-- The same, where it is known what the match gave
exact-some : (h : ℕ → Entry) (bs : PartialMapping) (P : Type 0) (o : Option PartialMapping) → Exact h bs P o → (after : PartialMapping) → o ≡ some after
    → Fits h after ↔ (Fits h bs × P)
exact-some h bs P o exact after e = rw e at exact

-- What a match asks may be put in other words
exact_same : (h : ℕ → Entry) (bs : PartialMapping) (P Q : Type 0) (o : Option PartialMapping) → P ↔ Q → Exact h bs P o → Exact h bs Q o
exact_same h bs P Q none same p = λ fits q. p fits (same.1 q)
exact_same h bs P Q (some after) same p =
    ((λ fits. let start = p.0 fits in (start.0, same.0 start.1)), λ start. p.1 (start.0, same.1 start.1))

send_entry-exact : (h : ℕ → Entry) (d e : Entry) (bs : PartialMapping) → Exact h bs (value_of constant h d ≡ e) (send_entry d e bs)
unfolding send_entry assign_to
send_entry-exact h (constant n) e bs = go (same_entry (constant n) e) refl
  where
    go : (b : Bool) → same_entry (constant n) e ≡ b → Exact h bs (constant n ≡ e) (cond b (some bs) none)
    go true same = ((λ fits. (fits, same_entry-eq (constant n) e same)), λ start. start.0)
    go false other = λ fits same. same_entry-ne (constant n) e other same
send_entry-exact h (variable v) e bs = go (lookup v bs) refl
  where
    go : (o : Option Entry) → lookup v bs ≡ o → Exact h bs (h v ≡ e) (assign_to v e bs o)
    go none free = ((λ fits. (cons-fits h v e bs free fits, cons-chosen h v e bs fits)), λ start. fits-cons h v e bs start.0 start.1)
    go (some d) chosen = decide (same_entry d e) refl
      where
        decide : (b : Bool) → same_entry d e ≡ b → Exact h bs (h v ≡ e) (cond b (some bs) none)
        decide true same = ((λ fits. (fits, fits v d chosen ∙ same_entry-eq d e same)), λ start. start.0)
        decide false other = λ fits makes. same_entry-ne d e other (sym (fits v d chosen) ∙ makes)

-- Lists are equal exactly when their first elements and the rests are
cons_same : {A : Type 0} (x y : A) (xs ys : List A) → ((x ≡ y) × (xs ≡ ys)) ↔ (x ∷ xs ≡ y ∷ ys)
cons_same x y xs ys = ((λ both. cc (both.0, both.1)), λ e. (cc, cc))

send_entries-exact : (h : ℕ → Entry) (ds es : List Entry) (bs : PartialMapping) → Exact h bs (map (value_of constant h) ds ≡ es) (send_entries ds es bs)
unfolding send_entries
send_entries-exact h [] [] bs = ((λ fits. (fits, refl)), λ start. start.0)
send_entries-exact h [] (e ∷ es) bs = λ fits same. cons≢nil (sym same)
send_entries-exact h (d ∷ ds) [] bs = λ fits same. cons≢nil same
send_entries-exact h (d ∷ ds) (e ∷ es) bs =
    exact_same h bs _ _ (bind (send_entry d e bs) (send_entries ds es)) (cons_same (value_of constant h d) e (map (value_of constant h) ds) es)
    (exact-both h bs (value_of constant h d ≡ e) (map (value_of constant h) ds ≡ es) (send_entry d e bs) (send_entries ds es)
    (send_entry-exact h d e bs) (λ after. send_entries-exact h ds es after))

send_row-exact : (h : ℕ → Entry) (r s : Row Entry) (bs : PartialMapping) → Exact h bs (map_row (value_of constant h) r ≡ s) (send_row r s bs)
unfolding send_row
send_row-exact h r s bs = go (eqb r.relation s.relation) refl
  where
    go : (b : Bool) → eqb r.relation s.relation ≡ b
        → Exact h bs (map_row (value_of constant h) r ≡ s) (cond b (send_entries r.values s.values bs) none)
    go true same =
        exact_same h bs _ _ (send_entries r.values s.values bs) (
          (λ (e : map (value_of constant h) r.values ≡ s.values). row_same (map_row (value_of constant h) r) s (eqb-true r.relation s.relation same) e),
          λ (e : map_row (value_of constant h) r ≡ s). ap (λ (q : Row Entry). q.values) e,
        )
        (send_entries-exact h r.values s.values bs)
    go false other = λ fits e. eqb-false r.relation s.relation other (ap (λ (q : Row Entry). q.relation) e)

-- ---- 3. rows

-- Each of the rows goes to one of the candidates
abbrev Placed : (ℕ → Entry) → List (Row Entry) → List (Row Entry) → Type 0
Placed h rs candidates = (r : Row Entry) → r ∈ rs → map_row (value_of constant h) r ∈ candidates

-- What `or_else` gives comes from one of its parts, and it fails only if both do
or_else-found : {A : Type 0} (o later : Option A) (x : A) → or_else o later ≡ some x → (o ≡ some x) ⊎ (later ≡ some x)
unfolding or_else
or_else-found none later x e = inr e
or_else-found (some y) later x e = inl e

or_else-nothing : {A : Type 0} (o later : Option A) → or_else o later ≡ none → (o ≡ none) × (later ≡ none)
unfolding or_else
or_else-nothing none later e = (refl, e)
or_else-nothing (some y) later e = absurd (some-ne-none y e)

-- The rest of a search that follows an exact match: sound, and failing only where nothing fits
module _ (h : ℕ → Entry) (bs : PartialMapping) (P : Type 0) (first : Option PartialMapping) (exact : Exact h bs P first) (Q : Type 0) (next : PartialMapping → Option PartialMapping) where
  then-sound : ((mid after : PartialMapping) → next mid ≡ some after → Fits h after → Fits h mid × Q)
      → (after : PartialMapping) → bind first next ≡ some after → Fits h after → Fits h bs × P × Q
  then-sound sound after e fits =
      let t = (bind-eq-some_iff first next).0 e in
      let mid = sound t.0 after t.2 fits in
      let start = (exact-some h bs P first exact t.0 t.1).0 mid.0 in
      (start.0, start.1, mid.1)

  then-complete : ((mid : PartialMapping) → next mid ≡ none → Fits h mid → Q → ⊥) → bind first next ≡ none → Fits h bs → P → Q → ⊥
  unfolding bind
  then-complete complete e fits p q = go first exact e
    where
      go : (o : Option PartialMapping) → Exact h bs P o → bind o next ≡ none → ⊥
      go none exact e = exact fits p
      go (some mid) exact e = complete mid e (exact.1 (fits, p)) q

-- Where the row goes to a candidate and what comes next is sound, the trial is
try_rows-sound : (h : ℕ → Entry) (Q : Type 0) (next : PartialMapping → Option PartialMapping)
    → ((mid after : PartialMapping) → next mid ≡ some after → Fits h after → Fits h mid × Q)
    → (r : Row Entry) (candidates : List (Row Entry)) (bs after : PartialMapping) → try_rows next r candidates bs ≡ some after → Fits h after
    → Fits h bs × (map_row (value_of constant h) r ∈ candidates) × Q
unfolding try_rows
try_rows-sound h Q next sound r [] bs after e fits = absurd (none-ne-some after e)
try_rows-sound h Q next sound r (s ∷ ss) bs after e fits =
    go (or_else-found (bind (send_row r s bs) next) (try_rows next r ss bs) after e) (λ later. try_rows-sound h Q next sound r ss bs after later fits)
  where
    go : (bind (send_row r s bs) next ≡ some after) ⊎ (try_rows next r ss bs ≡ some after)
        → (try_rows next r ss bs ≡ some after → Fits h bs × (map_row (value_of constant h) r ∈ ss) × Q) → Fits h bs × (map_row (value_of constant h) r ∈ (s ∷ ss))
        × Q
    go (inl here) rest =
        let t = then-sound h bs (map_row (value_of constant h) r ≡ s) (send_row r s bs) (send_row-exact h r s bs) Q next sound after here fits in
        (t.0, Memᴰ.head t.1, t.2)
    go (inr later) rest = let t = rest later in (t.0, Memᴰ.tail t.1, t.2)

-- Where every trial fails, no assignment that fits sends the row to a candidate and meets what comes next
try_rows-complete : (h : ℕ → Entry) (Q : Type 0) (next : PartialMapping → Option PartialMapping) → ((mid : PartialMapping) → next mid ≡ none → Fits h mid → Q → ⊥)
    → (r : Row Entry) (candidates : List (Row Entry)) (bs : PartialMapping) → try_rows next r candidates bs ≡ none → Fits h bs
    → map_row (value_of constant h) r ∈ candidates → Q → ⊥
unfolding try_rows
try_rows-complete h Q next complete r [] bs e fits x4 q = elim x4 [ ]
try_rows-complete h Q next complete r (s ∷ ss) bs e fits (Memᴰ.head same) q =
    then-complete h bs (map_row (value_of constant h) r ≡ s) (send_row r s bs) (send_row-exact h r s bs) Q next complete
    (or_else-nothing (bind (send_row r s bs) next) (try_rows next r ss bs) e).0 fits same q
try_rows-complete h Q next complete r (s ∷ ss) bs e fits (Memᴰ.tail at) q =
    try_rows-complete h Q next complete r ss bs (or_else-nothing (bind (send_row r s bs) next) (try_rows next r ss bs) e).1 fits at q

place_rows-sound : (h : ℕ → Entry) (rs candidates : List (Row Entry)) (bs after : PartialMapping) → place_rows rs candidates bs ≡ some after → Fits h after
    → Fits h bs × Placed h rs candidates
unfolding place_rows
place_rows-sound h [] candidates bs after e fits = (rw (some-injective bs after e) fits, λ r at. absurd (Memᴰ.not-nil at))
place_rows-sound h (r ∷ rs) candidates bs after e fits =
    let t = try_rows-sound h (Placed h rs candidates) (place_rows rs candidates) (place_rows-sound h rs candidates) r candidates bs after e fits in
    (t.0, placed t.1 t.2)
  where
    placed : map_row (value_of constant h) r ∈ candidates → Placed h rs candidates → Placed h (r ∷ rs) candidates
    placed here rest q (Memᴰ.head same) = Memᴰ.cast (ap (map_row (value_of constant h)) same) here
    placed here rest q (Memᴰ.tail at) = rest q at

place_rows-complete : (h : ℕ → Entry) (rs candidates : List (Row Entry)) (bs : PartialMapping) → place_rows rs candidates bs ≡ none → Fits h bs → Placed h rs candidates
    → ⊥
unfolding place_rows
place_rows-complete h [] candidates bs e fits placed = some-ne-none bs e
place_rows-complete h (r ∷ rs) candidates bs e fits placed =
    try_rows-complete h (Placed h rs candidates) (place_rows rs candidates) (place_rows-complete h rs candidates) r candidates bs e fits
    (placed r (Memᴰ.head refl)) (λ q at. placed q (Memᴰ.tail at))

-- ---- 4. mappings and containment

module _ (head : List Entry) (r : Row Entry) (rs : List (Row Entry)) (T : Query) where
  -- What is found carries the query into T
  place_query-sound : (after : PartialMapping) → place_query head (r ∷ rs) T ≡ some after
      → Carries constant (assignment after) (record { head = head; rows = r ∷ rs }) T.rows T.head
  unfolding place_query
  place_query-sound after e =
      let t =
      then-sound (assignment after) [] (map (value_of constant (assignment after)) head ≡ T.head) (send_entries head T.head [])
      (send_entries-exact (assignment after) head T.head []) (Placed (assignment after) (r ∷ rs) T.rows) (place_rows (r ∷ rs) T.rows)
      (place_rows-sound (assignment after) (r ∷ rs) T.rows) after e (fits-own after) in
      record { not-never = cons≢nil; to-head = t.1; to-rows = t.2 }

  -- Where nothing is found, nothing carries it there
  place_query-complete : place_query head (r ∷ rs) T ≡ none → (h : ℕ → Entry) → Carries constant h (record { head = head; rows = r ∷ rs }) T.rows T.head → ⊥
  unfolding place_query
  place_query-complete e h c =
      then-complete h [] (map (value_of constant h) head ≡ T.head) (send_entries head T.head []) (send_entries-exact h head T.head [])
      (Placed h (r ∷ rs) T.rows) (place_rows (r ∷ rs) T.rows) (place_rows-complete h (r ∷ rs) T.rows) e (fits-empty h) c.to-head c.to-rows

  -- What is found is a mapping, and where there is a mapping something is found
  placed-mapping : is_some (place_query head (r ∷ rs) T) ≡ true → Mapping (record { head = head; rows = r ∷ rs }) T
  placed-mapping e = go (place_query head (r ∷ rs) T) refl e
    where
      go : (o : Option PartialMapping) → place_query head (r ∷ rs) T ≡ o → is_some o ≡ true → Mapping (record { head = head; rows = r ∷ rs }) T
      go none is e = absurd (true≢false (sym e))
      go (some after) is e = mapping-of (record { head = head; rows = r ∷ rs }) T (assignment after) (place_query-sound after is)

  mapping-placed : Mapping (record { head = head; rows = r ∷ rs }) T → is_some (place_query head (r ∷ rs) T) ≡ true
  mapping-placed m = go (place_query head (r ∷ rs) T) refl
    where
      go : (o : Option PartialMapping) → place_query head (r ∷ rs) T ≡ o → is_some o ≡ true
      go none is = absurd (place_query-complete is m.0 m.1.carries)
      go (some after) is = refl

-- `mappable` passes exactly where there is a mapping
placed-exact : (head : List Entry) (rows : List (Row Entry)) (T : Query)
    → (is_some (place_query head rows T) ≡ true) ↔ Mapping (record { head = head; rows = rows }) T
unfolding place_query
placed-exact head [] T = ((λ e. absurd (true≢false (sym e))), λ m. absurd (m.1.carries.not-never refl))
placed-exact head (r ∷ rs) T = (placed-mapping head r rs T, mapping-placed head r rs T)

pub mappable-exact : (S T : Query) → (mappable S T ≡ true) ↔ Mapping S T
unfolding mappable
mappable-exact S T = placed-exact S.head S.rows T

-- Where it fails there is none
pub mappable-false : (S T : Query) → mappable S T ≡ false → Mapping S T → ⊥
mappable-false S T e m = true≢false (sym ((mappable-exact S T).1 m) ∙ e)

-- `contained_on` passes exactly where there are no rows or q maps to the chased query
pub contained_on-mapping : (chased q : Query) (rows : List (Row Entry)) → (contained_on rows chased q ≡ true) ↔ ((rows ≡ []) ⊎ Mapping q chased)
unfolding contained_on
contained_on-mapping chased q [] = ((λ e. inl refl), λ either. refl)
contained_on-mapping chased q (r ∷ rs) = ((λ e. inr ((mappable-exact q chased).0 e)), either)
  where
    either : ((r ∷ rs ≡ []) ⊎ Mapping q chased) → mappable q chased ≡ true
    either (inl e) = absurd (cons≢nil e)
    either (inr m) = (mappable-exact q chased).1 m

-- so `contained` passes exactly where p chases to never or q maps to the chased p
pub contained-mapping : (ds : List Dependency) (p q : Query) → (contained ds p q ≡ true) ↔ (((chase ds p).query.rows ≡ []) ⊎ Mapping q (chase ds p).query)
unfolding contained
contained-mapping ds p q = contained_on-mapping (chase ds p).query q (chase ds p).query.rows

-- Some base is above 0 and above the constants of both queries
pub both_below : (p q : Query) → (base : ℕ) × 0 < base × ConstantsBelow base p × ConstantsBelow base q
both_below p q =
    let P = some-base p in
    let Q = some-base q in
    (P.0 + Q.0, omega (arith, P.1), below_more P.0 (P.0 + Q.0) p (omega arith) P.2, below_more Q.0 (P.0 + Q.0) q (omega arith) Q.2)

-- and above old codes too
pub both_below_codes : (ps : List CodePair) (p q : Query) → (base : ℕ) × 0 < base × ConstantsBelow base p × ConstantsBelow base q × OldCodesBelow base ps
both_below_codes ps p q =
    let first = both_below p q in
    let second = codes-base ps in
    let base = first.0 + second.0 in (
      base,
      omega (arith, first.1),
      below_more first.0 base p (omega arith) first.2,
      below_more first.0 base q (omega arith) first.3,
      codes-below-more ps second.0 base (omega arith) second.1,
    )

module _ (widths : List ℕ) (ds : List Dependency) (p q : Query) (fit : (r : Row Entry) → r ∈ p.rows → FitsSchema widths r) where
  -- `contained` passes exactly where p is contained in q
  pub contained-exact : (contained ds p q ≡ true) ↔ Contained (Legal widths ds) p q
  contained-exact =
      let common = both_below p q in
      let theorem = contained-iff widths ds p q common.0 fit common.2 common.3 common.1 in
      ((λ e. theorem.1 ((contained-mapping ds p q).0 e)), λ c. (contained-mapping ds p q).1 (theorem.0 c))

  -- Where it fails, a database shows that p is not
  pub contained-false : contained ds p q ≡ false → (D : Database) × (t : List ℕ) × Counterexample (Legal widths ds) p q D t
  contained-false e =
      let common = both_below p q in
      let neither : (((chase ds p).query.rows ≡ []) ⊎ Mapping q (chase ds p).query) → ⊥ = λ either. true≢false (sym ((contained-mapping ds p q).1 either) ∙ e)
      in (
        frozen_rows common.0 (chase ds p).query,
        frozen_head common.0 (chase ds p).query,
        counterexample widths ds p q common.0 fit common.2 common.3 common.1 (λ none. neither (inl none)) (λ f. neither (inr f)),
      )
