-- The chase with both kinds of dependencies (Maier, Mendelzon and Sagiv, "Testing implications of data dependencies", 1979; Abiteboul, Hull and Vianu,
-- "Foundations of Databases", 8.4). The plan, by the numbers of the sections:
--   1. The row that is added has entries of the rows, or constant 0 where these do not fit the schema, and there are rows.
--   2. A round that adds a row loses a variable, or has one row more without repeats: so the chase ends. It does in one way.
--   3. What holds of every chase, by its rounds; and by it, what the chase keeps: answers, the rows' fit, what holds of each entry, so
--      constants below a base, the head's length, well-formed queries, the number of rows.
--   4. Where it ends no step of either kind is left, so that its result, read as a database, obeys both.
-- Assumes nothing.
use mathlib.Core.Path.{◌≡◌, refl, sym, ◌∙◌, ap, subst}
use mathlib.Core.Logic.Iff
use mathlib.Core.Logic.{◌≢◌, ◌↔◌, ◌⊎◌, inl, inr, ⊎_elim}
use mathlib.Core.List.Memᴰ
use mathlib.Core.List.{List, [], ◌∷◌, ◌++◌}
use mathlib.Core.List.{cons≢nil}
use mathlib.Core.Option.{Option, none, some, none-ne-some, some-injective}
use Prim.Native.Nat.{ℕ, zero, suc, ◌+◌, ◌-◌, ◌*◌, ◌≤◌, ◌<◌}
use native.Mathlib.Nat.{mul-le-mul_right, suc-mul}
use native.Mathlib.Omega.{arith}
use lib.Dec.{ltb}
use lib.ListN.{length, length-append, length-map}
use borrow.Author.Tests.{ltb-true, ltb-false}
use Rattle.theory.specs.Query.{Entry, constant, variable, Row, Query, column, map_row, row_entries, variables_of, variables, distinct, variable_count}
use Rattle.theory.specs.Query.{FitsSchema, RowsFit, WellFormed, ◌∈◌}
use Rattle.theory.specs.Database.{Database, Dependency, JoinDependency}
use Rattle.theory.specs.Answer.{value_of, itself, Carries, Answer, Mapping}
use Rattle.theory.specs.Chase.{step, Chases, rests, clashes, replaces, chase}
use Rattle.theory.specs.Containment.{freeze, frozen_rows, ConstantsBelow}
use Rattle.theory.proofs.Lists.{bool_cases, mem-cases, nodup-length-le, mem-distinct, distinct-mem, distinct-nodup}
use Rattle.theory.proofs.Entries.{EachEntry, row-row_entries, constant-same, constant-variable, variables_of-mem, mem-variables_of, column-row_entries}
use Rattle.theory.proofs.Members.{◌⊆◌, map-part, member-of-some, some-of-member, row-of-entry, row_entries-part}
use Rattle.theory.proofs.Carry.{carries-fewer, mapping-inclusion, mapping-compose}
use Rattle.theory.proofs.Chase.{chase-chases, chases-unique, chases-count, chases-answers, chases-mapping, chases-rests, freeze-injective, rests-obeys}
use Rattle.theory.proofs.Chase.{chases-rows-fit, chases-wellformed, chases-head-length, chases-entries, chases-variables, chase-length-le}
use Rattle.theory.proofs.Chase.{constants-each, each-constants, zero-below}
use Rattle.theory.proofs.Containment.{frozen-sound}
use Rattle.theory.specs.Codes.{CodePair, QueryWithoutOld}
use Rattle.theory.proofs.Codes.{NoOld, without-each, each-without}
use Rattle.minimization.specs.Checking.{same_row}
use Rattle.minimization.proofs.Checking.{same_row-eq, same_row-self}
use Rattle.joins.specs.Join.{ObeysJoins, ObeysBoth, LegalForBoth, JoinsFit}
use Rattle.joins.specs.JoinChase.{yields, next_row, keep_first, without_repeats, add_row, Outcome, chased, overflow, JoinChases, complete, adds, exceeds}
use Rattle.joins.specs.JoinChase.{join_on, settle, join_chase_for, join_chase}
use Rattle.joins.proofs.Repeats.{keep_first-twice, snoc_new, repeats-into, repeats-back, repeats-head, repeats-length}
use Rattle.joins.proofs.Choices.{chosen-for, yields-fits, yields-entry, yields-there, yields-relation, Added, next_row-found, next_row-nothing}
use Rattle.joins.proofs.Obeying.{yields-in-join, KeepsApart, no-missing-obeys}

-- ---- 1. the row that is added

module _ (widths : List ℕ) (js : List JoinDependency) (fit : JoinsFit widths js) where
  -- There is a set, and a row is chosen for it
  pub added-some : {rows : List (Row Entry)} {r : Row Entry} → Added widths js rows r → rows ≢ []
  added-some {rows} a =
      let set = member-of-some a.dependency.sets (fit a.dependency a.held).some-set in
      let p = chosen-for set.0 a.tried set.1 in
      some-of-member rows (a.tried.of-rows p.0 p.1)

  -- It fits the schema
  pub added-fits : {rows : List (Row Entry)} {r : Row Entry} → Added widths js rows r → FitsSchema widths r
  added-fits a = subst (FitsSchema widths) (sym a.row) (yields-fits widths a.dependency a.choice (fit a.dependency a.held).known)

  -- so the rows still fit with it
  added-fit : (q : Query) {r : Row Entry} → Added widths js q.rows r → RowsFit widths q → RowsFit widths (add_row q r)
  added-fit q a fits s at =
      ⊎_elim
      (fits s)
      (λ new. mem-cases new (λ here. subst (FitsSchema widths) (sym here) (added-fits a)) (λ later. absurd (Memᴰ.not-nil later)))
      (Memᴰ.append_cases q.rows at)

  -- An entry of the rows with one more is an entry of that, or one that was there
  added-from : (rows : List (Row Entry)) (r : Row Entry) (e : Entry) (D : Type 0) → e ∈ row_entries (rows ++ r ∷ [])
      → (e ∈ r.values → D ⊎ (e ∈ row_entries rows)) → D ⊎ (e ∈ row_entries rows)
  added-from rows r e D at new =
      let from = row-of-entry (rows ++ r ∷ []) at in
      ⊎_elim
      (λ old. inr (row-row_entries rows from.0 e old from.2))
      (λ last. new (subst (λ (s : Row Entry). e ∈ s.values) (mem-cases last (λ here. here) (λ later. absurd (Memᴰ.not-nil later))) from.2))
      (Memᴰ.append_cases rows from.1)

  -- It brings no entry but constant 0,
  pub added-entry : {rows : List (Row Entry)} {r : Row Entry} → Added widths js rows r → (e : Entry) → e ∈ row_entries (rows ++ r ∷ [])
      → (e ≡ constant 0) ⊎ (e ∈ row_entries rows)
  added-entry {rows} {r} a e at =
      added-from rows r e (e ≡ constant 0) at
      (λ there. yields-entry widths a.dependency a.choice rows a.tried.of-rows e (subst (λ (s : Row Entry). e ∈ s.values) a.row there))

  -- and none at all where the rows fit the schema
  pub added-there : {rows : List (Row Entry)} {r : Row Entry} → ((r : Row Entry) → r ∈ rows → FitsSchema widths r) → Added widths js rows r
      → (e : Entry) → e ∈ row_entries (rows ++ r ∷ []) → e ∈ row_entries rows
  added-there {rows} {r} fits a e at =
      ⊎_elim absurd (λ there. there)
      (added-from rows r e ⊥ at
      (λ there.
      inr
      (yields-there widths a.dependency a.choice rows (fit a.dependency a.held) fits a.tried a.together e
      (subst (λ (s : Row Entry). e ∈ s.values) a.row there))))

  -- So what holds of each entry still does
  pub added-entries : (P : Entry → Type 0) (q : Query) {r : Row Entry} → Added widths js q.rows r → P (constant 0) ⊎ RowsFit widths q
      → EachEntry P q → EachEntry P (add_row q r)
  added-entries P q {r} a default all x at =
      ⊎_elim (λ there. all x (Memᴰ.append_left (row_entries q.rows) there)) (λ there. of-rows default there) (Memᴰ.append_cases q.head at)
    where
      old : x ∈ row_entries q.rows → P x
      old there = all x (Memᴰ.append_right q.head there)

      of-rows : P (constant 0) ⊎ RowsFit widths q → x ∈ row_entries (q.rows ++ r ∷ []) → P x
      of-rows (inl holds) there = ⊎_elim (λ is. subst P (sym is) holds) old (added-entry a x there)
      of-rows (inr fits) there = old (added-there fits a x there)

  -- It brings no variable
  pub added-variables : (q : Query) {r : Row Entry} → Added widths js q.rows r → (v : ℕ) → v ∈ variables (add_row q r) → v ∈ variables q
  added-variables q {r} a v at =
      mem-variables_of v (q.head ++ row_entries q.rows)
      (⊎_elim
      (λ there. Memᴰ.append_left (row_entries q.rows) there)
      (λ there.
      ⊎_elim (λ zero. absurd (constant-variable 0 v (sym zero))) (λ old. Memᴰ.append_right q.head old) (added-entry a (variable v) there))
      (Memᴰ.append_cases q.head (variables_of-mem v (q.head ++ row_entries (q.rows ++ r ∷ [])) at)))

-- Without repeats the rows still fit a schema
repeats-fit : (widths : List ℕ) (js : List JoinDependency) (q : Query) → RowsFit widths q → RowsFit widths (without_repeats js q)
repeats-fit widths js q fits s at = fits s (repeats-into js q s at)

-- Without repeats there are rows exactly where there were
repeats-some : (js : List JoinDependency) (q : Query) → q.rows ≢ [] → (without_repeats js q).rows ≢ []
repeats-some js q nonempty =
    let first = member-of-some q.rows nonempty in
    some-of-member (without_repeats js q).rows (repeats-back js q first.0 first.1)

some-repeats : (js : List JoinDependency) (q : Query) → (without_repeats js q).rows ≢ [] → q.rows ≢ []
some-repeats js q nonempty =
    let first = member-of-some (without_repeats js q).rows nonempty in
    some-of-member q.rows (repeats-into js q first.0 first.1)

-- and no other entries
repeats-entries : (js : List JoinDependency) (P : Entry → Type 0) (q : Query) → EachEntry P q → EachEntry P (without_repeats js q)
repeats-entries js P q all x at =
    all x
    (⊎_elim
    (λ there. Memᴰ.append_left (row_entries q.rows) (subst (λ l. x ∈ l) (repeats-head js q) there))
    (λ there. Memᴰ.append_right q.head (row_entries-part (repeats-into js q) x there))
    (Memᴰ.append_cases (without_repeats js q).head at))

-- so no other variables
repeats-variables : (js : List JoinDependency) (q : Query) (v : ℕ) → v ∈ variables (without_repeats js q) → v ∈ variables q
repeats-variables js q v at =
    let p = without_repeats js q in
    repeats-entries js (λ x. (w : ℕ) → x ≡ variable w → w ∈ variables q) q
    (λ x there w is. mem-variables_of w (q.head ++ row_entries q.rows) (Memᴰ.cast (sym is) there))
    (variable v) (variables_of-mem v (p.head ++ row_entries p.rows) at) v refl

-- A query all of whose variables another has has not more of them
count-le : (p q : Query) → ((v : ℕ) → v ∈ variables p → v ∈ variables q) → variable_count p ≤ variable_count q
count-le p q part =
    nodup-length-le (distinct (variables p)) (distinct (variables q)) (distinct-nodup (variables p))
    (λ v at. mem-distinct v (variables q) (part v (distinct-mem v (variables p) at)))

-- ---- 2. the chase ends, and is one

-- A chase without replacements that is no clash leaves the query
chases-nothing : {ds : List Dependency} {q mid : Query} {n : ℕ} → Chases ds q mid n → n ≡ 0 → mid.rows ≢ [] → mid ≡ q
chases-nothing (rests is) e nonempty = refl
chases-nothing (clashes is) e nonempty = absurd (nonempty refl)
chases-nothing (replaces is c) e nonempty = absurd (omega (arith, e))

-- The rows of a query without repeats and with a new row are without repeats
repeats-add : (js : List JoinDependency) (q : Query) (r : Row Entry) → (r ∈ (without_repeats js q).rows → ⊥)
    → (without_repeats js (add_row (without_repeats js q) r)).rows ≡ (without_repeats js q).rows ++ r ∷ []
unfolding without_repeats
repeats-add [] q r new = refl
repeats-add (j ∷ js) q r new =
    snoc_new same_row same_row-eq same_row-self (keep_first same_row [] q.rows) r new
    ∙ ap (λ l. l ++ r ∷ []) (keep_first-twice same_row same_row-eq same_row-self q.rows)

-- The measure of a round, in plain numbers: with n fewer variables, and without any fewer with one row more
measure-falls : (limit n before after rows rows' : ℕ) → n + after ≤ before → rows' < limit → (n ≡ 0 → rows ≡ rows')
    → after * suc limit + (limit - suc rows') < before * suc limit + (limit - rows)
measure-falls limit zero before after rows rows' fewer less same =
    let grown = mul-le-mul_right {m = after} {n = before} (suc limit) (omega arith) in
    let e = same refl in
    omega (arith, grown, e)
measure-falls limit (suc n) before after rows rows' fewer less same =
    let grown = mul-le-mul_right {m = suc after} {n = before} (suc limit) (omega arith) in
    omega (arith, grown, suc-mul after (suc limit))

module _ (widths : List ℕ) (ds : List Dependency) (js : List JoinDependency) (limit : ℕ) where
  -- How many rounds the chase of q can still make
  unfoldable pub rounds : Query → ℕ
  rounds q = variable_count q * suc limit + (limit - length (without_repeats js q).rows)

  -- A round that adds a row leaves fewer
  round-falls : JoinsFit widths js → {q mid : Query} {n : ℕ} {r : Row Entry} → Chases ds q mid n → next_row widths js (without_repeats js mid).rows ≡ some r
      → length (without_repeats js mid).rows < limit → rounds (add_row (without_repeats js mid) r) < rounds q
  unfolding rounds
  round-falls fit {q} {mid} {n} {r} c is less =
      let settled = without_repeats js mid in
      let a = next_row-found widths js settled.rows r is in
      let nonempty = some-repeats js mid (added-some widths js fit a) in
      let fewer = count-le (add_row settled r) mid (λ v at. repeats-variables js mid v (added-variables widths js fit settled a v at)) in
      let long : length (without_repeats js (add_row settled r)).rows ≡ suc (length settled.rows) =
      ap length (repeats-add js mid r a.new) ∙ length-append settled.rows (r ∷ []) ∙ omega arith in
      subst (λ k. variable_count (add_row settled r) * suc limit + (limit - k) < rounds q) (sym long)
      (measure-falls limit n (variable_count q) (variable_count (add_row settled r)) (length (without_repeats js q).rows) (length settled.rows)
      (omega (arith, fewer, chases-count c nonempty)) less (λ e. ap (λ p. length (without_repeats js p).rows) (sym (chases-nothing c e nonempty))))

  -- From the row that is to be added on
  joins-on : (q : Query) (again : Query → Outcome) (o : Option (Row Entry)) → next_row widths js (settle ds js q).rows ≡ o
      → ((r : Row Entry) → next_row widths js (settle ds js q).rows ≡ some r → length (settle ds js q).rows < limit
      → JoinChases widths ds js limit (add_row (settle ds js q) r) (again (add_row (settle ds js q) r)))
      → JoinChases widths ds js limit q (join_on again limit (settle ds js q) o)
  unfolding join_on settle
  joins-on q again none is next = complete (chase-chases ds q) is
  joins-on q again (some r) is next =
      bool_cases (ltb (length (settle ds js q).rows) limit)
      (λ p. rw p (let less = ltb-true (length (settle ds js q).rows) limit p in adds (chase-chases ds q) is less (next r is less)))
      (λ p. rw p (exceeds (chase-chases ds q) is (ltb-false (length (settle ds js q).rows) limit p)))

  pub settled-falls : JoinsFit widths js → (q : Query) (r : Row Entry) → next_row widths js (settle ds js q).rows ≡ some r
      → length (settle ds js q).rows < limit → rounds (add_row (settle ds js q) r) < rounds q
  unfolding settle
  settled-falls fit q r is less = round-falls fit (chase-chases ds q) is less

  -- More rounds than that are enough
  joins-for : JoinsFit widths js → (n : ℕ) (q : Query) → rounds q < n → JoinChases widths ds js limit q (join_chase_for n widths ds js limit q)
  unfolding join_chase_for
  joins-for fit zero q enough = absurd (omega arith)
  joins-for fit (suc n) q enough =
      joins-on q (join_chase_for n widths ds js limit) (next_row widths js (settle ds js q).rows) refl
      (λ r is less. joins-for fit n (add_row (settle ds js q) r) (omega (arith, settled-falls fit q r is less)))

  -- and those of `join_chase` are more: the chase ends
  pub joins-computed : JoinsFit widths js → (q : Query) → JoinChases widths ds js limit q (join_chase widths ds js limit q)
  unfolding join_chase rounds
  joins-computed fit q = joins-for fit (suc (variable_count q) * suc limit) q (omega (arith, suc-mul (variable_count q) (suc limit)))

  -- By its first round
  data FirstRound (q : Query) : Outcome → Type 0 where
    ended : next_row widths js (settle ds js q).rows ≡ none → FirstRound q (chased (settle ds js q))
    added : {outcome : Outcome} (r : Row Entry) → next_row widths js (settle ds js q).rows ≡ some r → length (settle ds js q).rows < limit
        → JoinChases widths ds js limit (add_row (settle ds js q) r) outcome → FirstRound q outcome
    exceeded : (r : Row Entry) → next_row widths js (settle ds js q).rows ≡ some r → limit ≤ length (settle ds js q).rows → FirstRound q overflow

  -- The functional part of a round is what `settle` computes
  settled : {q mid : Query} {n : ℕ} → Chases ds q mid n → without_repeats js mid ≡ settle ds js q
  unfolding settle
  settled {q} {mid} {n} c = ap (without_repeats js) (chases-unique ds q mid n c).0

  first_round : {q : Query} {outcome : Outcome} → JoinChases widths ds js limit q outcome → FirstRound q outcome
  first_round {q} (complete c is) =
      let e = settled c in
      subst (λ p. FirstRound q (chased p)) (sym e) (ended (subst (λ p. next_row widths js p.rows ≡ none) e is))
  first_round {q} (adds {r = r} {outcome = outcome} c is less rest) =
      let e = settled c in
      added r (subst (λ p. next_row widths js p.rows ≡ some r) e is) (subst (λ p. length p.rows < limit) e less)
      (subst (λ p. JoinChases widths ds js limit (add_row p r) outcome) e rest)
  first_round {q} (exceeds {r = r} c is past) =
      let e = settled c in
      exceeded r (subst (λ p. next_row widths js p.rows ≡ some r) e is) (subst (λ p. limit ≤ length p.rows) e past)

  -- The row that is to be added, and the number of rows, are so of what it computes
  settled-next : {q mid : Query} {n : ℕ} → Chases ds q mid n
      → next_row widths js (without_repeats js mid).rows ≡ next_row widths js (settle ds js q).rows
  settled-next c = ap (λ p. next_row widths js p.rows) (settled c)

  settled-length : {q mid : Query} {n : ℕ} → Chases ds q mid n → length (without_repeats js mid).rows ≡ length (settle ds js q).rows
  settled-length c = ap (λ p. length p.rows) (settled c)

  -- Two chases of one query go the same way, round by round
  joins-same : {q : Query} {one other : Outcome} → JoinChases widths ds js limit q one → FirstRound q other → one ≡ other
  joins-same (complete c is) (ended is') = ap chased (settled c)
  joins-same (complete c is) (added r is' less rest) = absurd (none-ne-some r (sym is ∙ settled-next c ∙ is'))
  joins-same (complete c is) (exceeded r is' past) = absurd (none-ne-some r (sym is ∙ settled-next c ∙ is'))
  joins-same (adds {r = r} c is less rest) (ended is') = absurd (none-ne-some r (sym is' ∙ sym (settled-next c) ∙ is))
  joins-same (adds {r = r} c is less rest) (added {outcome = outcome} s is' less' rest') =
      let same : s ≡ r = some-injective _ _ (sym is' ∙ sym (settled-next c) ∙ is) in
      joins-same rest (first_round (subst (λ p. JoinChases widths ds js limit p outcome) (λ i. add_row (sym (settled c) i) (same i)) rest'))
  joins-same (adds c is less rest) (exceeded r is' past) = absurd (omega (arith, settled-length c))
  joins-same (exceeds {r = r} c is past) (ended is') = absurd (none-ne-some r (sym is' ∙ sym (settled-next c) ∙ is))
  joins-same (exceeds c is past) (added r is' less rest) = absurd (omega (arith, settled-length c))
  joins-same (exceeds c is past) (exceeded r is' past') = refl

  pub joins-unique : {q : Query} {one other : Outcome} → JoinChases widths ds js limit q one → JoinChases widths ds js limit q other → one ≡ other
  joins-unique c d = joins-same c (first_round d)

-- The chase by its first round, for a loop that chases what is left
module _ (widths : List ℕ) (ds : List Dependency) (js : List JoinDependency) (limit : ℕ) (fit : JoinsFit widths js) (q : Query) where
  pub join-at-end : next_row widths js (settle ds js q).rows ≡ none → join_chase widths ds js limit q ≡ chased (settle ds js q)
  unfolding settle
  join-at-end is = joins-unique widths ds js limit (joins-computed widths ds js limit fit q) (complete (chase-chases ds q) is)

  pub join-at-row : (r : Row Entry) → next_row widths js (settle ds js q).rows ≡ some r → length (settle ds js q).rows < limit
      → join_chase widths ds js limit q ≡ join_chase widths ds js limit (add_row (settle ds js q) r)
  unfolding settle
  join-at-row r is less =
      joins-unique widths ds js limit (joins-computed widths ds js limit fit q)
      (adds (chase-chases ds q) is less (joins-computed widths ds js limit fit (add_row (settle ds js q) r)))

  pub join-at-limit : (r : Row Entry) → next_row widths js (settle ds js q).rows ≡ some r → limit ≤ length (settle ds js q).rows
      → join_chase widths ds js limit q ≡ overflow
  unfolding settle
  join-at-limit r is past = joins-unique widths ds js limit (joins-computed widths ds js limit fit q) (exceeds (chase-chases ds q) is past)

-- ---- 3. what the chase keeps

-- What holds of a query and its outcome, where that is a query
abbrev Of : (Query → Type 0) → Outcome → Type 0
Of P (chased result) = P result
Of P overflow = Unit {0}

-- What holds after the functional part of a last round, and goes back through any other round, holds of every chase
joins-by-rounds : {widths : List ℕ} {ds : List Dependency} {js : List JoinDependency} {limit : ℕ} (P : Query → Query → Type 0)
    → ((q mid : Query) (n : ℕ) → Chases ds q mid n → next_row widths js (without_repeats js mid).rows ≡ none → P q (without_repeats js mid))
    → ((q mid : Query) (n : ℕ) (r : Row Entry) (result : Query) → Chases ds q mid n → Added widths js (without_repeats js mid).rows r
    → length (without_repeats js mid).rows < limit → P (add_row (without_repeats js mid) r) result → P q result)
    → {q : Query} {outcome : Outcome} → JoinChases widths ds js limit q outcome → Of (P q) outcome
joins-by-rounds P last round (complete {q} {mid} {n} c is) = last q mid n c is
joins-by-rounds {widths} {ds} {js} {limit} P last round {q} (adds {mid = mid} {n} {r} {outcome} c is less rest) =
    go outcome (joins-by-rounds P last round rest)
  where
    go : (outcome : Outcome) → Of (P (add_row (without_repeats js mid) r)) outcome → Of (P q) outcome
    go (chased result) holds = round q mid n r result c (next_row-found widths js (without_repeats js mid).rows r is) less holds
    go overflow holds = tt
joins-by-rounds P last round (exceeds c is past) = tt

-- Repeated rows ask nothing of an answer
repeats-answers : (js : List JoinDependency) (q : Query) (D : Database) (t : List ℕ) → Answer D q t ↔ Answer D (without_repeats js q) t
repeats-answers js q D t = (
  λ a. (
    a.0,
    carries-fewer itself a.0 q (without_repeats js q) D t (repeats-head js q) (repeats-some js q a.1.not-never) (repeats-into js q) a.1,
  ),
  λ a. (
    a.0,
    carries-fewer itself a.0 (without_repeats js q) q D t (sym (repeats-head js q)) (some-repeats js q a.1.not-never) (repeats-back js q) a.1,
  ),
)

module _ (widths : List ℕ) (js : List JoinDependency) (fit : JoinsFit widths js) where
  -- A row that is added asks nothing of an answer on a database that obeys: its image is in the join, so it is there
  added-answers : (q : Query) (r : Row Entry) → Added widths js q.rows r → (D : Database) → ObeysJoins widths js D → (t : List ℕ)
      → Answer D q t ↔ Answer D (add_row q r) t
  added-answers q r a D obeys t = (
    λ answer. (
      answer.0,
      record {
        not-never = λ none. answer.1.not-never (append-none q.rows none);
        to-head = answer.1.to-head;
        to-rows = λ s at. ⊎_elim (answer.1.to-rows s)
            (λ last. Memᴰ.cast (ap (map_row (value_of itself answer.0)) (mem-cases last (λ here. here) (λ later. absurd (Memᴰ.not-nil later))))
            (there answer.0 answer.1))
            (Memᴰ.append_cases q.rows at);
      },
    ),
    λ answer. (
      answer.0,
      carries-fewer itself answer.0 (add_row q r) q D t refl (added-some widths js fit a) (λ s at. Memᴰ.append_left (r ∷ []) at) answer.1,
    ),
  )
    where
      append-none : (rows : List (Row Entry)) → rows ++ r ∷ [] ≡ [] → rows ≡ []
      append-none [] empty = refl
      append-none (s ∷ rows) empty = absurd (cons≢nil empty)

      there : (assign : ℕ → ℕ) → Carries itself assign q D t → map_row (value_of itself assign) r ∈ D
      there assign c =
          let j = a.dependency in
          let y = yields widths j a.choice in
          let wide = yields-fits widths j a.choice (fit j a.held).known in
          Memᴰ.cast (ap (map_row (value_of itself assign)) a.row)
          ((obeys j a.held (map_row (value_of itself assign) y) (wide.0, length-map y.values (value_of itself assign) ∙ wide.1)
          (yields-relation widths j a.choice)).1
          (yields-in-join widths j q.rows a.choice assign D c.to-rows a.tried a.together))

module _ {widths : List ℕ} {ds : List Dependency} {js : List JoinDependency} {limit : ℕ} (fit : JoinsFit widths js) where
  -- Answers
  pub joins-answers : {q result : Query} → JoinChases widths ds js limit q (chased result)
      → (D : Database) → ObeysBoth widths ds js D → (t : List ℕ) → Answer D q t ↔ Answer D result t
  joins-answers =
      joins-by-rounds (λ q result. (D : Database) → ObeysBoth widths ds js D → (t : List ℕ) → Answer D q t ↔ Answer D result t)
      (λ q mid n c is D obeys t. Iff.trans (chases-answers c D obeys.functional t) (repeats-answers js mid D t))
      (λ q mid n r result c a less rest D obeys t.
      Iff.trans (chases-answers c D obeys.functional t)
      (Iff.trans (repeats-answers js mid D t)
      (Iff.trans (added-answers widths js fit (without_repeats js mid) r a D obeys.joins t) (rest D obeys t))))

  -- A mapping to the chased query
  pub joins-mapping : {q result : Query} → JoinChases widths ds js limit q (chased result) → result.rows ≢ [] → Mapping q result
  joins-mapping =
      joins-by-rounds (λ q result. result.rows ≢ [] → Mapping q result)
      (λ q mid n c is nonempty.
      let there = some-repeats js mid nonempty in
      mapping-compose q mid (without_repeats js mid) (chases-mapping c there)
      (mapping-inclusion mid (without_repeats js mid) there (repeats-head js mid) (repeats-back js mid)))
      (λ q mid n r result c a less rest nonempty.
      let settled = without_repeats js mid in
      let there = some-repeats js mid (added-some widths js fit a) in
      mapping-compose q mid result (chases-mapping c there)
      (mapping-compose mid (add_row settled r) result
      (mapping-inclusion mid (add_row settled r) there (repeats-head js mid) (λ s at. Memᴰ.append_left (r ∷ []) (repeats-back js mid s at)))
      (rest nonempty)))

  -- Relations and widths of rows
  pub joins-rows-fit : {q result : Query} → JoinChases widths ds js limit q (chased result) → RowsFit widths q → RowsFit widths result
  joins-rows-fit =
      joins-by-rounds (λ q result. RowsFit widths q → RowsFit widths result)
      (λ q mid n c is fits. repeats-fit widths js mid (chases-rows-fit widths c fits))
      (λ q mid n r result c a less rest fits. rest (added-fit widths js fit (without_repeats js mid) a (repeats-fit widths js mid (chases-rows-fit widths c fits))))

  -- What holds of each entry of the query holds of each of the chased one. Constant 0 comes from nowhere if the rows fit the schema and the chased query is
  -- not never
  pub joins-entries : (P : Entry → Type 0) {q result : Query} → JoinChases widths ds js limit q (chased result)
      → P (constant 0) ⊎ (RowsFit widths q × (result.rows ≢ [])) → EachEntry P q → EachEntry P result
  joins-entries P =
      joins-by-rounds (λ q result. P (constant 0) ⊎ (RowsFit widths q × (result.rows ≢ [])) → EachEntry P q → EachEntry P result)
      (λ q mid n c is default all.
      repeats-entries js P mid
      (chases-entries P c (⊎_elim inl (λ both. inr ((widths, both.0), some-repeats js mid both.1)) default) all))
      (λ q mid n r result c a less rest default all.
      let settled = without_repeats js mid in
      let there = some-repeats js mid (added-some widths js fit a) in
      let settled-all = repeats-entries js P mid (chases-entries P c (⊎_elim inl (λ both. inr ((widths, both.0), there)) default) all) in
      rest (⊎_elim inl (λ both. inr (added-fit widths js fit settled a (repeats-fit widths js mid (chases-rows-fit widths c both.0)), both.1)) default)
      (added-entries widths js fit P settled a
      (⊎_elim inl (λ both. inr (repeats-fit widths js mid (chases-rows-fit widths c both.0))) default) settled-all))

  -- So with constants below a base
  pub joins-constants : (base : ℕ) → 0 < base → {q result : Query} → JoinChases widths ds js limit q (chased result)
      → ConstantsBelow base q → ConstantsBelow base result
  joins-constants base positive {q} {result} chase below =
      each-constants base result
      (joins-entries (λ x. (n : ℕ) → x ≡ constant n → n < base) chase (inl (zero-below base positive)) (constants-each base q below))

  -- and with old codes
  pub joins-current : (ps : List CodePair) {q result : Query} → JoinChases widths ds js limit q (chased result) → RowsFit widths q
      → QueryWithoutOld ps q → QueryWithoutOld ps result
  joins-current ps {q} {result} chase fits without =
      each-without ps result
      (λ some. joins-entries (NoOld ps) chase (inr (fits, some)) (without-each ps q without (joins-mapping chase some).1.carries.not-never))

  -- It makes no variable
  pub joins-variables : {q result : Query} → JoinChases widths ds js limit q (chased result) → (v : ℕ) → v ∈ variables result → v ∈ variables q
  joins-variables =
      joins-by-rounds (λ q result. (v : ℕ) → v ∈ variables result → v ∈ variables q)
      (λ q mid n c is v at. chases-variables c v (repeats-variables js mid v at))
      (λ q mid n r result c a less rest v at.
      chases-variables c v (repeats-variables js mid v (added-variables widths js fit (without_repeats js mid) a v (rest v at))))

  -- Well-formed queries
  pub joins-wellformed : {q result : Query} → JoinChases widths ds js limit q (chased result) → WellFormed widths q → WellFormed widths result
  joins-wellformed {q} {result} chase well = record {
    rows_fit = joins-rows-fit chase well.rows_fit;
    head-safe =
        joins-by-rounds (λ q result. WellFormed widths q → (v : ℕ) → v ∈ variables_of result.head → v ∈ variables_of (row_entries result.rows))
        (λ q mid n c is well. kept mid (chases-wellformed widths c well).head-safe)
        (λ q mid n r result c a less rest well.
        let before = chases-wellformed widths c well in
        rest (record {
          rows_fit = added-fit widths js fit (without_repeats js mid) a (repeats-fit widths js mid before.rows_fit);
          head-safe = λ v at. more (without_repeats js mid).rows (add_row (without_repeats js mid) r).rows (λ s there. Memᴰ.append_left (r ∷ []) there) v
              (kept mid before.head-safe v at);
        }))
        chase well;
  }
    where
      more : (rows rows' : List (Row Entry)) → rows ⊆ rows' → (v : ℕ) → v ∈ variables_of (row_entries rows) → v ∈ variables_of (row_entries rows')
      more rows rows' part' v at = mem-variables_of v (row_entries rows') (row_entries-part part' (variable v) (variables_of-mem v (row_entries rows) at))

      kept : (mid : Query) → ((v : ℕ) → v ∈ variables_of mid.head → v ∈ variables_of (row_entries mid.rows))
          → (v : ℕ) → v ∈ variables_of (without_repeats js mid).head → v ∈ variables_of (row_entries (without_repeats js mid).rows)
      kept mid safe v at =
          more mid.rows (without_repeats js mid).rows (repeats-back js mid) v (safe v (subst (λ l. v ∈ variables_of l) (repeats-head js mid) at))

module _ {widths : List ℕ} {ds : List Dependency} {js : List JoinDependency} {limit : ℕ} where
  -- The head's length
  pub joins-head-length : {q result : Query} → JoinChases widths ds js limit q (chased result) → length result.head ≡ length q.head
  joins-head-length =
      joins-by-rounds (λ q result. length result.head ≡ length q.head)
      (λ q mid n c is. ap length (repeats-head js mid) ∙ chases-head-length c)
      (λ q mid n r result c a less rest. rest ∙ ap length (repeats-head js mid) ∙ chases-head-length c)

  -- The number of rows
  pub joins-length : {q result : Query} (most : ℕ) → JoinChases widths ds js limit q (chased result) → limit ≤ most → length q.rows ≤ most
      → length result.rows ≤ most
  joins-length most chase enough =
      joins-by-rounds (λ q result. length q.rows ≤ most → length result.rows ≤ most)
      (λ q mid n c is short. omega (arith, repeats-length js mid, shorter c))
      (λ q mid n r result c a less rest short. rest (omega (arith, length-append (without_repeats js mid).rows (r ∷ []))))
      chase
    where
      shorter : {q mid : Query} {n : ℕ} → Chases ds q mid n → length mid.rows ≤ length q.rows
      shorter {q} {mid} {n} c = subst (λ p. length p.rows ≤ length q.rows) (sym (chases-unique ds q mid n c).0) (chase-length-le ds q)

-- ---- 4. no step is left

-- A query on which the functional chase rests, without repeats, and with no row to be added
pub record Complete (widths : List ℕ) (ds : List Dependency) (js : List JoinDependency) (result : Query) : Type 0 where
  pub resting : Query
  pub rests-there : step ds resting ≡ none
  pub without-repeats : result ≡ without_repeats js resting
  pub nothing-missing : next_row widths js result.rows ≡ none

-- The chase ends in such a query
pub joins-complete : {widths : List ℕ} {ds : List Dependency} {js : List JoinDependency} {limit : ℕ} {q result : Query}
    → JoinChases widths ds js limit q (chased result) → Complete widths ds js result
joins-complete {widths} {ds} {js} =
    joins-by-rounds (λ q result. Complete widths ds js result)
    (λ q mid n c is. record { resting = mid; rests-there = chases-rests c; without-repeats = refl; nothing-missing = is })
    (λ q mid n r result c a less rest. rest)

-- Constants in a column are below the base too, also where constant 0 stands in
column-below : (q : Query) (base : ℕ) → 0 < base → ConstantsBelow base q → (r : Row Entry) → r ∈ q.rows → (c n : ℕ)
    → column (constant 0) r c ≡ constant n → n < base
column-below q base positive below r at c n is =
    ⊎_elim
    (λ default. let zero : n ≡ 0 = constant-same (sym is ∙ default) in omega arith)
    (λ there. below.of-rows n (Memᴰ.cast (sym is) there))
    (column-row_entries q.rows r c at)

module _ (widths : List ℕ) (ds : List Dependency) (js : List JoinDependency) (fit : JoinsFit widths js) where
  -- Such a query, read as a database, is legal for both kinds
  pub complete-legal : (q : Query) (base : ℕ) → Complete widths ds js q → RowsFit widths q → 0 < base → ConstantsBelow base q
      → LegalForBoth widths ds js (frozen_rows base q)
  complete-legal q base final fits positive below = record {
    sound = frozen-sound widths base q fits;
    obeys = record {
      functional = λ d held r s at at'. rests-obeys ds mid base final.rests-there positive below-mid d held r s (part' r at) (part' s at');
      joins = λ j held.
          no-missing-obeys widths j (fit j held) q.rows fits (λ v. base + v) apart
          (next_row-nothing widths js q.rows final.nothing-missing j held);
    };
  }
    where
      mid : Query
      mid = final.resting

      into-mid : q.rows ⊆ mid.rows
      into-mid r at = repeats-into js mid r (subst (λ (p : Query). r ∈ p.rows) final.without-repeats at)

      part' : frozen_rows base q ⊆ frozen_rows base mid
      part' = map-part (map_row (freeze base)) into-mid

      below-mid : ConstantsBelow base mid
      below-mid = record {
        of-head = λ n at. below.of-head n (subst (λ l. constant n ∈ l) (sym (ap (λ p. p.head) final.without-repeats ∙ repeats-head js mid)) at);
        of-rows = λ n at. below.of-rows n (row_entries-part
            (λ r there. subst (λ (p : Query). r ∈ p.rows) (sym final.without-repeats) (repeats-back js mid r there)) (constant n) at);
      }

      apart : KeepsApart (λ v. base + v) q.rows
      apart r s at at' c same =
          freeze-injective base (column (constant 0) r c) (column (constant 0) s c) (column-below q base positive below r at c)
          (column-below q base positive below s at' c) same
