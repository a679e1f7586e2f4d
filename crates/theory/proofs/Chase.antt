-- The chase with functional dependencies, after Maier, Mendelzon and Sagiv, "Testing implications of data dependencies" (1979).
-- The plan, by the numbers of the sections:
--   1. A replacement takes away one variable (`Replacement`), so the chase ends: `chase` computes a `Chases`, and there is no other.
--   2. How many replacements it makes.
--   3. Each replacement is a mapping, and keeps the answers on every database that obeys the dependencies: an assignment into such a database
--      gives the two entries the same value. A clash asks two different constants to be equal, so there was no answer.
--   4. Where the chase rests no dependency is broken, so its result, read as a database, obeys them.
--   5. What the chase keeps: well-formed queries, the head's length, the number of rows, what holds of each entry, so constants below a
--      base; it makes no variable.
-- Sections 2 to 5 are inductions on `Chases`; each law is stated of any chase first and then of `chase`. The survivor of a replacement is
-- that of SPECIFICATION, The chase, and no law depends on which of the two it is. Assumes nothing.
use mathlib.Core.Path.{◌≡◌, refl, sym, ◌∙◌, ap, subst}
use mathlib.Core.Logic.Iff
use mathlib.Core.Logic.{◌≢◌, ◌↔◌, ◌⊎◌, inl, inr, ⊎_elim}
use mathlib.Core.List.Memᴰ
use mathlib.Core.List.{List, [], ◌++◌}
use mathlib.Core.Option.{Option, none, some}
use Prim.Native.Nat.{ℕ, zero, suc, ◌+◌, ◌≤◌, ◌<◌}
use native.Mathlib.Omega.{arith}
use lib.ListN.{length, length-map, length-replicate, get_or-map}
use Rattle.theory.specs.Query.{Entry, constant, variable, Row, Query, never, column, map_row, map_query, row_entries, variables, variable_count}
use Rattle.theory.specs.Query.{FitsSchema, RowsFit, WellFormed, ◌∈◌}
use Rattle.theory.specs.Database.{Database, Dependency, Obeys}
use Rattle.theory.specs.Answer.{Answer, Mapping}
use Rattle.theory.specs.Chase.{Resolution, clash, replace, substitute, Chases, rests, clashes, replaces, Chased, one_more, chase_on, chase_for}
use Rattle.theory.specs.Chase.{chase, step}
use Rattle.theory.specs.Containment.{ConstantsBelow, freeze, frozen_rows}
use Rattle.theory.proofs.Lists.{replicate-mem, list_cases}
use Rattle.theory.proofs.Entries.{constant-same, constant-variable, variables_of-mem, mem-variables_of, column-row_entries, EachEntry}
use Rattle.theory.proofs.Step.{step-never, step-clash, step-replace, step-nothing, first_broken-nothing}
use Rattle.theory.proofs.Replacement.{step_count, replace-carries, some-map_query, replace-answers, clash-answers, map_query-rows-fit}
use Rattle.theory.proofs.Replacement.{replace-head-safe, forced-variables, forced-entries}
use Rattle.theory.proofs.Carry.{mapping-of, mapping-compose, mapping-self}

-- ---- 1. the chase ends, and is one

-- From one step on
chases-on : (ds : List Dependency) (q : Query) (again : Query → Chased) (o : Option Resolution) → step ds q ≡ o
    → ((v : ℕ) (e : Entry) → step ds q ≡ some (replace v e)
    → Chases ds (map_query (substitute v e) q) (again (map_query (substitute v e) q)).query (again (map_query (substitute v e) q)).count)
    → Chases ds q (chase_on again q o).query (chase_on again q o).count
unfolding chase_on
chases-on ds q again none is next = rests is
chases-on ds q again (some clash) is next = clashes is
chases-on ds q again (some (replace v e)) is next = replaces is (next v e is)

-- As many steps as there are variables, and one more, are enough
pub chases-for : (n : ℕ) (ds : List Dependency) (q : Query) → variable_count q ≤ n
    → Chases ds q (chase_for (suc n) ds q).query (chase_for (suc n) ds q).count
unfolding chase_for
chases-for zero ds q enough = chases-on ds q (chase_for zero ds) (step ds q) refl (λ v e is. absurd (omega (arith, step_count ds q v e is)))
chases-for (suc n) ds q enough =
    chases-on
    ds
    q
    (chase_for (suc n) ds)
    (step ds q)
    refl
    (λ v e is. chases-for n ds (map_query (substitute v e) q) (omega (arith, step_count ds q v e is)))

-- The chase ends: what `chase` computes is the chase
pub chase-chases : (ds : List Dependency) (q : Query) → Chases ds q (chase ds q).query (chase ds q).count
unfolding chase
chase-chases ds q = chases-for (variable_count q) ds q (omega arith)

-- A chase makes at most as many replacements as there are variables
pub chases-count-le : {ds : List Dependency} {q result : Query} {count : ℕ} → Chases ds q result count → count ≤ variable_count q
chases-count-le (rests is) = omega arith
chases-count-le (clashes is) = omega arith
chases-count-le {ds} {q} (replaces {v} {e} is c) = let rest = chases-count-le c in omega (arith, rest, step_count ds q v e is)

-- Any chase is what so many steps, and one more, compute
chases-computed : {ds : List Dependency} {q result : Query} {count : ℕ} → Chases ds q result count → (n : ℕ) → count ≤ n
    → (result ≡ (chase_for (suc n) ds q).query) × (count ≡ (chase_for (suc n) ds q).count)
unfolding chase_for chase_on
chases-computed (rests is) n enough = rw is (refl, refl)
chases-computed (clashes is) n enough = rw is (refl, refl)
chases-computed (replaces is c) zero enough = absurd (omega arith)
chases-computed (replaces is c) (suc n) enough = rw is (let rest = chases-computed c n (omega arith) in (rest.0, ap suc rest.1))

-- and it is the only one
pub chases-unique : (ds : List Dependency) (q result : Query) (count : ℕ) → Chases ds q result count
    → (result ≡ (chase ds q).query) × (count ≡ (chase ds q).count)
unfolding chase
chases-unique ds q result count c = chases-computed c (variable_count q) (chases-count-le c)

-- so `chase` gives the two
pub chased-by : {ds : List Dependency} {q result : Query} {count : ℕ} → Chases ds q result count → chase ds q ≡ record { query = result; count = count }
chased-by {ds} {q} {result} {count} c =
    let same = chases-unique ds q result count c in
    λ i. record { query = sym same.0 i; count = sym same.1 i }

-- The chase by its step, for a loop that chases what is left
pub chase-at-rest : (ds : List Dependency) (q : Query) → step ds q ≡ none → chase ds q ≡ record { query = q; count = zero }
chase-at-rest ds q is = chased-by (rests is)

pub chase-at-clash : (ds : List Dependency) (q : Query) → step ds q ≡ some clash
    → chase ds q ≡ record { query = never (length q.head); count = zero }
chase-at-clash ds q is = chased-by (clashes is)

pub chase-at-replace : (ds : List Dependency) (q : Query) (v : ℕ) (e : Entry) → step ds q ≡ some (replace v e)
    → chase ds q ≡ one_more (chase ds (map_query (substitute v e) q))
chase-at-replace ds q v e is = chased-by (replaces is (chase-chases ds (map_query (substitute v e) q)))

-- ---- 2. the count

-- Without a clash the count is the number of different variables before less the number after
pub chases-count : {ds : List Dependency} {q result : Query} {count : ℕ} → Chases ds q result count → result.rows ≢ []
    → count + variable_count result ≡ variable_count q
chases-count (rests is) nonempty = omega arith
chases-count (clashes is) nonempty = absurd (nonempty refl)
chases-count {ds} {q} (replaces {v} {e} is c) nonempty = let rest = chases-count c nonempty in omega (arith, rest, step_count ds q v e is)

-- and it is never more than the number of different variables
pub chase-count-le : (ds : List Dependency) (q : Query) → (chase ds q).count ≤ variable_count q
chase-count-le ds q = chases-count-le (chase-chases ds q)

-- ---- 3. answers and mappings

-- On every database that obeys the dependencies the chased query has the same answers: after a clash, none
pub chases-answers : {ds : List Dependency} {q result : Query} {count : ℕ} → Chases ds q result count → (D : Database) → Obeys ds D → (t : List ℕ)
    → Answer D q t ↔ Answer D result t
chases-answers (rests is) D obeys t = Iff.rfl
chases-answers {ds} {q} (clashes is) D obeys t =
    let what = step-clash ds q is in
    (λ a. absurd (clash-answers q D t what.2 what.3 obeys a), λ a. absurd (a.1.not-never refl))
chases-answers {ds} {q} (replaces {v} {e} is c) D obeys t =
    Iff.trans (replace-answers q D t (step-replace ds q v e is).0 obeys) (chases-answers c D obeys t)

pub chase-answers : (ds : List Dependency) (q : Query) (D : Database) → Obeys ds D → (t : List ℕ) → Answer D q t ↔ Answer D (chase ds q).query t
chase-answers ds q D obeys t = chases-answers (chase-chases ds q) D obeys t

-- There is a mapping from the query to its chased form
pub chases-mapping : {ds : List Dependency} {q result : Query} {count : ℕ} → Chases ds q result count → result.rows ≢ [] → Mapping q result
chases-mapping {q} (rests is) nonempty = mapping-self q nonempty
chases-mapping (clashes is) nonempty = absurd (nonempty refl)
chases-mapping {q} {result} (replaces {v} {e} is c) nonempty =
    let rest = chases-mapping c nonempty in
    let after = map_query (substitute v e) q in
    let there = some-map_query (substitute v e) q rest.1.carries.not-never in
    mapping-compose q after result (mapping-of q after (λ w. substitute v e (variable w)) (replace-carries v e q there)) rest

pub chase-mapping : (ds : List Dependency) (q : Query) → (chase ds q).query.rows ≢ [] → Mapping q (chase ds q).query
chase-mapping ds q nonempty = chases-mapping (chase-chases ds q) nonempty

-- ---- 4. the result obeys the dependencies

-- The chase rests on its result
pub chases-rests : {ds : List Dependency} {q result : Query} {count : ℕ} → Chases ds q result count → step ds result ≡ none
chases-rests (rests is) = is
chases-rests {ds} {q} (clashes is) = step-never ds (never (length q.head)) refl
chases-rests (replaces is c) = chases-rests c

pub chase-rests : (ds : List Dependency) (q : Query) → step ds (chase ds q).query ≡ none
chase-rests ds q = chases-rests (chase-chases ds q)

-- Reading entries as numbers keeps them apart where the constants are below the base
pub freeze-injective : (base : ℕ) (x y : Entry) → ((n : ℕ) → x ≡ constant n → n < base) → ((n : ℕ) → y ≡ constant n → n < base)
    → freeze base x ≡ freeze base y → x ≡ y
freeze-injective base (constant m) (constant n) below below' same = ap constant same
freeze-injective base (constant m) (variable w) below below' same = absurd (let b = below m refl in omega arith)
freeze-injective base (variable v) (constant n) below below' same = absurd (let b = below' n refl in omega arith)
freeze-injective base (variable v) (variable w) below below' same = ap variable (omega arith)

-- Constants in a column are below the base too, also where constant 0 stands in
column-below : (q : Query) (base : ℕ) → 0 < base → ConstantsBelow base q → (r : Row Entry) (k : ℕ) → r ∈ q.rows
    → (n : ℕ) → column (constant 0) r k ≡ constant n → n < base
column-below q base pos below r k at n is =
    ⊎_elim
    (λ default. let is_zero : n ≡ 0 = constant-same (sym is ∙ default) in omega arith)
    (λ there. below.of-rows n (Memᴰ.cast (sym is) there))
    (column-row_entries q.rows r k at)

-- A query on which the chase rests, read as a database, obeys the dependencies
pub rests-obeys : (ds : List Dependency) (q : Query) (base : ℕ) → step ds q ≡ none → 0 < base → ConstantsBelow base q → Obeys ds (frozen_rows base q)
rests-obeys ds q base resting pos below d held r s at at' relation relation' same =
    let from = Memᴰ.of_map (map_row (freeze base)) q.rows at in
    let from' = Memᴰ.of_map (map_row (freeze base)) q.rows at' in
    let r₀ = from.0 in
    let s₀ = from'.0 in
    let read : (k : ℕ) → column 0 r k ≡ freeze base (column (constant 0) r₀ k) =
    λ k. ap (λ t. column 0 t k) (sym from.2) ∙ get_or-map (freeze base) r₀.values k (constant 0) in
    let read' : (k : ℕ) → column 0 s k ≡ freeze base (column (constant 0) s₀ k) =
    λ k. ap (λ t. column 0 t k) (sym from'.2) ∙ get_or-map (freeze base) s₀.values k (constant 0) in
    let equal = first_broken-nothing
    ds
    q.rows
    (step-nothing ds q resting)
    d
    held
    r₀
    s₀
    from.1
    from'.1
    (ap (λ t. t.relation) from.2 ∙ relation)
    (ap (λ t. t.relation) from'.2 ∙ relation')
    (λ k left.
    freeze-injective
    base
    (column (constant 0) r₀ k)
    (column (constant 0) s₀ k)
    (column-below q base pos below r₀ k from.1)
    (column-below q base pos below s₀ k from'.1)
    (sym (read k) ∙ same k left ∙ read' k)) in
    read d.right ∙ ap (freeze base) equal ∙ sym (read' d.right)

-- The base is above 0, for constant 0 stands in for a missing column and must be read apart from variable 0
pub chase-obeys : (ds : List Dependency) (q : Query) (base : ℕ) → 0 < base → ConstantsBelow base (chase ds q).query
    → Obeys ds (frozen_rows base (chase ds q).query)
chase-obeys ds q base pos below = rests-obeys ds (chase ds q).query base (chase-rests ds q) pos below

-- ---- 5. what the chase keeps

-- The never query has no entries but constant 0 in its head, so no variables
never-entry : (n : ℕ) (e : Entry) → e ∈ (never n).head ++ row_entries (never n).rows → e ≡ constant 0
unfolding row_entries
never-entry n e at =
    ⊎_elim (λ there. replicate-mem n (constant 0) e there) (λ there. absurd (Memᴰ.not-nil there)) (Memᴰ.append_cases (never n).head at)

never-variables : (n v : ℕ) → v ∈ variables (never n) → ⊥
never-variables n v at = constant-variable 0 v (sym (never-entry n (variable v) (variables_of-mem v ((never n).head ++ row_entries (never n).rows) at)))

-- Relations and widths of rows
pub chases-rows-fit : {ds : List Dependency} {q result : Query} {count : ℕ} (widths : List ℕ) → Chases ds q result count
    → ((r : Row Entry) → r ∈ q.rows → FitsSchema widths r) → (r : Row Entry) → r ∈ result.rows → FitsSchema widths r
chases-rows-fit widths (rests is) fit = fit
chases-rows-fit widths (clashes is) fit = λ r at. absurd (Memᴰ.not-nil at)
chases-rows-fit {q} widths (replaces {v} {e} is c) fit = chases-rows-fit widths c (map_query-rows-fit widths (substitute v e) q fit)

pub chase-rows-fit : (widths : List ℕ) (ds : List Dependency) (q : Query)
    → ((r : Row Entry) → r ∈ q.rows → FitsSchema widths r) → (r : Row Entry) → r ∈ (chase ds q).query.rows → FitsSchema widths r
chase-rows-fit widths ds q fit = chases-rows-fit widths (chase-chases ds q) fit

-- Well-formed queries
pub chases-wellformed : {ds : List Dependency} {q result : Query} {count : ℕ} (widths : List ℕ) → Chases ds q result count
    → WellFormed widths q → WellFormed widths result
chases-wellformed widths (rests is) w = w
chases-wellformed {q} widths (clashes is) w =
    let n = length q.head in
    record {
      rows_fit = λ r at. absurd (Memᴰ.not-nil at);
      head-safe = λ v at.
          let entry = Memᴰ.append_left (row_entries (never n).rows) (variables_of-mem v (never n).head at) in
          absurd (never-variables n v (mem-variables_of v ((never n).head ++ row_entries (never n).rows) entry));
    }
chases-wellformed {q} widths (replaces {v} {e} is c) w =
    chases-wellformed
    widths
    c
    (record { rows_fit = map_query-rows-fit widths (substitute v e) q w.rows_fit; head-safe = replace-head-safe v e q w.head-safe })

pub chase-wellformed : (widths : List ℕ) (ds : List Dependency) (q : Query) → WellFormed widths q → WellFormed widths (chase ds q).query
chase-wellformed widths ds q w = chases-wellformed widths (chase-chases ds q) w

-- The head's length
pub chases-head-length : {ds : List Dependency} {q result : Query} {count : ℕ} → Chases ds q result count → length result.head ≡ length q.head
chases-head-length (rests is) = refl
chases-head-length {q} (clashes is) = length-replicate (length q.head) (constant 0)
chases-head-length {q} (replaces {v} {e} is c) = chases-head-length c ∙ length-map q.head (substitute v e)

pub chase-head-length : (ds : List Dependency) (q : Query) → length (chase ds q).query.head ≡ length q.head
chase-head-length ds q = chases-head-length (chase-chases ds q)

-- What holds of each entry of the query holds of each of the chased one. Constant 0, which stands in for a missing column and in the head of never,
-- comes from nowhere if the rows fit a schema and the chased query is not never
pub chases-entries : {ds : List Dependency} {q result : Query} {count : ℕ} (P : Entry → Type 0) → Chases ds q result count
    → P (constant 0) ⊎ (((widths : List ℕ) × RowsFit widths q) × (result.rows ≢ [])) → EachEntry P q → EachEntry P result
chases-entries P (rests is) default all = all
chases-entries {q} P (clashes is) (inl holds) all = λ x at. subst P (sym (never-entry (length q.head) x at)) holds
chases-entries P (clashes is) (inr (fit, nonempty)) all = absurd (nonempty refl)
chases-entries {ds} {q} P (replaces {v} {e} is c) default all =
    let f = step-replace ds q v e is in
    chases-entries P c
    (⊎_elim inl (λ both. inr ((both.0.0, map_query-rows-fit both.0.0 (substitute v e) q both.0.1), both.1)) default)
    (forced-entries P q f.0 f.1 (⊎_elim inl (λ both. inr both.0) default) all)

-- So with constants below a base
pub constants-each : (base : ℕ) (q : Query) → ConstantsBelow base q → EachEntry (λ x. (n : ℕ) → x ≡ constant n → n < base) q
constants-each base q below x at n is =
    ⊎_elim (λ there. below.of-head n (Memᴰ.cast (sym is) there)) (λ there. below.of-rows n (Memᴰ.cast (sym is) there)) (Memᴰ.append_cases q.head at)

pub each-constants : (base : ℕ) (q : Query) → EachEntry (λ x. (n : ℕ) → x ≡ constant n → n < base) q → ConstantsBelow base q
each-constants base q all = record {
  of-head = λ n at. all (constant n) (Memᴰ.append_left (row_entries q.rows) at) n refl;
  of-rows = λ n at. all (constant n) (Memᴰ.append_right q.head at) n refl;
}

-- Constant 0 is below it too, where it is above 0
pub zero-below : (base : ℕ) → 0 < base → (n : ℕ) → constant 0 ≡ constant n → n < base
zero-below base positive n is = let zero : 0 ≡ n = constant-same is in omega arith

pub chases-constants : {ds : List Dependency} {q result : Query} {count : ℕ} (base : ℕ) → 0 < base → Chases ds q result count
    → ConstantsBelow base q → ConstantsBelow base result
chases-constants {q} {result} base pos c below =
    each-constants base result (chases-entries (λ x. (n : ℕ) → x ≡ constant n → n < base) c (inl (zero-below base pos)) (constants-each base q below))

pub chase-constants : (ds : List Dependency) (q : Query) (base : ℕ) → 0 < base → ConstantsBelow base q → ConstantsBelow base (chase ds q).query
chase-constants ds q base pos below = chases-constants base pos (chase-chases ds q) below

-- It makes no variable
pub chases-variables : {ds : List Dependency} {q result : Query} {count : ℕ} → Chases ds q result count
    → (v : ℕ) → v ∈ variables result → v ∈ variables q
chases-variables (rests is) v at = at
chases-variables {q} (clashes is) v at = absurd (never-variables (length q.head) v at)
chases-variables {ds} {q} (replaces {v = w} {e} is c) v at = forced-variables q (step-replace ds q w e is).0 v (chases-variables c v at)

-- The number of rows: without a clash it stays,
pub chases-length : {ds : List Dependency} {q result : Query} {count : ℕ} → Chases ds q result count
    → result.rows ≢ [] → length result.rows ≡ length q.rows
chases-length (rests is) nonempty = refl
chases-length (clashes is) nonempty = absurd (nonempty refl)
chases-length {q} (replaces {v} {e} is c) nonempty = chases-length c nonempty ∙ length-map q.rows (map_row (substitute v e))

pub chase-length : (ds : List Dependency) (q : Query) → (chase ds q).query.rows ≢ [] → length (chase ds q).query.rows ≡ length q.rows
chase-length ds q nonempty = chases-length (chase-chases ds q) nonempty

-- and it never grows
pub chase-length-le : (ds : List Dependency) (q : Query) → length (chase ds q).query.rows ≤ length q.rows
chase-length-le ds q =
    list_cases (chase ds q).query.rows (λ empty. omega (arith, ap length empty)) (λ some. let kept = chase-length ds q some in omega arith)
