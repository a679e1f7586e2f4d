-- What a replacement of the chase keeps: it is a mapping; it keeps the answers on every database that obeys the dependencies, for an assignment into one gives
-- forced entries the same value; it takes away exactly one variable and brings none; it keeps what holds of each entry, and well-formed queries.
-- Substitution by itself is in `Entries`, what forces a replacement in `Step`. Assumes nothing.
use mathlib.Core.Path.{◌≡◌, sym, ◌∙◌, ap, subst}
use mathlib.Core.Logic.{◌≢◌, ◌↔◌, ◌⊎◌, inl, inr, ⊎_elim}
use mathlib.Core.Option.{some}
use mathlib.Core.List.Memᴰ
use mathlib.Core.List.{List, [], ◌++◌, map, map-map}
use Prim.Native.Nat.{ℕ, suc}
use lib.ListN.{get_or-map, length-map}
use Rattle.theory.specs.Query.{Entry, constant, variable, Row, Query, column, map_row, map_query, row_entries, variables_of, variables}
use Rattle.theory.specs.Query.{variable_count, FitsSchema, RowsFit, ◌∈◌}
use Rattle.theory.specs.Database.{Database, Dependency, Obeys}
use Rattle.theory.specs.Chase.{replace, substitute, step}
use Rattle.theory.specs.Answer.{value_of, itself, Carries, Answer}
use Rattle.theory.proofs.Lists.{map-empty, map-agree}
use Rattle.theory.proofs.Entries.{constant-variable, substitute-value_of, substitute-cases, substitute-mem, mem-variables_of}
use Rattle.theory.proofs.Entries.{variables_of-mem, entries-map, row_entries-map, replace-count, substitute-constant, EachEntry}
use Rattle.theory.proofs.Carry.{carries-compose}
use Rattle.theory.proofs.Step.{Forced, forced-swap, forced-entry, forced-variable, forced-there, step-replace}

-- A replacement is a mapping from the query to what it becomes
pub replace-carries : (v : ℕ) (e : Entry) (q : Query) → q.rows ≢ []
    → Carries constant (λ w. substitute v e (variable w)) q (map_query (substitute v e) q).rows (map_query (substitute v e) q).head
replace-carries v e q nonempty =
    let same = substitute-value_of v e in
    record {
      not-never = nonempty;
      to-head = ap (λ f. map f q.head) same;
      to-rows = λ r at. Memᴰ.cast (ap (λ f. map_row f r) same) (Memᴰ.map (map_row (substitute v e)) at);
    }

-- The rows of a mapped query are none exactly when those of the query are
pub map_query-some : (f : Entry → Entry) (q : Query) → q.rows ≢ [] → (map_query f q).rows ≢ []
map_query-some f q nonempty e = nonempty (map-empty (map_row f) q.rows e)

pub some-map_query : (f : Entry → Entry) (q : Query) → (map_query f q).rows ≢ [] → q.rows ≢ []
some-map_query f q nonempty e = nonempty (ap (map (map_row f)) e)

-- An assignment that carries the query into an obeying database gives forced entries the same value
pub forced-value : {ds : List Dependency} {x y : Entry} (assign : ℕ → ℕ) (q : Query) (D : Database) (t : List ℕ) → Forced ds q.rows x y
    → Obeys ds D → Carries itself assign q D t → value_of itself assign x ≡ value_of itself assign y
forced-value {ds} {x} {y} assign q D t f obeys c =
    let value = value_of itself assign in
    let at-column : (r : Row Entry) (k : ℕ) → column 0 (map_row value r) k ≡ value (column (constant 0) r k) = λ r k. get_or-map value r.values k
    (constant 0) in
    let d = f.dependency in
    let equal = obeys
    d
    f.held
    (map_row value f.first)
    (map_row value f.second)
    (c.to-rows f.first f.first-there)
    (c.to-rows f.second f.second-there)
    f.first-relation
    f.second-relation
    (λ k at. at-column f.first k ∙ ap value (f.agree_left k at) ∙ sym (at-column f.second k)) in
    ap value (sym f.first_entry) ∙ sym (at-column f.first d.right) ∙ equal ∙ at-column f.second d.right ∙ ap value f.second-entry

-- An assignment to which a change of entries makes no difference carries the changed query too
pub carries-changed : {A : Type 0} (fixed assign : ℕ → A) (f : Entry → Entry) (q : Query) (rows : List (Row A)) (image : List A)
    → ((x : Entry) → value_of fixed assign (f x) ≡ value_of fixed assign x) → Carries fixed assign q rows image → Carries fixed assign (map_query f q) rows image
carries-changed fixed assign f q rows image same c =
    let value = value_of fixed assign in
    let through : (es : List Entry) → map value (map f es) ≡ map value es = λ es. map-map value f es ∙ map-agree (λ x. value (f x)) value es (λ x at. same x) in
    record {
      not-never = map_query-some f q c.not-never;
      to-head = through q.head ∙ c.to-head;
      to-rows = λ r at.
          let from = Memᴰ.of_map (map_row f) q.rows at in
          let r₀ = from.0 in
          let equal : map_row value r ≡ map_row value r₀ =
          ap (map_row value) (sym from.2) ∙ (λ i. record { relation = r₀.relation; values = through r₀.values i })
          in
          Memᴰ.cast equal (c.to-rows r₀ from.1);
    }

-- A replacement of a forced variable keeps the answers
pub replace-answers : {ds : List Dependency} {e : Entry} {v : ℕ} (q : Query) (D : Database) (t : List ℕ) → Forced ds q.rows (variable v) e
    → Obeys ds D → Answer D q t ↔ Answer D (map_query (substitute v e) q) t
replace-answers {e} {v} q D t f obeys = (
  λ a.
      let value = value_of itself a.0 in
      let equal = forced-value a.0 q D t f obeys a.1 in (
        a.0,
        carries-changed
            itself
            a.0
            (substitute v e)
            q
            D
            t
            (λ x. ⊎_elim (λ c. ap value c.1 ∙ sym equal ∙ ap value (sym c.0)) (λ c. ap value c.1) (substitute-cases v e x))
            a.1,
      ),
  λ a. (
    λ w. value_of itself a.0 (substitute v e (variable w)),
    carries-compose
        itself
        a.0
        (λ w. substitute v e (variable w))
        q
        (map_query (substitute v e) q)
        D
        t
        (replace-carries v e q (some-map_query (substitute v e) q a.1.not-never))
        a.1,
  ),
)

-- After a clash there are none
pub clash-answers : {ds : List Dependency} {m n : ℕ} (q : Query) (D : Database) (t : List ℕ) → Forced ds q.rows (constant m) (constant n) → m ≢ n
    → Obeys ds D → Answer D q t → ⊥
clash-answers q D t f other obeys a = other (forced-value a.0 q D t f obeys a.1)

-- A variable that is forced and the entry that is forced on it are the query's
pub forced-known : {ds : List Dependency} {v : ℕ} {y : Entry} (q : Query) → Forced ds q.rows (variable v) y → v ∈ variables q
forced-known {v} q f =
    mem-variables_of v (q.head ++ row_entries q.rows) (Memᴰ.append_right q.head (forced-variable f))

pub forced-known-second : {ds : List Dependency} {x e : Entry} (q : Query) → Forced ds q.rows x e → (w : ℕ) → e ≡ variable w → w ∈ variables q
forced-known-second q f w is = forced-known q (rw is at (forced-swap f))

-- A replacement takes away exactly one variable
pub forced-count : {ds : List Dependency} {e : Entry} {v : ℕ} (q : Query) → Forced ds q.rows (variable v) e → e ≢ variable v
    → suc (variable_count (map_query (substitute v e) q)) ≡ variable_count q
forced-count {e} {v} q f other = replace-count v e q (forced-known q f) other (forced-known-second q f)

-- and brings none
pub forced-variables : {ds : List Dependency} {e : Entry} {v : ℕ} (q : Query) → Forced ds q.rows (variable v) e
    → (w : ℕ) → w ∈ variables (map_query (substitute v e) q) → w ∈ variables q
forced-variables {e} {v} q f w at =
    let es = q.head ++ row_entries q.rows in
    let after = (map_query (substitute v e) q).head ++ row_entries (map_query (substitute v e) q).rows in
    ⊎_elim
    (λ c. forced-known-second q f w (sym c.0))
    (λ c. mem-variables_of w es c.1)
    (substitute-mem v e (variable w) es (rw (entries-map (substitute v e) q) at (variables_of-mem w after at)))

-- What holds of each entry of a query holds after a replacement. The entry that comes stands in the rows, if these fit a schema; otherwise it may be the constant 0
-- that stands in for a missing column
pub forced-entries : {ds : List Dependency} {e : Entry} {v : ℕ} (P : Entry → Type 0) (q : Query) → Forced ds q.rows (variable v) e → e ≢ variable v
    → P (constant 0) ⊎ ((widths : List ℕ) × RowsFit widths q) → EachEntry P q → EachEntry P (map_query (substitute v e) q)
forced-entries {e} {v} P q f other default all x at =
    ⊎_elim
    (λ c. subst P (sym c.0) (comes default))
    (λ c. all x c.1)
    (substitute-mem v e x (q.head ++ row_entries q.rows) (rw (entries-map (substitute v e) q) at at))
  where
    there : e ∈ row_entries q.rows → P e
    there at = all e (Memᴰ.append_right q.head at)

    comes : P (constant 0) ⊎ ((widths : List ℕ) × RowsFit widths q) → P e
    comes (inl holds) = ⊎_elim (λ is. subst P (sym is) holds) there (forced-entry (forced-swap f))
    comes (inr fit) = there (forced-there fit.0 fit.1 f (λ same. other (sym same)))

-- A change of entries keeps the rows' relations and widths
pub map_query-rows-fit : (widths : List ℕ) (f : Entry → Entry) (q : Query) → ((r : Row Entry) → r ∈ q.rows → FitsSchema widths r)
    → (r : Row Entry) → r ∈ (map_query f q).rows → FitsSchema widths r
map_query-rows-fit widths f q fit r at =
    let from = Memᴰ.of_map (map_row f) q.rows at in
    let fits = fit from.0 from.1 in
    rw (← from.2) (fits.0, length-map from.0.values f ∙ fits.1)

-- A replacement keeps each head variable in a row
pub replace-head-safe : (v : ℕ) (e : Entry) (q : Query) → ((w : ℕ) → w ∈ variables_of q.head → w ∈ variables_of (row_entries q.rows))
    → (w : ℕ) → w ∈ variables_of (map_query (substitute v e) q).head → w ∈ variables_of (row_entries (map_query (substitute v e) q).rows)
replace-head-safe v e q safe w at =
    let s = substitute v e in
    let from = Memᴰ.of_map s q.head (variables_of-mem w (map s q.head) at) in
    rw
    (row_entries-map s q.rows)
    (mem-variables_of w (map s (row_entries q.rows)) (Memᴰ.cast (sym from.2) (Memᴰ.map s (kept from.0 from.1 from.2))))
  where
    kept : (x : Entry) → x ∈ q.head → substitute v e x ≡ variable w → x ∈ row_entries q.rows
    kept (constant n) there is = absurd (constant-variable n w (sym (substitute-constant v e n) ∙ is))
    kept (variable u) there is = variables_of-mem u (row_entries q.rows) (safe u (mem-variables_of u q.head there))

-- The count falls by one with each replacement
pub step_count : (ds : List Dependency) (q : Query) (v : ℕ) (e : Entry) → step ds q ≡ some (replace v e)
    → suc (variable_count (map_query (substitute v e) q)) ≡ variable_count q
step_count ds q v e is = let f = step-replace ds q v e is in forced-count q f.0 f.1
