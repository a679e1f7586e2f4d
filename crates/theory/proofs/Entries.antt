-- Laws of entries, of the variables in a list of entries or in rows, and of the substitution of an entry for a variable.
-- The last law is the chase's measure: a substitution takes away exactly one variable.
-- Assumes nothing.
use mathlib.Core.Path.{◌≡◌, refl, sym, ◌∙◌, ap, fun_ext}
use mathlib.Core.Logic.{◌≢◌, ◌⊎◌, inl, inr, ⊎_elim}
use mathlib.Core.Bool.{true, false, true≢false, false≢true}
use mathlib.Core.List.Memᴰ
use mathlib.Core.List.{List, [], ◌∷◌, ◌++◌, map}
use mathlib.Core.List.{map-append}
use Prim.Native.Nat.{ℕ, suc}
use native.Mathlib.Omega.{arith}
use borrow.Author.Tests.{eqb-true, eqb-false, eq-eqb}
use lib.Dec.{eqb}
use lib.ListN.{length}
use Rattle.theory.specs.Query.{Entry, constant, variable, Row, Query, same_entry, column, map_row, map_query, row_entries, variables_of, variables}
use Rattle.theory.specs.Query.{distinct, variable_count, ◌∈◌}
use Rattle.theory.specs.Answer.{value_of}
use Rattle.theory.specs.Chase.{substitute}
use Rattle.theory.proofs.Lists.{bool_cases, mem-cases, get_or-mem, nodup-length, mem-distinct, distinct-mem, distinct-nodup}

-- ---- entries

-- `same_entry` is equality
pub same_entry-eq : (x y : Entry) → same_entry x y ≡ true → x ≡ y
unfolding same_entry
same_entry-eq (constant m) (constant n) e = ap constant (eqb-true m n e)
same_entry-eq (constant m) (variable w) e = absurd (false≢true e)
same_entry-eq (variable v) (constant n) e = absurd (false≢true e)
same_entry-eq (variable v) (variable w) e = ap variable (eqb-true v w e)

pub same_entry-refl : (x : Entry) → same_entry x x ≡ true
unfolding same_entry
same_entry-refl (constant n) = eq-eqb n n refl
same_entry-refl (variable v) = eq-eqb v v refl

pub eq-same_entry : (x y : Entry) → x ≡ y → same_entry x y ≡ true
eq-same_entry x y e = rw e (same_entry-refl y)

pub same_entry-ne : (x y : Entry) → same_entry x y ≡ false → x ≢ y
same_entry-ne x y e same = true≢false (sym (eq-same_entry x y same) ∙ e)

pub ne-same_entry : (x y : Entry) → x ≢ y → same_entry x y ≡ false
ne-same_entry x y other = bool_cases (same_entry x y) (λ p. absurd (other (same_entry-eq x y p))) (λ p. p)

-- Two entries are equal or not
pub entry-dec : (x y : Entry) → (x ≡ y) ⊎ (x ≢ y)
entry-dec x y = bool_cases (same_entry x y) (λ p. inl (same_entry-eq x y p)) (λ p. inr (same_entry-ne x y p))

-- Equal variables have equal numbers, and so have equal constants
pub variable-same : {v w : ℕ} → variable v ≡ variable w → v ≡ w
variable-same e = cc

pub constant-same : {m n : ℕ} → constant m ≡ constant n → m ≡ n
constant-same e = cc

-- A constant is no variable
pub constant-variable : (n v : ℕ) → constant n ≢ variable v
constant-variable n v e = let z : ◌≡◌ {A = ℕ} 0 1 = cc in omega arith

-- ---- variables

-- The variables among some entries
pub variables_of-mem : (v : ℕ) (es : List Entry) → v ∈ variables_of es → variable v ∈ es
unfolding variables_of
variables_of-mem v [] at = absurd (Memᴰ.not-nil at)
variables_of-mem v (constant n ∷ es) at = Memᴰ.tail (variables_of-mem v es at)
variables_of-mem v (variable w ∷ es) at =
    mem-cases at (λ here. Memᴰ.head (ap variable here)) (λ later. Memᴰ.tail (variables_of-mem v es later))

pub mem-variables_of : (v : ℕ) (es : List Entry) → variable v ∈ es → v ∈ variables_of es
unfolding variables_of
mem-variables_of v [] at = absurd (Memᴰ.not-nil at)
mem-variables_of v (constant n ∷ es) at =
    mem-cases at (λ here. absurd (constant-variable n v (sym here))) (λ later. mem-variables_of v es later)
mem-variables_of v (variable w ∷ es) at =
    mem-cases at (λ here. Memᴰ.head (variable-same here)) (λ later. Memᴰ.tail (mem-variables_of v es later))

-- An entry of a row is an entry of the rows
pub row-row_entries : (rows : List (Row Entry)) (r : Row Entry) (e : Entry) → r ∈ rows → e ∈ r.values → e ∈ row_entries rows
unfolding row_entries
row-row_entries [] r e at there = absurd (Memᴰ.not-nil at)
row-row_entries (s ∷ rows) r e at there =
    mem-cases
    at
    (λ here. Memᴰ.append_left {s = s.values} (row_entries rows) (rw (← here) there))
    (λ later. Memᴰ.append_right s.values (row-row_entries rows r e later there))

-- What stands in a column is an entry of the rows, or the constant 0 that stands in
pub column-row_entries : (rows : List (Row Entry)) (r : Row Entry) (c : ℕ) → r ∈ rows
    → (column (constant 0) r c ≡ constant 0) ⊎ (column (constant 0) r c ∈ row_entries rows)
column-row_entries rows r c at = ⊎_elim inl (λ there. inr (row-row_entries rows r (column (constant 0) r c) at there)) (get_or-mem r.values c (constant 0))

-- The entries of mapped rows, and of a mapped query
pub row_entries-map : (f : Entry → Entry) (rows : List (Row Entry)) → row_entries (map (map_row f) rows) ≡ map f (row_entries rows)
unfolding row_entries
row_entries-map f [] = refl
row_entries-map f (r ∷ rows) = ap (λ l. map f r.values ++ l) (row_entries-map f rows) ∙ sym (map-append f r.values (row_entries rows))

pub entries-map : (f : Entry → Entry) (q : Query)
    → (map_query f q).head ++ row_entries (map_query f q).rows ≡ map f (q.head ++ row_entries q.rows)
entries-map f q = ap (λ l. map f q.head ++ l) (row_entries-map f q.rows) ∙ sym (map-append f q.head (row_entries q.rows))

-- What holds of each entry of a query, in the head and in the rows
abbrev pub EachEntry : (Entry → Type 0) → Query → Type 0
EachEntry P q = (x : Entry) → x ∈ q.head ++ row_entries q.rows → P x

-- ---- substitution

-- The variable itself becomes the entry, all else stays
pub substitute-cases : (v : ℕ) (e x : Entry) → ((x ≡ variable v) × (substitute v e x ≡ e)) ⊎ ((x ≢ variable v) × (substitute v e x ≡ x))
unfolding substitute
substitute-cases v e (constant n) = inr (constant-variable n v, refl)
substitute-cases v e (variable w) =
    bool_cases
    (eqb w v)
    (λ p. inl (ap variable (eqb-true w v p), rw p))
    (λ p. inr (λ same. eqb-false w v p (variable-same same), rw p))

pub substitute-constant : (v : ℕ) (e : Entry) (n : ℕ) → substitute v e (constant n) ≡ constant n
unfolding substitute
substitute-constant v e n = refl

-- A substitution is the value of an entry under the assignment that moves the one variable
pub substitute-value_of : (v : ℕ) (e : Entry) → value_of constant (λ w. substitute v e (variable w)) ≡ substitute v e
unfolding substitute
substitute-value_of v e = fun_ext go
  where
    go : (x : Entry) → value_of constant (λ w. substitute v e (variable w)) x ≡ substitute v e x
    go (constant n) = refl
    go (variable w) = refl

-- An entry after a substitution: the new one, where the variable was, or another than the variable that was there
pub substitute-mem : (v : ℕ) (e y : Entry) (es : List Entry) → y ∈ map (substitute v e) es
    → ((y ≡ e) × (variable v ∈ es)) ⊎ ((y ≢ variable v) × (y ∈ es))
substitute-mem v e y es at =
    let from = Memᴰ.of_map (substitute v e) es at in
    ⊎_elim
    (λ c. inl (sym from.2 ∙ c.1, Memᴰ.cast (sym c.0) from.1))
    (λ c. let same : y ≡ from.0 = sym from.2 ∙ c.1 in inr (λ is. c.0 (sym same ∙ is), Memᴰ.cast same from.1))
    (substitute-cases v e from.0)

-- An entry other than the variable stays
pub mem-substitute : (v : ℕ) (e y : Entry) (es : List Entry) → y ∈ es → y ≢ variable v → y ∈ map (substitute v e) es
mem-substitute v e y es at other =
    ⊎_elim (λ c. absurd (other c.0)) (λ c. Memᴰ.cast (sym c.1) (Memᴰ.map (substitute v e) at)) (substitute-cases v e y)

-- A substitution for a variable that is there, by an entry without new variables and other than the variable, takes away exactly one variable
pub substitute-count : (v : ℕ) (e : Entry) (es : List Entry) → variable v ∈ es → e ≢ variable v → ((w : ℕ) → e ≡ variable w → variable w ∈ es)
    → suc (length (distinct (variables_of (map (substitute v e) es)))) ≡ length (distinct (variables_of es))
substitute-count v e es there other known =
    let after = map (substitute v e) es in
    nodup-length
    (v ∷ distinct (variables_of after))
    (distinct (variables_of es)) (
      λ at.
          ⊎_elim
          (λ c. other (sym c.0))
          (λ c. c.0 refl)
          (substitute-mem v e (variable v) es (variables_of-mem v after (distinct-mem v (variables_of after) at))),
      distinct-nodup (variables_of after),
    )
    (distinct-nodup (variables_of es))
    (λ w at.
    mem-distinct
    w
    (variables_of es)
    (mem-variables_of
    w
    es
    (mem-cases
    at
    (λ here. Memᴰ.cast (ap variable here) there)
    (λ later.
    ⊎_elim
    (λ c. known w (sym c.0))
    (λ c. c.1)
    (substitute-mem v e (variable w) es (variables_of-mem w after (distinct-mem w (variables_of after) later)))))))
    (λ w at.
    let was = variables_of-mem w es (distinct-mem w (variables_of es) at) in
    ⊎_elim
    (λ same. Memᴰ.head (variable-same same))
    (λ differs. Memᴰ.tail (mem-distinct w (variables_of after) (mem-variables_of w after (mem-substitute v e (variable w) es was differs))))
    (entry-dec (variable w) (variable v)))

-- and so in a query
pub replace-count : (v : ℕ) (e : Entry) (q : Query) → v ∈ variables q → e ≢ variable v → ((w : ℕ) → e ≡ variable w → w ∈ variables q)
    → suc (variable_count (map_query (substitute v e) q)) ≡ variable_count q
replace-count v e q there other known =
    let es = q.head ++ row_entries q.rows in
    ap (λ l. suc (length (distinct (variables_of l)))) (entries-map (substitute v e) q)
    ∙ substitute-count v e es (variables_of-mem v es there) other (λ w same. variables_of-mem w es (known w same))
