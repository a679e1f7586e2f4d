-- Constants that were renumbered: reading as a function on numbers; databases and queries as they are read; what reading keeps; that answers, the chase and a
-- query read as a database bring no old code.
-- Assumes nothing.
use mathlib.Core.Path.{◌≡◌, refl, sym, ◌∙◌, ap, subst}
use mathlib.Core.Logic.{◌≢◌, ◌⊎◌, ⊎_elim, inl, inr}
use mathlib.Core.Bool.{false, true≢false}
use mathlib.Core.List.Memᴰ
use mathlib.Core.List.{List, [], ◌∷◌, ◌++◌, map, map-id}
use Prim.Native.Nat.{ℕ, suc, ◌+◌, ◌≤◌}
use native.Mathlib.Omega.{arith}
use borrow.Author.Tests.{eq-eqb, eqb-true}
use lib.Dec.{eqb}
use lib.ListN.{length, length-map}
use Rattle.theory.specs.Query.{Entry, constant, variable, Row, Query, map_row, row_entries, variables_of, variables, member, RowsFit, ◌∈◌}
use Rattle.theory.specs.Database.{Database, Dependency}
use Rattle.theory.specs.Answer.{value_of, itself, Answer}
use Rattle.theory.specs.Chase.{Chases}
use Rattle.theory.specs.Containment.{freeze, frozen_rows}
use Rattle.theory.specs.Codes.{CodePair, read_code, read_entry, read_head, read_query, read_database, old_codes, WithoutOld, QueryWithoutOld, CurrentStay}
use Rattle.theory.specs.CodeTheorems.{OldCodesBelow}
use Rattle.theory.proofs.Lists.{bool_cases, list_cases, map-agree, not-mem-member}
use Rattle.theory.proofs.Entries.{EachEntry, constant-variable, constant-same, mem-variables_of, variables_of-mem, row_entries-map, row-row_entries}
use Rattle.theory.proofs.Members.{◌⊆◌, some-of-member, member-of-some, row-of-entry, row_entries-part}
use Rattle.theory.proofs.Carry.{map_row-id}
use Rattle.theory.proofs.Replacement.{map_query-rows-fit}
use Rattle.theory.proofs.Chase.{chases-entries, chases-mapping}

-- ---- 1. codes

-- The first pair of a code counts
read-here : (ps : List CodePair) (p : CodePair) (n : ℕ) → n ≡ p.old → read_code (p ∷ ps) n ≡ p.current
unfolding read_code
read-here ps p n is = rw (eq-eqb n p.old is) refl

read-later : (ps : List CodePair) (p : CodePair) (n : ℕ) → eqb n p.old ≡ false → read_code (p ∷ ps) n ≡ read_code ps n
unfolding read_code
read-later ps p n is = rw is refl

member-later : (ps : List CodePair) (p : CodePair) (n : ℕ) → member n (old_codes (p ∷ ps)) ≡ false
    → (eqb n p.old ≡ false) × (member n (old_codes ps) ≡ false)
unfolding member
member-later ps p n out =
    bool_cases (eqb n p.old) (λ is. absurd (true≢false (rw is at out))) (λ is. (is, rw is at out))

-- A number is no old code and is read as itself, or is read as the current code of a pair
read-cases : (ps : List CodePair) (n : ℕ)
    → ((member n (old_codes ps) ≡ false) × (read_code ps n ≡ n)) ⊎ ((p : CodePair) × (p ∈ ps) × (read_code ps n ≡ p.current))
unfolding read_code member
read-cases [] n = inl (refl, refl)
read-cases (p ∷ ps) n =
    bool_cases (eqb n p.old) (λ is. inr (p, Memᴰ.head refl, rw is refl))
    (λ is.
    ⊎_elim
    (λ same. inl (rw is same.0, rw is same.1))
    (λ found. inr (found.0, Memᴰ.tail found.1, rw is found.2))
    (read-cases ps n))

pub read-is-current : (ps : List CodePair) (n : ℕ) → CurrentStay ps → member (read_code ps n) (old_codes ps) ≡ false
read-is-current ps n stay =
    ⊎_elim
    (λ same. ap (λ m. member m (old_codes ps)) same.1 ∙ same.0)
    (λ found. ap (λ m. member m (old_codes ps)) found.2 ∙ stay found.0 found.1)
    (read-cases ps n)

pub others-stay : (ps : List CodePair) (n : ℕ) → member n (old_codes ps) ≡ false → read_code ps n ≡ n
unfolding read_code
others-stay [] n out = refl
others-stay (p ∷ ps) n out = let later = member-later ps p n out in read-later ps p n later.0 ∙ others-stay ps n later.1

-- Where two numbers differ they differ the other way too
eqb-swapped : (a b : ℕ) → eqb b a ≡ false → eqb a b ≡ false
eqb-swapped a b other = bool_cases (eqb a b) (λ is. absurd (true≢false (sym (eq-eqb b a (sym (eqb-true a b is))) ∙ other))) (λ is. is)

pub read-one-more : (ps : List CodePair) (p : CodePair) (n : ℕ) → member p.old (map (λ q. q.current) ps) ≡ false
    → read_code (ps ++ p ∷ []) n ≡ read_code (p ∷ []) (read_code ps n)
unfolding read_code member
read-one-more [] p n out = refl
read-one-more (q ∷ ps) p n out =
    bool_cases (eqb p.old q.current) (λ is. absurd (true≢false (rw is at out)))
    (λ apart.
    bool_cases (eqb n q.old)
    (λ is. rw is (rw (eqb-swapped q.current p.old apart) refl))
    (λ is. rw is (read-one-more ps p n (rw apart at out))))

pub read-twice : (ps : List CodePair) (n : ℕ) → CurrentStay ps → read_code ps (read_code ps n) ≡ read_code ps n
read-twice ps n stay = others-stay ps (read_code ps n) (read-is-current ps n stay)

pub old-is-read : (before after : List CodePair) (p : CodePair) → member p.old (old_codes before) ≡ false
    → read_code (before ++ p ∷ after) p.old ≡ p.current
old-is-read [] after p out = read-here after p p.old refl
old-is-read (first ∷ before) after p out =
    let later = member-later before first p.old out in
    read-later (before ++ p ∷ after) first p.old later.0 ∙ old-is-read before after p later.1

-- ---- 2. databases

pub database-read : (ps : List CodePair) (D : Database) → CurrentStay ps → WithoutOld ps (read_database ps D)
database-read ps D stay r at n there =
    let row = Memᴰ.of_map (map_row (read_code ps)) D at in
    let value = Memᴰ.of_map (read_code ps) row.0.values (subst (λ (s : Row ℕ). n ∈ s.values) (sym row.2) there) in
    ap (λ m. member m (old_codes ps)) (sym value.2) ∙ read-is-current ps value.0 stay

pub current-database : (ps : List CodePair) (D : Database) → WithoutOld ps D → read_database ps D ≡ D
current-database ps D without =
    map-agree (map_row (read_code ps)) (λ r. r) D
    (λ r at. map_row-id (read_code ps) r (λ n there. others-stay ps n (without r at n there)))
    ∙ map-id D

-- ---- 3. queries

-- No constant among the entries is an old code
abbrev pub NoOld : List CodePair → Entry → Type 0
NoOld ps x = (n : ℕ) → x ≡ constant n → member n (old_codes ps) ≡ false

-- A query has no old code where no entry is one; of never nothing is asked
pub without-each : (ps : List CodePair) (q : Query) → QueryWithoutOld ps q → q.rows ≢ [] → EachEntry (NoOld ps) q
without-each ps q without some x at n is =
    ⊎_elim
    (λ there. without.of-head some n (Memᴰ.cast (sym is) there))
    (λ there. without.of-rows n (Memᴰ.cast (sym is) there))
    (Memᴰ.append_cases q.head at)

pub each-without : (ps : List CodePair) (q : Query) → (q.rows ≢ [] → EachEntry (NoOld ps) q) → QueryWithoutOld ps q
each-without ps q all = record {
  of-head = λ some n at. all some (constant n) (Memᴰ.append_left (row_entries q.rows) at) n refl;
  of-rows = λ n at.
      let from = row-of-entry q.rows at in
      all (some-of-member q.rows from.1) (constant n) (Memᴰ.append_right q.head at) n refl;
}

-- The same head and some of the rows have no old code either
pub current-part : (ps : List CodePair) (q q' : Query) → q'.head ≡ q.head → q'.rows ⊆ q.rows → QueryWithoutOld ps q → QueryWithoutOld ps q'
current-part ps q q' same part without = record {
  of-head = λ some n at.
      let first = member-of-some q'.rows some in
      without.of-head (some-of-member q.rows (part first.0 first.1)) n (subst (λ es. constant n ∈ es) same at);
  of-rows = λ n at. without.of-rows n (row_entries-part part (constant n) at);
}

read-no-old : (ps : List CodePair) → CurrentStay ps → (x : Entry) → NoOld ps (read_entry ps x)
read-no-old ps stay (constant m) n is = ap (λ k. member k (old_codes ps)) (sym (constant-same is)) ∙ read-is-current ps m stay
read-no-old ps stay (variable v) n is = absurd (constant-variable n v (sym is))

no-old-stays : (ps : List CodePair) (x : Entry) → NoOld ps x → read_entry ps x ≡ x
no-old-stays ps (constant n) out = ap constant (others-stay ps n (out n refl))
no-old-stays ps (variable v) out = refl

-- The head of a query with rows
pub read_head-some : (ps : List CodePair) (rows : List (Row Entry)) (head : List Entry) → rows ≢ [] → read_head ps rows head ≡ map (read_entry ps) head
unfolding read_head
read_head-some ps [] head some = absurd (some refl)
read_head-some ps (r ∷ rows) head some = refl

-- and of never
pub read_head-never : (ps : List CodePair) (rows : List (Row Entry)) (head : List Entry) → rows ≡ [] → read_head ps rows head ≡ head
unfolding read_head
read_head-never ps [] head none = refl
read_head-never ps (r ∷ rows) head none = let none' = ap length none in absurd (omega arith)

-- A query that is not never, as it is read
pub read-some : (ps : List CodePair) (q : Query) → (read_query ps q).rows ≢ [] → q.rows ≢ []
read-some ps q some none = some (ap (map (map_row (read_entry ps))) none)

pub query-read : (ps : List CodePair) (q : Query) → CurrentStay ps → QueryWithoutOld ps (read_query ps q)
query-read ps q stay = record {
  of-head = λ some n at.
      of-map n q.head (subst (λ es. constant n ∈ es) (read_head-some ps q.rows q.head (read-some ps q some)) at);
  of-rows = λ n at. of-map n (row_entries q.rows) (subst (λ es. constant n ∈ es) (row_entries-map (read_entry ps) q.rows) at);
}
  where
    of-map : (n : ℕ) (es : List Entry) → constant n ∈ map (read_entry ps) es → member n (old_codes ps) ≡ false
    of-map n es at = let from = Memᴰ.of_map (read_entry ps) es at in read-no-old ps stay from.0 n from.2

pub current-query : (ps : List CodePair) (q : Query) → QueryWithoutOld ps q → read_query ps q ≡ q
current-query ps q without = λ i. record { head = same_head i; rows = same_rows i }
  where
    stays : q.rows ≢ [] → (x : Entry) → x ∈ q.head ++ row_entries q.rows → read_entry ps x ≡ x
    stays some x at = no-old-stays ps x (without-each ps q without some x at)

    same_head : read_head ps q.rows q.head ≡ q.head
    same_head =
        list_cases q.rows (read_head-never ps q.rows q.head)
        (λ some.
        read_head-some ps q.rows q.head some
        ∙ map-agree (read_entry ps) (λ x. x) q.head (λ x at. stays some x (Memᴰ.append_left (row_entries q.rows) at)) ∙ map-id q.head)

    same_rows : map (map_row (read_entry ps)) q.rows ≡ q.rows
    same_rows =
        map-agree (map_row (read_entry ps)) (λ r. r) q.rows
        (λ r at. map_row-id (read_entry ps) r
        (λ x there. stays (some-of-member q.rows at) x (Memᴰ.append_right q.head (row-row_entries q.rows r x at there))))
        ∙ map-id q.rows

-- ---- 4. what reading keeps

-- The variables
variables_of-read : (ps : List CodePair) (es : List Entry) → variables_of (map (read_entry ps) es) ≡ variables_of es
unfolding variables_of
variables_of-read ps [] = refl
variables_of-read ps (constant n ∷ es) = variables_of-read ps es
variables_of-read ps (variable v ∷ es) = ap (λ vs. v ∷ vs) (variables_of-read ps es)

variables_of-append : (ds es : List Entry) → variables_of (ds ++ es) ≡ variables_of ds ++ variables_of es
unfolding variables_of
variables_of-append [] es = refl
variables_of-append (constant n ∷ ds) es = variables_of-append ds es
variables_of-append (variable v ∷ ds) es = ap (λ vs. v ∷ vs) (variables_of-append ds es)

pub read-head-variables : (ps : List CodePair) (q : Query) → variables_of (read_query ps q).head ≡ variables_of q.head
read-head-variables ps q =
    list_cases q.rows
    (λ none. ap variables_of (read_head-never ps q.rows q.head none))
    (λ some. ap variables_of (read_head-some ps q.rows q.head some) ∙ variables_of-read ps q.head)

pub read-row-variables : (ps : List CodePair) (q : Query) → variables_of (row_entries (read_query ps q).rows) ≡ variables_of (row_entries q.rows)
read-row-variables ps q = ap variables_of (row_entries-map (read_entry ps) q.rows) ∙ variables_of-read ps (row_entries q.rows)

pub read-variables : (ps : List CodePair) (q : Query) → variables (read_query ps q) ≡ variables q
read-variables ps q =
    variables_of-append (read_query ps q).head (row_entries (read_query ps q).rows)
    ∙ ap (λ vs. vs ++ variables_of (row_entries (read_query ps q).rows)) (read-head-variables ps q)
    ∙ ap (λ vs. variables_of q.head ++ vs) (read-row-variables ps q)
    ∙ sym (variables_of-append q.head (row_entries q.rows))

-- The rows' fit
pub read-rows-fit : (ps : List CodePair) (widths : List ℕ) (q : Query) → RowsFit widths q → RowsFit widths (read_query ps q)
read-rows-fit ps widths q fit = map_query-rows-fit widths (read_entry ps) q fit

-- The number of rows, and the head's length
pub read-length : (ps : List CodePair) (q : Query) → length (read_query ps q).rows ≡ length q.rows
read-length ps q = length-map q.rows (map_row (read_entry ps))

pub read-head-length : (ps : List CodePair) (q : Query) → length (read_query ps q).head ≡ length q.head
read-head-length ps q =
    list_cases q.rows
    (λ none. ap length (read_head-never ps q.rows q.head none))
    (λ some. ap length (read_head-some ps q.rows q.head some) ∙ length-map q.head (read_entry ps))

-- ---- 5. answers, the chase, and a query read as a database

-- An answer of a query without old codes, whose head's variables stand in its rows, on a database without old codes
pub answer-current : (ps : List CodePair) (D : Database) (q : Query) (t : List ℕ) → WithoutOld ps D → QueryWithoutOld ps q
    → ((v : ℕ) → v ∈ variables_of q.head → v ∈ variables_of (row_entries q.rows))
    → Answer D q t → (n : ℕ) → n ∈ t → member n (old_codes ps) ≡ false
answer-current ps D q t database without safe a n at =
    let from = Memᴰ.of_map (value_of itself a.0) q.head (subst (λ l. n ∈ l) (sym a.1.to-head) at) in
    ap (λ m. member m (old_codes ps)) (sym from.2) ∙ of-entry from.0 from.1
  where
    of-entry : (x : Entry) → x ∈ q.head → member (value_of itself a.0 x) (old_codes ps) ≡ false
    of-entry (constant m) there = without.of-head a.1.not-never m there
    of-entry (variable v) there =
        let row = row-of-entry q.rows (variables_of-mem v (row_entries q.rows) (safe v (mem-variables_of v q.head there))) in
        database (map_row (value_of itself a.0) row.0) (a.1.to-rows row.0 row.1) (a.0 v) (Memᴰ.map (value_of itself a.0) row.2)

-- The chase
pub chases-current : {ds : List Dependency} {q result : Query} {count : ℕ} (ps : List CodePair) (widths : List ℕ) → RowsFit widths q
    → Chases ds q result count → QueryWithoutOld ps q → QueryWithoutOld ps result
chases-current {q} {result} ps widths fit c without =
    each-without ps result
    (λ some. chases-entries (NoOld ps) c (inr ((widths, fit), some)) (without-each ps q without (chases-mapping c some).1.carries.not-never))

-- No variable is read as an old code where these are below the base
pub frozen-current : (ps : List CodePair) (base : ℕ) (q : Query) → OldCodesBelow base ps → QueryWithoutOld ps q → WithoutOld ps (frozen_rows base q)
frozen-current ps base q below without r at n there =
    let row = Memᴰ.of_map (map_row (freeze base)) q.rows at in
    let from = Memᴰ.of_map (freeze base) row.0.values (subst (λ (s : Row ℕ). n ∈ s.values) (sym row.2) there) in
    ap (λ m. member m (old_codes ps)) (sym from.2) ∙ of-entry from.0 (row-row_entries q.rows row.0 from.0 row.1 from.1)
  where
    of-entry : (x : Entry) → x ∈ row_entries q.rows → member (freeze base x) (old_codes ps) ≡ false
    of-entry (constant m) there = without.of-rows m there
    of-entry (variable v) there =
        not-mem-member (base + v) (old_codes ps)
        (λ at. let from = Memᴰ.of_map (λ p. p.old) ps at in let less = below from.0 from.1 in let same = from.2 in omega (arith, less, same))

-- Some base is above the old codes, and any higher one
pub codes-base : (ps : List CodePair) → (base : ℕ) × OldCodesBelow base ps
codes-base [] = (0, λ p at. absurd (Memᴰ.not-nil at))
codes-base (p ∷ ps) =
    let rest = codes-base ps in (
      suc p.old + rest.0,
      above rest.0 rest.1,
    )
  where
    above : (base : ℕ) → OldCodesBelow base ps → OldCodesBelow (suc p.old + base) (p ∷ ps)
    above base below s (Memᴰ.head same) = let is : s.old ≡ p.old = ap (λ t. t.old) same in omega arith
    above base below s (Memᴰ.tail at) = let less = below s at in omega arith

pub codes-below-more : (ps : List CodePair) (base higher : ℕ) → base ≤ higher → OldCodesBelow base ps → OldCodesBelow higher ps
codes-below-more ps base higher more below p at = let less = below p at in omega arith
