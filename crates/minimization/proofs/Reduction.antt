-- Reduction: equal answers and minimality (Chandra and Merlin, "Optimal implementation of conjunctive queries in relational
-- data bases", 1977;
-- with functional dependencies Maier, Mendelzon and Sagiv, "Testing implications of data dependencies", 1979).
--   1. Cores. A core mapped into some of its own rows needs as many of them as it has: otherwise, by the pigeonhole principle, one of its rows could go.
--   2. Answers. A result has the answers of the chased query, since each maps to the other; so those of the source. A mapping leads from the source to it.
--      Two results map to each other, so by 1 they have equally many rows.
--   3. Minimality, over a class of databases that obey, with all parts of the frozen result T. Its head is an answer of T there, so of a rival R, by some α. The
--      α-images of R's rows are a part of the frozen T, so of the class; the head is an answer of R on them alone, so of T, by some β. Thawed, β maps T into as
--      many of its rows as R has. By 1, R has no fewer rows than T. R is not chased, and its constants may be any.
-- 4. What a result keeps. It has at most as many rows as the source, and its variables and constants. A mapping that fixes the head keeps each head
-- variable in a row.
--   5. Losing rows one at a time leads to every result, up to the order of rows.
-- Assumes nothing.
use mathlib.Core.Path.{◌≡◌, refl, sym, ◌∙◌, ap, subst}
use mathlib.Core.Logic.Iff
use mathlib.Core.Logic.{◌≢◌, ◌↔◌, ∥∥₁_elim, ◌⊎◌, inl, inr}
use mathlib.Core.List.Memᴰ
use mathlib.Core.List.{List, [], ◌∷◌, ◌++◌, map}
use Prim.Native.Nat.{ℕ, zero, suc, ◌+◌, ◌≤◌, ◌<◌}
use native.Mathlib.Omega.{arith}
use native.Mathlib.Bridge.{le_prop}
use native.Mathlib.Decide.{dec_le}
use lib.ListN.{length, length-map}
use Rattle.theory.specs.Query.{Entry, constant, variable, Row, Query, map_row, row_entries, variables_of, FitsSchema, WellFormed, ◌∈◌, without}
use Rattle.theory.specs.Database.{Database, Dependency, Obeys, Legal}
use Rattle.theory.specs.Answer.{value_of, itself, Carries, Answer, Mapping}
use Rattle.theory.specs.Chase.{chase}
use Rattle.theory.specs.Containment.{freeze, frozen_rows, frozen_head, ConstantsBelow}
use Rattle.theory.specs.Codes.{CodePair, read_query, QueryWithoutOld, LegalAsRead}
use Rattle.minimization.specs.Reduction.{drop_row, Core, Reduction, Shrinks, stays, loses, Reordered, Minimal, MinimalAsRead, Equivalent, Rival}
use Rattle.theory.proofs.Lists.{Nodup, without-length, nodup-length-le, list_cases, map-fixes}
use Rattle.theory.proofs.Entries.{constant-variable, variables_of-mem, mem-variables_of, row-row_entries}
use Rattle.theory.proofs.Members.{◌⊆◌, map-part, some-of-member, member-of-some, row-of-entry, row_entries-part}
use Rattle.minimization.proofs.Without.{without-part, without-cases, pigeonhole, nodup-of, nodup-fills}
use Rattle.theory.proofs.Carry.{carries-fewer, mapping-of, mapping-compose, mapping-self, mapping-part, mapping-inclusion, mapping-target}
use Rattle.theory.proofs.Chase.{chase-answers, chase-mapping, chase-obeys, chase-rows-fit, chase-wellformed, chase-head-length}
use Rattle.theory.proofs.Chase.{chase-chases, chase-length-le}
use Rattle.theory.proofs.Containment.{answer-along, frozen-answer, frozen-sound, thaw, thaw-rows, thaw-head, thaw-carries}
use Rattle.theory.proofs.Codes.{current-part, chases-current, codes-base, codes-below-more, frozen-current, read-length}

-- ---- 1. Cores

-- A core has no repeated row: the identity would map it into itself without one of the two
pub core-repeats : (T : Query) → Core T → (r : Row Entry) (at : r ∈ T.rows) → r ∈ without T.rows at → ⊥
core-repeats T core r at again =
    core r at (mapping-inclusion T (drop_row T at) (some-of-member T.rows at) refl (λ s there. left s (without-cases T.rows at there)))
  where
    left : (s : Row Entry) → (s ≡ r) ⊎ (s ∈ without T.rows at) → s ∈ without T.rows at
    left s (inl same) = Memᴰ.cast same again
    left s (inr rest) = rest

pub core-nodup : (T : Query) → Core T → Nodup T.rows
core-nodup T core = nodup-of T.rows (core-repeats T core)

-- A core that maps to a query with its head and some of its rows has no more rows than that
pub core-least : (T P : Query) → Core T → P.head ≡ T.head → P.rows ⊆ T.rows → Mapping T P → length T.rows ≤ length P.rows
core-least T P core same part f = go (dec_le (length T.rows) (length P.rows))
  where
    go : Dec (length T.rows ≤ length P.rows) → length T.rows ≤ length P.rows
    go (yes small) = small
    go (no large) =
        let found = pigeonhole P.rows T.rows part (omega arith) in
        absurd (core found.0 found.1
        (mapping-part T T P (drop_row T found.1) refl f.1.carries.not-never (λ r at. at) (sym same) found.2 f))

-- A core that maps to U and back has no more rows than U
pub core-both-ways : (T U : Query) → Core T → Mapping T U → Mapping U T → length T.rows ≤ length U.rows
core-both-ways T U core f g =
    let P : Query = record { head = T.head; rows = map (map_row (value_of constant g.0)) U.rows } in
    let onto : Mapping U P = mapping-of U P g.0 (record
    { not-never = g.1.carries.not-never; to-head = g.1.carries.to-head; to-rows = λ r at. Memᴰ.map (map_row (value_of constant g.0)) at }) in
    let part : P.rows ⊆ T.rows = λ s at.
    let found = Memᴰ.of_map (map_row (value_of constant g.0)) U.rows at in Memᴰ.cast (sym found.2) (g.1.carries.to-rows found.0 found.1) in
    let small : length T.rows ≤ length P.rows = core-least T P core refl part (mapping-compose T U P f onto) in
    omega (arith, small, length-map U.rows (map_row (value_of constant g.0)))

-- The order of rows does not matter to a core
pub core-reordered : (T U : Query) → Reordered T U → Core T → Core U
core-reordered T U order core r at f =
    let inclusion : Mapping T U = mapping-inclusion T U (some-of-member T.rows (order.back r at)) order.head order.into in
    let small : length T.rows ≤ length (without U.rows at) =
    core-least T (drop_row U at) core order.head (λ s there. order.back s (without-part U.rows at s there))
    (mapping-compose T U (drop_row U at) inclusion f) in
    omega (arith, small, without-length U.rows at, order.size)

-- ---- 2. Answers

module _ (ds : List Dependency) (S T : Query) (result : Reduction ds S T) where
  -- A result has rows where the chased query has,
  pub reduction-some : (chase ds S).query.rows ≢ [] → T.rows ≢ []
  reduction-some some = mapping-target (chase ds S).query T (result.receives some)

  -- and only there
  pub reduction-some-chased : T.rows ≢ [] → (chase ds S).query.rows ≢ []
  reduction-some-chased some =
      let first = member-of-some T.rows some in
      some-of-member (chase ds S).query.rows (result.rows first.0 first.1)

  -- On every database that obeys, sound or not, a result has exactly the answers of the source query
  pub reduction-answers : (D : Database) → Obeys ds D → (t : List ℕ) → Answer D S t ↔ Answer D T t
  reduction-answers D obeys t = (λ answer. to ((chase-answers ds S D obeys t).0 answer), λ answer. (chase-answers ds S D obeys t).1 (from answer))
    where
      to : Answer D (chase ds S).query t → Answer D T t
      to answer = (
        answer.0,
        carries-fewer itself answer.0 (chase ds S).query T D t result.head (reduction-some answer.1.not-never) result.rows
            answer.1,
      )

      from : Answer D T t → Answer D (chase ds S).query t
      from answer = answer-along D (chase ds S).query T (result.receives (reduction-some-chased answer.1.not-never)) t answer

  -- so the two have the same answers over any class of such databases
  pub reduction-equivalent : (C : Database → Type 0) → ((D : Database) → C D → Obeys ds D) → Equivalent C S T
  reduction-equivalent C obeying D within t = Iff.trunc (reduction-answers D (obeying D within) t)

  -- Unless the result is never, there is a mapping from the source query to it
  pub reduction-mapping : T.rows ≢ [] → Mapping S T
  reduction-mapping some =
      let chased = reduction-some-chased some in
      mapping-compose S (chase ds S).query T (chase-mapping ds S chased) (result.receives chased)

  -- A result has no rows exactly when the chased query has none, and then it is the chased query
  pub reduction-never : ((T.rows ≡ []) ↔ ((chase ds S).query.rows ≡ [])) × (T.rows ≡ [] → T ≡ (chase ds S).query)
  reduction-never =
      ((chased-none, result-none), λ none. λ i. record { head = result.head i; rows = (none ∙ sym (chased-none none)) i })
    where
      chased-none : T.rows ≡ [] → (chase ds S).query.rows ≡ []
      chased-none none = list_cases (chase ds S).query.rows (λ empty. empty) (λ some. absurd (reduction-some some none))

      result-none : (chase ds S).query.rows ≡ [] → T.rows ≡ []
      result-none none = list_cases T.rows (λ empty. empty) (λ some. absurd (reduction-some-chased some none))

  -- A result has the head length of its source
  pub reduction-head-length : length T.head ≡ length S.head
  reduction-head-length = ap length result.head ∙ chase-head-length ds S

  -- It is a rival of it
  pub reduction-rival : (C : Database → Type 0) → ((D : Database) → C D → Obeys ds D) → Rival C S T
  reduction-rival C obeying = record { width = reduction-head-length; same = reduction-equivalent C obeying }

-- Two results of one query have equally many rows
pub reduction-same-size : (ds : List Dependency) (S T U : Query) → Reduction ds S T → Reduction ds S U → length T.rows ≡ length U.rows
reduction-same-size ds S T U t u = let a = small T U t u in let b = small U T u t in omega arith
  where
    across : (T U : Query) → Reduction ds S T → Reduction ds S U → T.rows ≢ [] → Mapping T U
    across T U t u some =
        mapping-part (chase ds S).query T U U t.head some t.rows refl (λ r at. at) (u.receives (reduction-some-chased ds S T t some))

    small : (T U : Query) → Reduction ds S T → Reduction ds S U → length T.rows ≤ length U.rows
    small T U t u =
        list_cases T.rows (λ none. omega (arith, ap length none)) (λ some.
        core-both-ways T U t.core (across T U t u some) (across U T u t (reduction-some ds S U u (reduction-some-chased ds S T t some))))

-- ---- 3. Minimality

-- A number above 0 and above each constant among some entries
above : List Entry → ℕ
above [] = suc zero
above (constant n ∷ es) = suc n + above es
above (variable v ∷ es) = above es

above-constant : (es : List Entry) (n : ℕ) → constant n ∈ es → n < above es
unfolding above
above-constant [] n x' = elim x' [ ]
above-constant (constant m ∷ es) n (Memᴰ.head same) = let equal : n ≡ m = cc in omega arith
above-constant (constant m ∷ es) n (Memᴰ.tail at) = let later = above-constant es n at in omega arith
above-constant (variable v ∷ es) n (Memᴰ.head same) = absurd (constant-variable n v same)
above-constant (variable v ∷ es) n (Memᴰ.tail at) = above-constant es n at

above-positive : (es : List Entry) → 0 < above es
unfolding above
above-positive [] = omega arith
above-positive (constant n ∷ es) = omega arith
above-positive (variable v ∷ es) = above-positive es

-- Some base is above 0 and above the constants of a query
pub some-base : (q : Query) → (base : ℕ) × 0 < base × ConstantsBelow base q
some-base q =
    let entries = q.head ++ row_entries q.rows in
    let below : ConstantsBelow (above entries) q = record {
      of-head = λ n at. above-constant entries n (Memᴰ.append_left (row_entries q.rows) at);
      of-rows = λ n at. above-constant entries n (Memᴰ.append_right q.head at);
    } in
    (above entries, above-positive entries, below)

-- What is below a base is below a higher one
pub below_more : (base higher : ℕ) (q : Query) → base ≤ higher → ConstantsBelow base q → ConstantsBelow higher q
below_more base higher q more below = record {
  of-head = λ n at. let less = below.of-head n at in omega arith;
  of-rows = λ n at. let less = below.of-rows n at in omega arith;
}

-- A part of a legal database is legal
legal-part : (widths : List ℕ) (ds : List Dependency) (D E : Database) → E ⊆ D → Legal widths ds D → Legal widths ds E
legal-part widths ds D E part legal = record {
  sound = λ r at. legal.sound r (part r at);
  obeys = λ d held r s at_r at_s. legal.obeys d held r s (part r at_r) (part s at_s);
}

-- The same head and fewer rows have no new constants
below-part : (base : ℕ) (q q' : Query) → q'.head ≡ q.head → q'.rows ⊆ q.rows → ConstantsBelow base q → ConstantsBelow base q'
below-part base q q' same part below = record {
  of-head = λ n at. below.of-head n (subst (λ es. constant n ∈ es) same at);
  of-rows = λ n at. below.of-rows n (row_entries-part part (constant n) at);
}

-- The images of a query's rows under an assignment
abbrev images : (ℕ → ℕ) → Query → Database
images assign R = map (map_row (value_of itself assign)) R.rows

-- A rival R has the frozen head of T as an answer on the frozen T, by an assignment α
module _ (T R : Query) (base : ℕ) (rival : Answer (frozen_rows base T) R (frozen_head base T)) where
  -- The α-images of its rows are a part of the frozen T,
  images-part : images rival.0 R ⊆ frozen_rows base T
  images-part r at =
      let found = Memᴰ.of_map (map_row (value_of itself rival.0)) R.rows at in
      Memᴰ.cast (sym found.2) (rival.1.to-rows found.0 found.1)

  -- R still has that answer there,
  images-answer : Answer (images rival.0 R) R (frozen_head base T)
  images-answer =
      (rival.0, record { not-never = rival.1.not-never; to-head = rival.1.to-head; to-rows = λ r at. Memᴰ.map (map_row (value_of itself rival.0)) at })

  -- and if T has it there too, by β, then β, thawed, maps T into as many of its rows as R has
  images-length : ConstantsBelow base T → Core T → Answer (images rival.0 R) T (frozen_head base T) → length T.rows ≤ length R.rows
  images-length below core again =
      let P : Query = record { head = T.head; rows = map (map_row (thaw base)) (images rival.0 R) } in
      let part : P.rows ⊆ T.rows = λ s at. subst (λ rows. s ∈ rows) (thaw-rows base T below) (map-part (map_row (thaw base)) images-part s at) in
      let onto : Mapping T P =
      mapping-of T P (λ v. thaw base (again.0 v))
      (subst (λ head. Carries constant (λ v. thaw base (again.0 v)) T P.rows head) (thaw-head base T below)
      (thaw-carries base T below again.0 (images rival.0 R) (frozen_head base T) again.1)) in
      let small : length T.rows ≤ length P.rows = core-least T P core refl part onto in
      omega (arith, small, length-map (images rival.0 R) (map_row (thaw base)), length-map R.rows (map_row (value_of itself rival.0)))

-- If on every database of a class R has exactly the answers of T, and T is a core of which all parts of the frozen rows are of the class, then R has at least as
-- many rows as T. The conclusion is a proposition, so α and β may be taken from the truncations
core-minimal : (C : Database → Type 0) (T R : Query) (base : ℕ) → ConstantsBelow base T → Core T
    → ((D : Database) → D ⊆ frozen_rows base T → C D) → Equivalent C T R → T.rows ≢ [] → length T.rows ≤ length R.rows
core-minimal C T R base below core parts same some =
    ∥∥₁_elim ((same (frozen_rows base T) (parts (frozen_rows base T) (λ r at. at)) (frozen_head base T)).0 ∣ frozen-answer base T some ∣₁) le_prop (λ rival.
    ∥∥₁_elim
    ((same (images rival.0 R) (parts (images rival.0 R) (images-part T R base rival)) (frozen_head base T)).1 ∣ images-answer T R base rival ∣₁)
    le_prop (images-length T R base rival below core))

-- So with a result of reduction, over a class of databases that obey: every query with the source's answers on all of them has at least as many rows, whatever
-- its variables and constants
pub reduction-minimal-over : (C : Database → Type 0) (ds : List Dependency) (S T : Query) (base : ℕ) → ((D : Database) → C D → Obeys ds D)
    → ConstantsBelow base T → ((D : Database) → D ⊆ frozen_rows base T → C D) → Reduction ds S T → Minimal C S T
reduction-minimal-over C ds S T base obeying below parts result R rival =
    list_cases T.rows (λ none. omega (arith, ap length none)) (core-minimal C T R base below result.core parts same)
  where
    same : Equivalent C T R
    same D within t = Iff.trans (Iff.symm (reduction-equivalent ds S T result C obeying D within t)) (rival.same D within t)

module _ (widths : List ℕ) (ds : List Dependency) (S T : Query) (fit : (r : Row Entry) → r ∈ S.rows → FitsSchema widths r) (result : Reduction ds S T) where
  -- The constants of a result are the chased query's
  below-result : (base : ℕ) → ConstantsBelow base (chase ds S).query → ConstantsBelow base T
  below-result base = below-part base (chase ds S).query T result.head result.rows

  -- All parts of the frozen rows of a result are legal
  result-legal : (base : ℕ) → 0 < base → ConstantsBelow base (chase ds S).query → (D : Database) → D ⊆ frozen_rows base T → Legal widths ds D
  result-legal base positive below D part =
      legal-part widths ds (frozen_rows base (chase ds S).query) D
      (λ r at. map-part (map_row (freeze base)) result.rows r (part r at))
      (record {
        sound = frozen-sound widths base (chase ds S).query (chase-rows-fit widths ds S fit);
        obeys = chase-obeys ds S base positive below;
      })

  -- so a result is minimal over the legal databases
  pub reduction-minimal : Minimal (Legal widths ds) S T
  reduction-minimal =
      let base = some-base (chase ds S).query in
      reduction-minimal-over (Legal widths ds) ds S T base.0 (λ D legal. legal.obeys) (below-result base.0 base.2) (result-legal base.0 base.1 base.2) result

  -- A result of a query without old codes has none
  pub result-current : (ps : List CodePair) → QueryWithoutOld ps S → QueryWithoutOld ps T
  result-current ps without =
      current-part ps (chase ds S).query T result.head result.rows (chases-current ps widths fit (chase-chases ds S) without)

  -- and is minimal over the legal databases without old codes, with a base above these too
  pub reduction-minimal-current : (ps : List CodePair) → QueryWithoutOld ps S → Minimal (LegalAsRead ps widths ds) S T
  reduction-minimal-current ps without =
      let first = some-base (chase ds S).query in
      let second = codes-base ps in
      let base = first.0 + second.0 in
      let below = below_more first.0 base (chase ds S).query (omega arith) first.2 in
      let frozen = frozen-current ps base T (codes-below-more ps second.0 base (omega arith) second.1) (result-current ps without) in
      reduction-minimal-over (LegalAsRead ps widths ds) ds S T base (λ D within. within.legal.obeys) (below-result base below)
      (λ D part. record {
        legal = result-legal base (omega (arith, first.1)) below D part;
        current = λ r at. frozen r (part r at);
      })
      result

-- A query has as many rows as it is read with, so what is minimal is so as it is read
pub minimal-as-read : (ps : List CodePair) (C : Database → Type 0) (S T : Query) → Minimal C S T → MinimalAsRead ps C S T
minimal-as-read ps C S T minimal R rival = omega (arith, minimal (read_query ps R) rival, read-length ps R)

-- ---- 4. What a result keeps

module _ (ds : List Dependency) (S T : Query) (result : Reduction ds S T) where
  -- A result has at most as many rows as its source
  pub reduction-length : length T.rows ≤ length S.rows
  reduction-length =
      let some-rows = nodup-length-le T.rows (chase ds S).query.rows (core-nodup T result.core) result.rows in
      omega (arith, some-rows, chase-length-le ds S)

-- A result of a well-formed query is well-formed
pub reduction-wellformed : (widths : List ℕ) (ds : List Dependency) (S T : Query) → WellFormed widths S → Reduction ds S T → WellFormed widths T
reduction-wellformed widths ds S T well result = record { rows_fit = λ r at. chased.rows_fit r (result.rows r at); head-safe = safe }
  where
    chased : WellFormed widths (chase ds S).query
    chased = chase-wellformed widths ds S well

    safe : (v : ℕ) → v ∈ variables_of T.head → v ∈ variables_of (row_entries T.rows)
    safe v at =
        let in_head : variable v ∈ (chase ds S).query.head = subst (λ es. variable v ∈ es) result.head (variables_of-mem v T.head at) in
        let in_row = chased.head-safe v (mem-variables_of v (chase ds S).query.head in_head) in
        let found = row-of-entry (chase ds S).query.rows (variables_of-mem v (row_entries (chase ds S).query.rows) in_row) in
        let f = result.receives (some-of-member (chase ds S).query.rows found.1) in
        let fixed : value_of constant f.0 (variable v) ≡ variable v =
        map-fixes (value_of constant f.0) (chase ds S).query.head (f.1.carries.to-head ∙ result.head) (variable v) in_head in
        mem-variables_of v (row_entries T.rows)
        (row-row_entries T.rows (map_row (value_of constant f.0) found.0) (variable v) (f.1.carries.to-rows found.0 found.1)
        (Memᴰ.cast (sym fixed) (Memᴰ.map (value_of constant f.0) found.2)))

-- ---- 5. Losing rows one at a time

-- The order of rows does not matter to a result
pub reduction-reordered : (ds : List Dependency) (S T U : Query) → Reordered T U → Reduction ds S T → Reduction ds S U
reduction-reordered ds S T U order result = record {
  head = order.head ∙ result.head;
  rows = λ r at. result.rows r (order.back r at);
  receives = λ some. mapping-part (chase ds S).query (chase ds S).query T U refl some (λ r at. at) order.head order.into (result.receives some);
  core = core-reordered T U order result.core;
}

-- What a query comes to by losing rows has its head and some of its rows, receives a mapping from it and is a core
pub shrinks-head : {q T : Query} → Shrinks q T → T.head ≡ q.head
shrinks-head (stays core) = refl
shrinks-head (loses at f later) = shrinks-head later

pub shrinks-rows : {q T : Query} → Shrinks q T → T.rows ⊆ q.rows
shrinks-rows (stays core) = λ r at. at
shrinks-rows (loses {q = q} at f later) = λ r there. without-part q.rows at r (shrinks-rows later r there)

pub shrinks-mapping : {q T : Query} → Shrinks q T → q.rows ≢ [] → Mapping q T
shrinks-mapping (stays {q = q} core) some = mapping-self q some
shrinks-mapping (loses {q = q} {T = T} at f later) some = mapping-compose q (drop_row q at) T f (shrinks-mapping later (mapping-target q (drop_row q at) f))

pub shrinks-core : {q T : Query} → Shrinks q T → Core T
shrinks-core (stays core) = core
shrinks-core (loses at f later) = shrinks-core later

-- So it is a result of reduction, where the query is chased
pub shrinks-reduction : (ds : List Dependency) (S T : Query) → Shrinks (chase ds S).query T → Reduction ds S T
shrinks-reduction ds S T shrinks = record
    { head = shrinks-head shrinks; rows = shrinks-rows shrinks; receives = shrinks-mapping shrinks; core = shrinks-core shrinks }

-- T' is what U comes to, up to the order of rows T
abbrev ShrinksTo : Query → Query → Type 0
ShrinksTo U T = (T' : Query) × Shrinks U T' × Reordered T T'

-- A query with no more rows than the core that it includes is that core
shrinks-end : (T U : Query) → Core T → T.head ≡ U.head → T.rows ⊆ U.rows → length U.rows ≤ length T.rows → ShrinksTo U T
shrinks-end T U core same part short = (U, stays (core-reordered T U order core), order)
  where
    once : Nodup T.rows
    once = core-nodup T core

    order : Reordered T U
    order = record {
      head = sym same;
      into = part;
      back = nodup-fills T.rows U.rows once part short;
      size = let long = nodup-length-le T.rows U.rows once part in omega arith;
    }

-- A query that includes a core and maps to it comes to that core
shrinks-to : (n : ℕ) (T U : Query) → Core T → T.head ≡ U.head → T.rows ⊆ U.rows → (U.rows ≢ [] → Mapping U T) → length U.rows ≤ n + length T.rows
    → ShrinksTo U T
shrinks-to zero T U core same part f short = shrinks-end T U core same part (omega arith)
shrinks-to (suc n) T U core same part f short = go (dec_le (length U.rows) (length T.rows)) (λ U'. shrinks-to n T U' core)
  where
    go : Dec (length U.rows ≤ length T.rows)
        → ((U' : Query) → T.head ≡ U'.head → T.rows ⊆ U'.rows → (U'.rows ≢ [] → Mapping U' T) → length U'.rows ≤ n + length T.rows → ShrinksTo U' T)
        → ShrinksTo U T
    go (yes small) later = shrinks-end T U core same part small
    go (no large) later =
        let some : U.rows ≢ [] = λ none. let length_none = ap length none in omega arith in
        let found = pigeonhole T.rows U.rows part (omega arith) in
        let U' : Query = drop_row U found.1 in
        let rest = later U' same found.2
        (λ some'. mapping-part U U' T T refl some' (without-part U.rows found.1) refl (λ r at. at) (f some))
        (omega (arith, without-length U.rows found.1)) in
        (rest.0, loses found.1 (mapping-part U U T U' refl some (λ r at. at) (sym same) found.2 (f some)) rest.1, rest.2)

-- Every result is what the chased query comes to by losing rows, up to the order of rows
pub reduction-shrinks : (ds : List Dependency) (S T : Query) → Reduction ds S T → (T' : Query) × Shrinks (chase ds S).query T' × Reordered T T'
reduction-shrinks ds S T result =
    shrinks-to (length (chase ds S).query.rows) T (chase ds S).query result.core result.head result.rows result.receives (omega arith)
