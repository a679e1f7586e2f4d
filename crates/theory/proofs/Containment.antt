-- Containment (Chandra and Merlin, "Optimal implementation of conjunctive queries in relational data bases", 1977; with functional dependencies
-- Maier, Mendelzon and Sagiv, "Testing implications of data dependencies", 1979). p is contained in q exactly when p chases to never or q maps to the chased p.
--   1. A query read as a database (frozen) has its own head as an answer.
--   2. Reading back (thawing) undoes freezing where the constants are below the base, so it turns an answer on frozen rows into a mapping.
-- 3. Over a class of databases on which some chased p has the answers of p, and of which it is one itself when frozen. From a mapping to containment:
-- an answer of p is one
-- of the chased p, and the mapping before it gives an answer of q. From containment to a mapping: the frozen chased p has the frozen head as an
-- answer of p, so of q;
--      thaw that answer. Without a mapping the same database is a counterexample.
--   4. The chase with functional dependencies gives such a chased p for the sound databases that obey.
-- Assumes nothing.
use mathlib.Core.Path.{◌≡◌, refl, sym, ◌∙◌, ap, subst, subst₂}
use mathlib.Core.Bool.{cond}
use mathlib.Core.Logic.{◌≢◌, ◌↔◌, ◌⊎◌, inl, inr}
use mathlib.Core.List.Memᴰ
use mathlib.Core.List.{List, [], ◌++◌, map, map-map, map-id}
use Prim.Native.Nat.{ℕ, ◌+◌, ◌-◌, ◌<◌}
use native.Mathlib.Omega.{arith}
use lib.Dec.{ltb}
use lib.ListN.{length-map}
use borrow.Author.Tests.{lt-ltb, le-ltb}
use Rattle.theory.specs.Query.{Entry, constant, variable, Row, Query, map_row, row_entries, FitsSchema, ◌∈◌}
use Rattle.theory.specs.Database.{Database, Dependency, Obeys, Sound, Legal}
use Rattle.theory.specs.Answer.{value_of, itself, Carries, Answer, Mapping}
use Rattle.theory.specs.Chase.{chase}
use Rattle.theory.specs.Containment.{Contained, Counterexample, freeze, frozen_rows, frozen_head, ConstantsBelow, StandsFor}
use Rattle.theory.proofs.Lists.{map-agree, list_cases}
use Rattle.theory.proofs.Entries.{row-row_entries}
use Rattle.theory.proofs.Carry.{carries-onto, carries-compose, mapping-of, map_row-id, map_row-compose}
use Rattle.theory.proofs.Chase.{chase-answers, chase-obeys, chase-rows-fit, chase-constants}

-- ---- 1. The frozen query

-- The reading itself is an assignment that carries the query into its frozen rows with the frozen head
pub frozen-answer : (base : ℕ) (q : Query) → q.rows ≢ [] → Answer (frozen_rows base q) q (frozen_head base q)
frozen-answer base q some = (λ v. base + v, record { not-never = some; to-head = refl; to-rows = λ r at. Memᴰ.map (map_row (freeze base)) at })

-- Frozen rows fit the schema as the rows do
pub frozen-sound : (widths : List ℕ) (base : ℕ) (q : Query) → ((r : Row Entry) → r ∈ q.rows → FitsSchema widths r) → Sound widths (frozen_rows base q)
frozen-sound widths base q fit s at =
    let found = Memᴰ.of_map (map_row (freeze base)) q.rows at in
    let fits = fit found.0 found.1 in
    subst (FitsSchema widths) found.2 (fits.0, length-map found.0.values (freeze base) ∙ fits.1)

-- ---- 2. Reading back

-- A number read as an entry: below the base it is a constant, from the base on a variable
pub thaw : ℕ → ℕ → Entry
thaw base n = cond (ltb n base) (constant n) (variable (n - base))

thaw-constant : (base n : ℕ) → n < base → thaw base n ≡ constant n
unfolding thaw
thaw-constant base n below = ap (λ b. cond b (constant n) (variable (n - base))) (lt-ltb n base below)

thaw-variable : (base v : ℕ) → thaw base (base + v) ≡ variable v
unfolding thaw
thaw-variable base v =
    ap (λ b. cond b (constant (base + v)) (variable (base + v - base))) (le-ltb (base + v) base (omega arith)) ∙ ap variable (omega arith)

-- Thawing undoes freezing
thaw-freeze : (base : ℕ) (e : Entry) → ((n : ℕ) → e ≡ constant n → n < base) → thaw base (freeze base e) ≡ e
thaw-freeze base (constant n) below = thaw-constant base n (below n refl)
thaw-freeze base (variable v) below = thaw-variable base v

module _ (base : ℕ) (q : Query) (below : ConstantsBelow base q) where
  thaw-freeze-row : (r : Row Entry) → r ∈ q.rows → map_row (thaw base) (map_row (freeze base) r) ≡ r
  thaw-freeze-row r at =
      map_row-compose (thaw base) (freeze base) r
      ∙ map_row-id (λ e. thaw base (freeze base e)) r
      (λ e there. thaw-freeze base e (λ n same. below.of-rows n (Memᴰ.cast (sym same) (row-row_entries q.rows r e at there))))

  -- The thawed frozen rows are the rows
  pub thaw-rows : map (map_row (thaw base)) (frozen_rows base q) ≡ q.rows
  thaw-rows =
      map-map (map_row (thaw base)) (map_row (freeze base)) q.rows
      ∙ map-agree (λ r. map_row (thaw base) (map_row (freeze base) r)) (λ r. r) q.rows thaw-freeze-row ∙ map-id q.rows

  -- and the thawed frozen head is the head
  pub thaw-head : map (thaw base) (frozen_head base q) ≡ q.head
  thaw-head =
      map-map (thaw base) (freeze base) q.head
      ∙ map-agree (λ e. thaw base (freeze base e)) (λ e. e) q.head
      (λ e at. thaw-freeze base e (λ n same. below.of-head n (Memᴰ.cast (sym same) at)))
      ∙ map-id q.head

  -- What carries the query into a database, thawed, carries it into the thawed database
  pub thaw-carries : (assign : ℕ → ℕ) (D : Database) (t : List ℕ) → Carries itself assign q D t
      → Carries constant (λ v. thaw base (assign v)) q (map (map_row (thaw base)) D) (map (thaw base) t)
  thaw-carries assign D t =
      carries-onto itself assign constant (λ v. thaw base (assign v)) (thaw base) q D (map (map_row (thaw base)) D) t (map (thaw base) t)
      on_entry (λ r at. Memᴰ.map (map_row (thaw base)) at) refl
    where
      below_both : (n : ℕ) → (constant n ∈ q.head) ⊎ (constant n ∈ row_entries q.rows) → n < base
      below_both n (inl at) = below.of-head n at
      below_both n (inr at) = below.of-rows n at

      on_entry : (e : Entry) → e ∈ q.head ++ row_entries q.rows
          → value_of constant (λ v. thaw base (assign v)) e ≡ thaw base (value_of itself assign e)
      on_entry (constant n) at = sym (thaw-constant base n (below_both n (Memᴰ.append_cases q.head at)))
      on_entry (variable v) at = refl

-- An answer of q on the frozen C that is C's frozen head gives a mapping from q to C
pub mapping-of-answer : (base : ℕ) (q C : Query) → ConstantsBelow base q → ConstantsBelow base C → Answer (frozen_rows base C) q (frozen_head base C)
    → Mapping q C
mapping-of-answer base q C below_q below_c answer =
    mapping-of q C (λ v. thaw base (answer.0 v))
    (subst₂ (λ rows head. Carries constant (λ v. thaw base (answer.0 v)) q rows head) (thaw-rows base C below_c) (thaw-head base C below_c)
    (thaw-carries base q below_q answer.0 (frozen_rows base C) (frozen_head base C) answer.1))

-- ---- 3. Over a class of databases

-- Answers go back along a mapping
pub answer-along : (D : Database) (S T : Query) → Mapping S T → (t : List ℕ) → Answer D T t → Answer D S t
answer-along D S T f t answer = (λ v. value_of itself answer.0 (f.0 v), carries-compose itself answer.0 f.0 S T D t f.1.carries answer.1)

-- An answer of p is one of the chased p, and the mapping before it gives an answer of q
pub contained-over-of-mapping : (C : Database → Type 0) (p q chased : Query) → ((D : Database) → C D → (t : List ℕ) → Answer D p t ↔ Answer D chased t)
    → (chased.rows ≡ []) ⊎ Mapping q chased → Contained C p q
contained-over-of-mapping C p q chased answers (inl none) D within t answer = absurd (((answers D within t).0 answer).1.not-never none)
contained-over-of-mapping C p q chased answers (inr f) D within t answer = answer-along D q chased f t ((answers D within t).0 answer)

module _ (C : Database → Type 0) (base : ℕ) (p q chased : Query) (stands : StandsFor C base p chased) (below : ConstantsBelow base q) where
  -- The frozen head is an answer of p on the frozen rows
  stands-answer : chased.rows ≢ [] → Answer (frozen_rows base chased) p (frozen_head base chased)
  stands-answer some = (stands.answers (frozen_rows base chased) (stands.frozen some) (frozen_head base chased)).1 (frozen-answer base chased some)

  -- p is contained in q over the class exactly when the chased p is never or q maps to it
  pub contained-over : ((chased.rows ≡ []) ⊎ Mapping q chased) ↔ Contained C p q
  contained-over = (
    contained-over-of-mapping C p q chased stands.answers,
    λ contained.
        list_cases chased.rows inl (λ some. inr (mapping-of-answer base q chased below stands.below
        (contained (frozen_rows base chased) (stands.frozen some) (frozen_head base chased) (stands-answer some)))),
  )

  -- Otherwise the chased p, read as a database, shows that it is not
  pub counterexample-over : chased.rows ≢ [] → (Mapping q chased → ⊥) → Counterexample C p q (frozen_rows base chased) (frozen_head base chased)
  counterexample-over some none = record {
    within = stands.frozen some;
    answer = stands-answer some;
    no_answer = λ answer. none (mapping-of-answer base q chased below stands.below answer);
  }

-- ---- 4. Under functional dependencies

-- If p chases to never, or q maps to the chased p, then on every database that obeys, sound or not, each answer of p is one of q
pub contained-of-mapping : (ds : List Dependency) (p q : Query) → ((chase ds p).query.rows ≡ []) ⊎ Mapping q (chase ds p).query
    → (D : Database) → Obeys ds D → (t : List ℕ) → Answer D p t → Answer D q t
contained-of-mapping ds p q = contained-over-of-mapping (Obeys ds) p q (chase ds p).query (chase-answers ds p)

module _ (widths : List ℕ) (ds : List Dependency) (p q : Query) (base : ℕ) (fit : (r : Row Entry) → r ∈ p.rows → FitsSchema widths r)
    (below_p : ConstantsBelow base p) (below_q : ConstantsBelow base q) (positive : 0 < base) where
  chase-stands : StandsFor (Legal widths ds) base p (chase ds p).query
  chase-stands =
      let below = chase-constants ds p base positive below_p in
      record {
        answers = λ D legal t. chase-answers ds p D legal.obeys t;
        frozen = λ some. record {
          sound = frozen-sound widths base (chase ds p).query (chase-rows-fit widths ds p fit);
          obeys = chase-obeys ds p base positive below;
        };
        below = below;
      }

  -- p is contained in q exactly when p chases to never or q maps to the chased p
  pub contained-iff : Contained (Legal widths ds) p q ↔ (((chase ds p).query.rows ≡ []) ⊎ Mapping q (chase ds p).query)
  contained-iff = let over = contained-over (Legal widths ds) base p q (chase ds p).query chase-stands below_q in (over.1, over.0)

  -- Otherwise the chased p, read as a database, shows that it is not
  pub counterexample : (chase ds p).query.rows ≢ [] → (Mapping q (chase ds p).query → ⊥)
      → Counterexample (Legal widths ds) p q (frozen_rows base (chase ds p).query) (frozen_head base (chase ds p).query)
  counterexample = counterexample-over (Legal widths ds) base p q (chase ds p).query chase-stands below_q
