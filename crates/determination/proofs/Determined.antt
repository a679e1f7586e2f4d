-- Determined columns: the closure of a set of columns is exact (Armstrong 1974; the two-row database is the standard one).
-- Plan. 1. The test of inclusion. 2. Sound: rows that agree on the known columns agree on each added one.
-- 3. The additions end: each one lowers the number of dependencies whose right column is not known, so the closure is closed.
-- 4. Complete: a row of zeros and a row with zero at the closure's columns and one elsewhere obey the dependencies. 5. `determined` lists the set,
-- ascending, and no other list does.
-- No law asks that a left set is nonempty. Assumes nothing.
use mathlib.Core.Path.{◌≡◌, refl, sym, ◌∙◌, ap, ap₂}
use mathlib.Core.Logic.{◌↔◌, ◌⊎◌, inl, inr}
use mathlib.Core.Bool.{Bool, true, false, cond, not, ◌&&◌, true≢false}
use mathlib.Core.List.Memᴰ
use mathlib.Core.List.{List, [], ◌∷◌}
use mathlib.Core.Option.{Option, none, some}
use Prim.Native.Nat.{ℕ, zero, suc, ◌+◌, ◌≤◌, ◌<◌}
use native.Mathlib.Omega.{arith}
use lib.Dec.{eqb}
use lib.ListN.{length, get_or, replicate, length-replicate, get_or-replicate, get_or-eq_default}
use native.Mathlib.Decide.{dec_lt}
use borrow.Author.Tests.{eqb-true, eq-eqb, not-true}
use Rattle.lists.specs.Numbers.{numbers_where}
use Rattle.theory.specs.Query.{Row, column, member, subset, ◌∈◌}
use Rattle.theory.specs.Database.{Database, Dependency, Agree, Obeys, Sound}
use Rattle.theory.specs.Chase.{first_passing}
use Rattle.determination.specs.Determined.{Determines, Determined, FitsColumns, Increasing, adds, grow_on, grow_for, closure, determined}
use Rattle.lists.proofs.Tests.{and_left, and_right, and_both}
use Rattle.lists.proofs.Numbers.{where-from, where-of}
use Rattle.theory.proofs.Lists.{mem-cases, member-mem, mem-member, member-not-mem, subset-true, subset-of}
use Rattle.theory.proofs.Members.{◌⊆◌}
use Rattle.theory.proofs.Step.{first_passing-found, first_passing-nothing}

-- ---- 1. tests

-- ---- 2. sound

-- A dependency that adds is of the relation, its left columns are known and its right one is not
pub adds-relation : (relation : ℕ) (known : List ℕ) (d : Dependency) → adds relation known d ≡ true → d.relation ≡ relation
unfolding adds
adds-relation relation known d e =
    eqb-true d.relation relation
    (and_left (eqb d.relation relation) (subset d.left known)
    (and_left (eqb d.relation relation && subset d.left known) (not (member d.right known)) e))

adds-left : (relation : ℕ) (known : List ℕ) (d : Dependency) → adds relation known d ≡ true → subset d.left known ≡ true
unfolding adds
adds-left relation known d e =
    and_right (eqb d.relation relation) (subset d.left known)
    (and_left (eqb d.relation relation && subset d.left known) (not (member d.right known)) e)

adds-new : (relation : ℕ) (known : List ℕ) (d : Dependency) → adds relation known d ≡ true → member d.right known ≡ false
unfolding adds
adds-new relation known d e =
    not-true (member d.right known) (and_right (eqb d.relation relation && subset d.left known) (not (member d.right known)) e)

-- One of the relation that does not add, though its left columns are known, has its right one known
adds-not : (relation : ℕ) (known : List ℕ) (d : Dependency) → adds relation known d ≡ false → d.relation ≡ relation → subset d.left known ≡ true
    → member d.right known ≡ true
unfolding adds
adds-not relation known d e of inside =
    go (eqb d.relation relation) (subset d.left known) (member d.right known) e (eq-eqb d.relation relation of) inside
  where
    go : (a b c : Bool) → (a && b && not c) ≡ false → a ≡ true → b ≡ true → c ≡ true
    go a b true e p q = refl
    go a b false e p q = absurd (true≢false (sym (and_both (a && b) true (and_both a b p q) refl) ∙ e))

-- In a database that obeys the dependencies, two rows of the relation that agree on the known columns agree on all that are added
module _ (ds : List Dependency) (relation : ℕ) (D : Database) (obeys : Obeys ds D) (r s : Row ℕ) (r-in : r ∈ D) (s-in : s ∈ D)
    (r-of : r.relation ≡ relation) (s-of : s.relation ≡ relation) where
  agree-added : (known : List ℕ) (d : Dependency) → d ∈ ds → adds relation known d ≡ true → Agree 0 known r s → Agree 0 (d.right ∷ known) r s
  agree-added known d at e agree c (Memᴰ.head same) =
      rw same
      (obeys d at r s r-in s-in (r-of ∙ sym (adds-relation relation known d e)) (s-of ∙ sym (adds-relation relation known d e))
      (λ b in_left. agree b (subset-true d.left known (adds-left relation known d e) b in_left)))
  agree-added known d at e agree c (Memᴰ.tail old) = agree c old

  agree-grown : (n : ℕ) (known : List ℕ) → Agree 0 known r s → Agree 0 (grow_for n ds relation known) r s
  unfolding grow_for grow_on
  agree-grown zero known agree = agree
  agree-grown (suc n) known agree = go (first_passing (adds relation known) ds) refl (agree-grown n)
    where
      go : (found : Option Dependency) → first_passing (adds relation known) ds ≡ found
          → ((known : List ℕ) → Agree 0 known r s → Agree 0 (grow_for n ds relation known) r s) → Agree 0 (grow_on (grow_for n ds relation) known found) r s
      go none e rest = agree
      go (some d) e rest =
          rest (d.right ∷ known)
          (agree-added known d (first_passing-found (adds relation known) d ds e).0 (first_passing-found (adds relation known) d ds e).1 agree)

-- Each column of the closure is determined: no hypothesis on the dependencies
pub closure-sound : (widths : List ℕ) (ds : List Dependency) (relation : ℕ) (left : List ℕ) (c : ℕ) → c ∈ closure ds relation left
    → Determines widths ds relation left c
unfolding closure
closure-sound widths ds relation left c at D legal r s r-in s-in r-of s-of agree =
    agree-grown ds relation D legal.obeys r s r-in s-in r-of s-of _ left agree c at

-- ---- 3. closed

-- How many dependencies have a right column that is not known
missing : List Dependency → List ℕ → ℕ
missing [] known = 0
missing (d ∷ ds) known = cond (member d.right known) (missing ds known) (suc (missing ds known))

missing-le : (ds : List Dependency) (known : List ℕ) → missing ds known ≤ length ds
unfolding missing
missing-le [] known = omega arith
missing-le (d ∷ ds) known = go (member d.right known) (missing-le ds known)
  where
    go : (b : Bool) → missing ds known ≤ length ds → cond b (missing ds known) (suc (missing ds known)) ≤ suc (length ds)
    go true rest = omega arith
    go false rest = omega arith

missing-more : (ds : List Dependency) (known : List ℕ) (c : ℕ) → missing ds (c ∷ known) ≤ missing ds known
unfolding missing
missing-more [] known c = omega arith
missing-more (d ∷ ds) known c = go (member d.right known) refl (member d.right (c ∷ known)) refl (missing-more ds known c)
  where
    go : (old : Bool) → member d.right known ≡ old → (new : Bool) → member d.right (c ∷ known) ≡ new → missing ds (c ∷ known) ≤ missing ds known
        → cond new (missing ds (c ∷ known)) (suc (missing ds (c ∷ known))) ≤ cond old (missing ds known) (suc (missing ds known))
    go true was true is rest = rest
    go true was false is rest = absurd (member-not-mem d.right (c ∷ known) is (Memᴰ.tail (member-mem d.right known was)))
    go false was true is rest = omega arith
    go false was false is rest = omega arith

-- An addition lowers the number
missing-less : (ds : List Dependency) (known : List ℕ) (d : Dependency) → d ∈ ds → member d.right known ≡ false
    → missing ds (d.right ∷ known) < missing ds known
unfolding missing
missing-less [] known d x'' new = elim x'' [ ]
missing-less (b ∷ ds) known d (Memᴰ.head same) new =
    go (member b.right known) (rw (← same) new) (member b.right (d.right ∷ known)) is (missing-more ds known d.right)
  where
    is : member b.right (d.right ∷ known) ≡ true
    is = mem-member b.right (d.right ∷ known) (Memᴰ.head (ap (λ (x : Dependency). x.right) (sym same)))

    go : (old : Bool) → old ≡ false → (now : Bool) → now ≡ true → missing ds (d.right ∷ known) ≤ missing ds known
        → cond now (missing ds (d.right ∷ known)) (suc (missing ds (d.right ∷ known))) < cond old (missing ds known) (suc (missing ds known))
    go old e now e' rest = rw (e, e') (omega arith)
missing-less (b ∷ ds) known d (Memᴰ.tail at) new =
    go (member b.right known) refl (member b.right (d.right ∷ known)) refl (missing-less ds known d at new)
  where
    go : (old : Bool) → member b.right known ≡ old → (now : Bool) → member b.right (d.right ∷ known) ≡ now
        → missing ds (d.right ∷ known) < missing ds known
        → cond now (missing ds (d.right ∷ known)) (suc (missing ds (d.right ∷ known))) < cond old (missing ds known) (suc (missing ds known))
    go true was true now rest = rest
    go true was false now rest = absurd (member-not-mem b.right (d.right ∷ known) now (Memᴰ.tail (member-mem b.right known was)))
    go false was true now rest = omega arith
    go false was false now rest = omega arith

-- Nothing is added any more
abbrev Closed : List Dependency → ℕ → List ℕ → Type 0
Closed ds relation known = first_passing (adds relation known) ds ≡ none

-- With a step for each missing right column the additions come to their end
grown-closed : (n : ℕ) (ds : List Dependency) (relation : ℕ) (known : List ℕ) → missing ds known ≤ n → Closed ds relation (grow_for n ds relation known)
unfolding grow_for grow_on
grown-closed zero ds relation known few = go (first_passing (adds relation known) ds) refl
  where
    go : (found : Option Dependency) → first_passing (adds relation known) ds ≡ found → first_passing (adds relation known) ds ≡ none
    go none e = e
    go (some d) e =
        let lower =
        missing-less ds known d (first_passing-found (adds relation known) d ds e).0
        (adds-new relation known d (first_passing-found (adds relation known) d ds e).1)
        in
        absurd (omega arith)
grown-closed (suc n) ds relation known few = go (first_passing (adds relation known) ds) refl (grown-closed n ds relation)
  where
    go : (found : Option Dependency) → first_passing (adds relation known) ds ≡ found
        → ((known : List ℕ) → missing ds known ≤ n → Closed ds relation (grow_for n ds relation known))
        → Closed ds relation (grow_on (grow_for n ds relation) known found)
    go none e rest = e
    go (some d) e rest =
        let lower =
        missing-less ds known d (first_passing-found (adds relation known) d ds e).0
        (adds-new relation known d (first_passing-found (adds relation known) d ds e).1)
        in
        rest (d.right ∷ known) (omega arith)

-- The closure is closed, since each dependency adds at most once
closure-ends : (ds : List Dependency) (relation : ℕ) (left : List ℕ) → Closed ds relation (closure ds relation left)
unfolding closure
closure-ends ds relation left = grown-closed _ ds relation left (missing-le ds left)

-- A dependency of the relation whose left columns the closure has has its right column in it
pub closure-closed : (ds : List Dependency) (relation : ℕ) (left : List ℕ) (d : Dependency) → d ∈ ds → d.relation ≡ relation
    → ((c : ℕ) → c ∈ d.left → c ∈ closure ds relation left) → d.right ∈ closure ds relation left
closure-closed ds relation left d at of inside =
    let known = closure ds relation left in
    member-mem d.right known
    (adds-not relation known d (first_passing-nothing (adds relation known) ds (closure-ends ds relation left) d at) of (subset-of d.left known inside))

-- and it has the columns it starts from
grown-more : (n : ℕ) (ds : List Dependency) (relation : ℕ) (known : List ℕ) (c : ℕ) → c ∈ known → c ∈ grow_for n ds relation known
unfolding grow_for grow_on
grown-more zero ds relation known c at = at
grown-more (suc n) ds relation known c at = go (first_passing (adds relation known) ds) (grown-more n ds relation)
  where
    go : (found : Option Dependency) → ((known : List ℕ) (c : ℕ) → c ∈ known → c ∈ grow_for n ds relation known)
        → c ∈ grow_on (grow_for n ds relation) known found
    go none rest = at
    go (some d) rest = rest (d.right ∷ known) c (Memᴰ.tail at)

pub closure-more : (ds : List Dependency) (relation : ℕ) (left : List ℕ) (c : ℕ) → c ∈ left → c ∈ closure ds relation left
unfolding closure
closure-more ds relation left c at = grown-more _ ds relation left c at

-- ---- 4. complete

-- Zero at the known columns from `start` on, one elsewhere
indicator : List ℕ → ℕ → ℕ → List ℕ
indicator known start zero = []
indicator known start (suc n) = cond (member start known) 0 1 ∷ indicator known (suc start) n

indicator-length : (known : List ℕ) (start n : ℕ) → length (indicator known start n) ≡ n
unfolding indicator
indicator-length known start zero = refl
indicator-length known start (suc n) = ap suc (indicator-length known (suc start) n)

indicator-at : (known : List ℕ) (start n i : ℕ) → i < n → get_or (indicator known start n) i 0 ≡ cond (member (start + i) known) 0 1
unfolding indicator
indicator-at known start zero i less = absurd (omega arith)
indicator-at known start (suc n) zero less = let same : start + 0 ≡ start = omega arith in rw same refl
indicator-at known start (suc n) (suc i) less =
    let same : start + suc i ≡ suc start + i = omega arith in rw same (indicator-at known (suc start) n i (omega arith))

-- The two rows: all zero, and zero at the known columns only
zeros : ℕ → ℕ → Row ℕ
zeros relation width = record { relation = relation; values = replicate width 0 }

marks : ℕ → ℕ → List ℕ → Row ℕ
marks relation width known = record { relation = relation; values = indicator known 0 width }

marks-at : (relation width : ℕ) (known : List ℕ) (c : ℕ) → c < width → column 0 (marks relation width known) c ≡ cond (member c known) 0 1
unfolding marks
marks-at relation width known c less =
    let same : 0 + c ≡ c = omega arith in
    rw same at (indicator-at known 0 width c less)

marks-known : (relation width : ℕ) (known : List ℕ) (c : ℕ) → c < width → c ∈ known
    → column 0 (zeros relation width) c ≡ column 0 (marks relation width known) c
unfolding zeros
marks-known relation width known c less at =
    get_or-replicate width c 0 0 less ∙ sym (marks-at relation width known c less ∙ rw (mem-member c known at) refl)

known-marks : (relation width : ℕ) (known : List ℕ) (c : ℕ) → c < width → column 0 (zeros relation width) c ≡ column 0 (marks relation width known) c
    → c ∈ known
unfolding zeros
known-marks relation width known c less e =
    member-mem c known (go (member c known) (sym (get_or-replicate width c 0 0 less) ∙ e ∙ marks-at relation width known c less))
  where
    go : (b : Bool) → ◌≡◌ {A = ℕ} 0 (cond b 0 1) → b ≡ true
    go true e = refl
    go false e = absurd (omega arith)

-- The database of the two rows
two : ℕ → ℕ → List ℕ → Database
two relation width known = zeros relation width ∷ marks relation width known ∷ []

two-sound : (widths : List ℕ) (relation : ℕ) (known : List ℕ) → relation < length widths → Sound widths (two relation (get_or widths relation 0) known)
unfolding two zeros marks
two-sound widths relation known less r (Memᴰ.head e) = rw e (less, length-replicate (get_or widths relation 0) 0)
two-sound widths relation known less r (Memᴰ.tail (Memᴰ.tail x8)) = elim x8 [ ]
two-sound widths relation known less r (Memᴰ.tail (Memᴰ.head e)) = rw e (less, indicator-length known 0 (get_or widths relation 0))

-- A row of the database is one of the two, and is of the relation
two-rows : (relation width : ℕ) (known : List ℕ) (r : Row ℕ) → r ∈ two relation width known → (r ≡ zeros relation width) ⊎ (r ≡ marks relation width known)
unfolding two
two-rows relation width known r (Memᴰ.head e) = inl e
two-rows relation width known r (Memᴰ.tail (Memᴰ.tail x8)) = elim x8 [ ]
two-rows relation width known r (Memᴰ.tail (Memᴰ.head e)) = inr e

two-relation : (relation width : ℕ) (known : List ℕ) (r : Row ℕ) → r ∈ two relation width known → r.relation ≡ relation
unfolding zeros marks
two-relation relation width known r at = go (two-rows relation width known r at)
  where
    go : (r ≡ zeros relation width) ⊎ (r ≡ marks relation width known) → r.relation ≡ relation
    go (inl e) = rw e refl
    go (inr e) = rw e refl

-- A dependency holds of the two rows as soon as it holds of the first against the second
two-obeys-one : (relation width : ℕ) (known : List ℕ) (d : Dependency)
    → (Agree 0 d.left (zeros relation width) (marks relation width known)
    → column 0 (zeros relation width) d.right ≡ column 0 (marks relation width known) d.right)
    → (r s : Row ℕ) → r ∈ two relation width known → s ∈ two relation width known → Agree 0 d.left r s → column 0 r d.right ≡ column 0 s d.right
two-obeys-one relation width known d holds r s r-in s-in agree = go (two-rows relation width known r r-in) (two-rows relation width known s s-in)
  where
    go : (r ≡ zeros relation width) ⊎ (r ≡ marks relation width known) → (s ≡ zeros relation width) ⊎ (s ≡ marks relation width known)
        → column 0 r d.right ≡ column 0 s d.right
    go (inl a) (inl b) = rw (a, b) refl
    go (inl a) (inr b) = rw (a, b) (holds (rw (a, b) at agree))
    go (inr a) (inl b) = rw (a, b) (sym (holds (λ c at. sym ((rw (a, b) at agree) c at))))
    go (inr a) (inr b) = rw (a, b) refl

-- With the closure as the known columns the two rows obey dependencies that fit the schema
two-obeys : (widths : List ℕ) (ds : List Dependency) → ((d : Dependency) → d ∈ ds → FitsColumns widths d) → (relation : ℕ) (left : List ℕ)
    → Obeys ds (two relation (get_or widths relation 0) (closure ds relation left))
two-obeys widths ds fits relation left d at r s r-in s-in r-of s-of = two-obeys-one relation width known d holds r s r-in s-in
  where
    width : ℕ
    width = get_or widths relation 0

    known : List ℕ
    known = closure ds relation left

    of : d.relation ≡ relation
    of = sym r-of ∙ two-relation relation width known r r-in

    below : (c : ℕ) → c < get_or widths d.relation 0 → c < width
    below c less = rw of at less

    holds : Agree 0 d.left (zeros relation width) (marks relation width known)
        → column 0 (zeros relation width) d.right ≡ column 0 (marks relation width known) d.right
    holds agree =
        marks-known relation width known d.right (below d.right (fits d at).right)
        (closure-closed ds relation left d at of
        (λ c in_left. known-marks relation width known c (below c ((fits d at).left c in_left)) (agree c in_left)))

-- The two rows agree on every known column; past the width both have the value 0
two-agree : (relation width : ℕ) (known : List ℕ) (c : ℕ) → c ∈ known → column 0 (zeros relation width) c ≡ column 0 (marks relation width known) c
unfolding zeros marks
two-agree relation width known c at = go (dec_lt c width)
  where
    go : Dec (c < width) → get_or (replicate width 0) c 0 ≡ get_or (indicator known 0 width) c 0
    go (yes less) = marks-known relation width known c less at
    go (no past) =
        get_or-eq_default (replicate width 0) 0 (rw (length-replicate {A = ℕ} width 0) (omega arith))
        ∙ sym (get_or-eq_default (indicator known 0 width) 0 (rw (indicator-length known 0 width) (omega arith)))

-- Each column that the left set determines is in the closure
closure-complete : (widths : List ℕ) (ds : List Dependency) → ((d : Dependency) → d ∈ ds → FitsColumns widths d) → (relation : ℕ) → relation < length widths
    → (left : List ℕ) (c : ℕ) → c < get_or widths relation 0 → Determines widths ds relation left c → c ∈ closure ds relation left
unfolding two zeros marks
closure-complete widths ds fits relation held left c less determines =
    known-marks relation (get_or widths relation 0) (closure ds relation left) c less
    (determines (two relation (get_or widths relation 0) (closure ds relation left))
    (record { sound = two-sound widths relation (closure ds relation left) held; obeys = two-obeys widths ds fits relation left }) (zeros relation (get_or widths relation 0))
    (marks relation (get_or widths relation 0) (closure ds relation left)) (Memᴰ.head refl) (Memᴰ.tail (Memᴰ.head refl)) refl refl
    (λ b at. two-agree relation (get_or widths relation 0) (closure ds relation left) b (closure-more ds relation left b at)))

-- ---- 5. the determined columns

-- The numbers of a range that pass a test ascend
where-ascending : (test : ℕ → Bool) (start n : ℕ) → Increasing (numbers_where test start n)
unfolding numbers_where
where-ascending test start zero = tt
where-ascending test start (suc n) = go (test start) (where-ascending test (suc start) n)
  where
    go : (b : Bool) → Increasing (numbers_where test (suc start) n)
        → Increasing (cond b (start ∷ numbers_where test (suc start) n) (numbers_where test (suc start) n))
    go true rest = ((λ m at. (where-from test (suc start) n m at).0), rest)
    go false rest = rest

-- The determined columns are those of the relation that the left set determines
pub determined-exact : (widths : List ℕ) (ds : List Dependency) → ((d : Dependency) → d ∈ ds → FitsColumns widths d) → (relation : ℕ) → relation < length widths
    → (left : List ℕ) (c : ℕ) → (c ∈ determined ds relation (get_or widths relation 0) left) ↔ Determined widths ds relation left c
unfolding determined
determined-exact widths ds fits relation held left c = (
  (λ at.
      let r = where-from (λ k. member k (closure ds relation left)) 0 (get_or widths relation 0) c at in
      (omega arith, closure-sound widths ds relation left c (member-mem c (closure ds relation left) r.2))),
  λ p. where-of (λ k. member k (closure ds relation left)) 0 (get_or widths relation 0) c (omega arith) (omega arith)
      (mem-member c (closure ds relation left) (closure-complete widths ds fits relation held left c p.0 p.1)),
)

-- each once and in ascending order, so their number is the length of the list
pub determined-ascending : (ds : List Dependency) (relation width : ℕ) (left : List ℕ) → Increasing (determined ds relation width left)
unfolding determined
determined-ascending ds relation width left = where-ascending (λ c. member c (closure ds relation left)) 0 width

-- Two ascending lists with the same numbers are the same
pub ascending-unique : (xs ys : List ℕ) → Increasing xs → Increasing ys → xs ⊆ ys → ys ⊆ xs → xs ≡ ys
ascending-unique [] [] up up' into back = refl
ascending-unique [] (y ∷ ys) up up' into back = absurd (Memᴰ.not-nil (back y (Memᴰ.head refl)))
ascending-unique (x ∷ xs) [] up up' into back = absurd (Memᴰ.not-nil (into x (Memᴰ.head refl)))
ascending-unique (x ∷ xs) (y ∷ ys) up up' into back =
    let same : x ≡ y = first in
    let into' : xs ⊆ ys = λ n at. mem-cases (into n (Memᴰ.tail at)) (λ is. absurd (let more = up.0 n at in omega arith)) (λ there. there) in
    let back' : ys ⊆ xs = λ n at. mem-cases (back n (Memᴰ.tail at)) (λ is. absurd (let more = up'.0 n at in omega arith)) (λ there. there) in
    ap₂ ◌∷◌ same (ascending-unique xs ys up.1 up'.1 into' back')
  where
    first : x ≡ y
    first =
        mem-cases (into x (Memᴰ.head refl)) (λ is. is)
        (λ at. mem-cases (back y (Memᴰ.head refl)) (λ is. sym is) (λ at'. absurd (let more = up'.0 x at in let more' = up.0 y at' in omega arith)))
