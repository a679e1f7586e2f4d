-- What the answer of a test means, in the words of `specs/Broken`: 1. two rows, 2. the first row that passes a test, 3. the first pair,
-- 4. the first dependency, 5. there is only one first, so the answer is it. Assumes nothing.
use mathlib.Core.Path.{◌≡◌, refl, sym, ap, ◌∙◌, subst}
use mathlib.Core.Logic.{◌⊎◌, inl, inr, ⊎_elim}
use mathlib.Core.Bool.{Bool, true, false, not, ◌&&◌, false≢true}
use mathlib.Core.List.{List, [], ◌∷◌}
use mathlib.Core.Option.{Option, none, some, or_else}
use Prim.Native.Nat.{ℕ, zero, suc, ◌+◌, ◌<◌}
use native.Mathlib.Omega.{arith}
use lib.Dec.{eqb}
use lib.ListN.{length}
use borrow.Author.Tests.{eqb-true, eq-eqb, not-true}
use Rattle.lists.proofs.Tests.{and_left, and_right, below-or-past}
use Rattle.theory.specs.Query.{Row, constant, column, map_row, same_entry}
use Rattle.theory.specs.Database.{Database, Dependency, Agree}
use Rattle.theory.specs.Chase.{first_passing, first_pair, first_found, agree, breaks}
use Rattle.std.specs.Prelude.{None, Some}
use Rattle.words.specs.declared.Violation.TheVariants.{Functional}
use Rattle.words.specs.Testing.{numbered_from, breaks_rows, breaks_with, first_pair_from, first_broken_from}
use Rattle.words.specs.Broken.{violation_of}
use Rattle.words.specs.Broken.{nth_row, nth_dependency, BrokenBy, FirstBroken, BrokenMeans, ObeysMeans}
use Rattle.words.proofs.Obeys.{same-constants, agree-all, breaks-kept, none-obeys, obeys-none}

-- ---- 1. two rows

module _ (d : Dependency) (r s : Row ℕ) where
  abbrev of-first : Bool
  of-first = eqb r.relation d.relation

  abbrev of-second : Bool
  of-second = eqb s.relation d.relation

  abbrev agreeing : Bool
  agreeing = agree d.left (map_row constant r) (map_row constant s)

  abbrev same : Bool
  same = same_entry (column (constant 0) (map_row constant r) d.right) (column (constant 0) (map_row constant s) d.right)

  -- Rows that break a dependency are of its relation, agree on the left columns and differ on the right one
  breaks-parts : breaks_rows d r s ≡ true
      → (r.relation ≡ d.relation) × (s.relation ≡ d.relation) × Agree 0 d.left r s × (column 0 r d.right ≡ column 0 s d.right → ⊥)
  unfolding breaks
  breaks-parts e =
      let e3 : of-first && of-second && agreeing ≡ true = and_left (of-first && of-second && agreeing) (not same) e in
      let e2 : of-first && of-second ≡ true = and_left (of-first && of-second) agreeing e3 in
      let other : same ≡ false = not-true same (and_right (of-first && of-second && agreeing) (not same) e) in (
        eqb-true r.relation d.relation (and_left of-first of-second e2),
        eqb-true s.relation d.relation (and_right of-first of-second e2),
        agree-all d.left r s (and_right (of-first && of-second) agreeing e3),
        λ equal. false≢true (sym other ∙ same-constants r s d.right ∙ eq-eqb (column 0 r d.right) (column 0 s d.right) equal),
      )

module _ {d : Dependency} {D : Database} {i j : ℕ} where
  made-broken : i < j → j < length D → breaks_rows d (nth_row D i) (nth_row D j) ≡ true → BrokenBy d D i j
  made-broken order inside e =
      let parts = breaks-parts d (nth_row D i) (nth_row D j) e in
      record { order = order; inside = inside; first-relation = parts.0; second-relation = parts.1; agree = parts.2; differ = parts.3 }

  not-broken : breaks_rows d (nth_row D i) (nth_row D j) ≡ false → BrokenBy d D i j → ⊥
  not-broken e b = b.differ (breaks-kept d (nth_row D i) (nth_row D j) e b.first-relation b.second-relation b.agree)

-- ---- 2. the first row that passes a test

-- The row found is p rows after the first, and no row before it passes
pub record FirstRow (test : Row ℕ → Bool) (D : Database) (n : ℕ) (found : ℕ × Row ℕ) : Type 0 where
  pub at : ℕ
  pub number : found.0 ≡ n + at
  pub inside : at < length D
  pub passes : test (nth_row D at) ≡ true
  pub before : (b : ℕ) → b < at → test (nth_row D b) ≡ false

first-row : (test : Row ℕ → Bool) (n : ℕ) (D : Database) (found : ℕ × Row ℕ) → first_passing (λ b. test b.1) (numbered_from n D) ≡ some found
    → FirstRow test D n found
unfolding first_passing numbered_from
first-row test n [] found e = absurd (let z : ◌≡◌ {A = ℕ} 0 1 = cc in omega arith)
first-row test n (t ∷ D) found e = go (test t) refl (first-row test (suc n) D found)
  where
    go : (b : Bool) → test t ≡ b → (first_passing (λ b. test b.1) (numbered_from (suc n) D) ≡ some found → FirstRow test D (suc n) found) → FirstRow test
        (t ∷ D) n found
    go true h later =
        let here : some (n, t) ≡ some found = sym (rw h) ∙ e in
        let number : n ≡ found.0 = cc in
        record { at = 0; number = omega arith; inside = omega arith; passes = h; before = λ b l. absurd (omega arith) }
    go false h later =
        let rest = later (sym (rw h) ∙ e) in
        record { at = suc rest.at; number = omega (arith, rest.number); inside = omega (arith, rest.inside); passes = rest.passes; before = earlier rest }
      where
        earlier : (rest : FirstRow test D (suc n) found) (b : ℕ) → b < suc rest.at → test (nth_row (t ∷ D) b) ≡ false
        earlier rest zero l = h
        earlier rest (suc b) l = rest.before b (omega arith)

-- Where none is found, none passes
no_row : (test : Row ℕ → Bool) (n : ℕ) (D : Database) → first_passing (λ b. test b.1) (numbered_from n D) ≡ none → (b : ℕ) → b < length D → test (nth_row D b)
    ≡ false
unfolding first_passing numbered_from
no_row test n [] e b l = absurd (omega arith)
no_row test n (t ∷ D) e b l = go (test t) refl b l (no_row test (suc n) D)
  where
    go : (x : Bool) → test t ≡ x → (b : ℕ) → b < suc (length D)
        → (first_passing (λ b. test b.1) (numbered_from (suc n) D) ≡ none → (b : ℕ) → b < length D → test (nth_row D b) ≡ false) → test (nth_row (t ∷ D) b)
        ≡ false
    go true h b l later = absurd (let z : some (n, t) ≡ none = sym (rw h) ∙ e in let y : ◌≡◌ {A = ℕ} 0 1 = cc in omega arith)
    go false h zero l later = h
    go false h (suc b) l later = later (sym (rw h) ∙ e) b (omega arith)

-- ---- 3. the first pair

-- The pair found stands at positions i and j after the first, and no pair before it breaks the dependency
pub record FirstPair (d : Dependency) (D : Database) (n : ℕ) (found : (ℕ × Row ℕ) × (ℕ × Row ℕ)) : Type 0 where
  pub i : ℕ
  pub j : ℕ
  pub first-number : found.0.0 ≡ n + i
  pub second-number : found.1.0 ≡ n + j
  pub order : i < j
  pub inside : j < length D
  pub breaks : breaks_rows d (nth_row D i) (nth_row D j) ≡ true
  pub before : (a b : ℕ) → a < b → b < length D → (a < i) ⊎ ((a ≡ i) × (b < j)) → breaks_rows d (nth_row D a) (nth_row D b) ≡ false

module _ (d : Dependency) where
  -- a pair whose first row is t
  pair-here : (n : ℕ) (t : Row ℕ) (D : Database) (y : ℕ × Row ℕ) → FirstRow (breaks_rows d t) D (suc n) y → FirstPair d (t ∷ D) n ((n, t), y)
  pair-here n t D y f =
      record {
        i = 0;
        j = suc f.at;
        first-number = omega arith;
        second-number = omega (arith, f.number);
        order = omega arith;
        inside = omega (arith, f.inside);
        breaks = f.passes;
        before = λ a b l m w. ⊎_elim (λ h. absurd (omega arith)) (λ h. at_first a b l h.0 h.1) w;
      }
    where
      at_first : (a b : ℕ) → a < b → a ≡ 0 → b < suc f.at → breaks_rows d (nth_row (t ∷ D) a) (nth_row (t ∷ D) b) ≡ false
      at_first zero (suc b) l z h = f.before b (omega arith)
      at_first zero zero l z h = absurd (omega arith)
      at_first (suc a) b l z h = absurd (omega arith)

  -- a later pair, where none has t as its first row
  pair-later : (n : ℕ) (t : Row ℕ) (D : Database) (found : (ℕ × Row ℕ) × (ℕ × Row ℕ)) → ((b : ℕ) → b < length D → breaks_rows d t (nth_row D b) ≡ false)
      → FirstPair d D (suc n) found → FirstPair d (t ∷ D) n found
  pair-later n t D found none_here f =
      record {
        i = suc f.i;
        j = suc f.j;
        first-number = omega (arith, f.first-number);
        second-number = omega (arith, f.second-number);
        order = omega (arith, f.order);
        inside = omega (arith, f.inside);
        breaks = f.breaks;
        before = earlier;
      }
    where
      earlier : (a b : ℕ) → a < b → b < suc (length D) → (a < suc f.i) ⊎ ((a ≡ suc f.i) × (b < suc f.j))
          → breaks_rows d (nth_row (t ∷ D) a) (nth_row (t ∷ D) b) ≡ false
      earlier a zero l m w = absurd (omega arith)
      earlier zero (suc b) l m w = none_here b (omega arith)
      earlier (suc a) (suc b) l m w =
          f.before a b (omega arith) (omega arith) (⊎_elim (λ h. inl (omega arith)) (λ h. inr (omega (arith, h.0), omega (arith, h.1))) w)

  first-pair : (n : ℕ) (D : Database) (found : (ℕ × Row ℕ) × (ℕ × Row ℕ)) → first_pair_from d n D ≡ some found → FirstPair d D n found
  unfolding first_pair numbered_from or_else
  first-pair n [] found e = absurd (let z : ◌≡◌ {A = ℕ} 0 1 = cc in omega arith)
  first-pair n (t ∷ D) found e = go (first_passing (breaks_with d t) (numbered_from (suc n) D)) refl (first-pair (suc n) D found)
    where
      go : (o : Option (ℕ × Row ℕ)) → first_passing (breaks_with d t) (numbered_from (suc n) D) ≡ o
          → (first_pair_from d (suc n) D ≡ some found → FirstPair d D (suc n) found) → FirstPair d (t ∷ D) n found
      go (some y) h later =
          let here : some ((n, t), y) ≡ some found = sym (rw h) ∙ e in
          let is : ((n, t), y) ≡ found = cc in
          subst (FirstPair d (t ∷ D) n) is (pair-here n t D y (first-row (breaks_rows d t) (suc n) D y h))
      go none h later = pair-later n t D found (no_row (breaks_rows d t) (suc n) D h) (later (sym (rw h) ∙ e))

  -- Where no pair is found, none breaks it
  no-pair : (n : ℕ) (D : Database) → first_pair_from d n D ≡ none → (a b : ℕ) → a < b → b < length D → breaks_rows d (nth_row D a) (nth_row D b) ≡ false
  unfolding first_pair numbered_from or_else
  no-pair n [] e a b l m = absurd (omega arith)
  no-pair n (t ∷ D) e a b l m = go (first_passing (breaks_with d t) (numbered_from (suc n) D)) refl a b l m (no-pair (suc n) D)
    where
      go : (o : Option (ℕ × Row ℕ)) → first_passing (breaks_with d t) (numbered_from (suc n) D) ≡ o → (a b : ℕ) → a < b → b < suc (length D)
          → (first_pair_from d (suc n) D ≡ none → (a b : ℕ) → a < b → b < length D → breaks_rows d (nth_row D a) (nth_row D b) ≡ false)
          → breaks_rows d (nth_row (t ∷ D) a) (nth_row (t ∷ D) b) ≡ false
      go (some y) h a b l m later = absurd (let z : some ((n, t), y) ≡ none = sym (rw h) ∙ e in let k : ◌≡◌ {A = ℕ} 0 1 = cc in omega arith)
      go none h a zero l m later = absurd (omega arith)
      go none h zero (suc b) l m later = no_row (breaks_rows d t) (suc n) D h b (omega arith)
      go none h (suc a) (suc b) l m later = later (sym (rw h) ∙ e) a b (omega arith) (omega arith)

-- ---- 4. the first dependency

pub record FirstDependency (ds : List Dependency) (D : Database) (k : ℕ) (found : (ℕ × Dependency) × ((ℕ × Row ℕ) × (ℕ × Row ℕ))) : Type 0 where
  pub at : ℕ
  pub number : found.0.0 ≡ k + at
  pub held : at < length ds
  pub pair : FirstPair (nth_dependency ds at) D 0 found.1
  pub before : (l : ℕ) → l < at → first_pair_from (nth_dependency ds l) 0 D ≡ none

first-dependency : (k : ℕ) (ds : List Dependency) (D : Database) (found : (ℕ × Dependency) × ((ℕ × Row ℕ) × (ℕ × Row ℕ))) → first_broken_from k ds D ≡ some found
    → FirstDependency ds D k found
unfolding first_broken_from first_found numbered_from or_else
first-dependency k [] D found e = absurd (let z : ◌≡◌ {A = ℕ} 0 1 = cc in omega arith)
first-dependency k (d ∷ ds) D found e = go (first_pair_from d 0 D) refl (first-dependency (suc k) ds D found)
  where
    go : (o : Option ((ℕ × Row ℕ) × (ℕ × Row ℕ))) → first_pair_from d 0 D ≡ o → (first_broken_from (suc k) ds D ≡ some found → FirstDependency ds D (suc k) found)
        → FirstDependency (d ∷ ds) D k found
    go (some y) h later =
        let here : some ((k, d), y) ≡ some found = sym (rw h) ∙ e in
        let is : ((k, d), y) ≡ found = cc in
        subst (FirstDependency (d ∷ ds) D k) is
        (record { at = 0; number = omega arith; held = omega arith; pair = first-pair d 0 D y h; before = λ l m. absurd (omega arith) })
    go none h later =
        let rest = later (sym (rw h) ∙ e) in
        record { at = suc rest.at; number = omega (arith, rest.number); held = omega (arith, rest.held); pair = rest.pair; before = earlier rest }
      where
        earlier : (rest : FirstDependency ds D (suc k) found) (l : ℕ) → l < suc rest.at → first_pair_from (nth_dependency (d ∷ ds) l) 0 D ≡ none
        earlier rest zero m = h
        earlier rest (suc l) m = rest.before l (omega arith)

-- ---- 5. the answer

found_first : (ds : List Dependency) (D : Database) (found : (ℕ × Dependency) × ((ℕ × Row ℕ) × (ℕ × Row ℕ))) → first_broken_from 0 ds D ≡ some found
    → FirstBroken ds D found.0.0 found.1.0.0 found.1.1.0
found_first ds D found e =
    let f = first-dependency 0 ds D found e in
    let p = f.pair in
    let k : f.at ≡ found.0.0 = omega (arith, f.number) in
    let i : p.i ≡ found.1.0.0 = omega (arith, p.first-number) in
    let j : p.j ≡ found.1.1.0 = omega (arith, p.second-number) in
    subst (λ (k : ℕ). FirstBroken ds D k found.1.0.0 found.1.1.0) k
    (subst (λ (i : ℕ). FirstBroken ds D f.at i found.1.1.0) i
    (subst (λ (j : ℕ). FirstBroken ds D f.at p.i j) j
    (record {
      held = f.held;
      broken = made-broken p.order p.inside p.breaks;
      dependencies-before = λ l m a b x. not-broken (no-pair (nth_dependency ds l) 0 D (f.before l m) a b x.order x.inside) x;
      rows_before = λ a b w x. not-broken (p.before a b x.order x.inside w) x;
    })))

-- There is only one first
one-dependency : {ds : List Dependency} {D : Database} {k i j l a b : ℕ} → FirstBroken ds D k i j → FirstBroken ds D l a b → k ≡ l
one-dependency {k = k} {i} {j} {l} {a} {b} f g =
    ⊎_elim (λ h. absurd (g.dependencies-before k h i j f.broken))
    (λ h. ⊎_elim (λ m. absurd (f.dependencies-before l m a b g.broken)) (λ m. omega arith) (below-or-past l k)) (below-or-past k l)

module _ {ds : List Dependency} {D : Database} {k i j a b : ℕ} (f : FirstBroken ds D k i j) (g : FirstBroken ds D k a b) where
  one-first-row : i ≡ a
  one-first-row =
      ⊎_elim (λ h. absurd (g.rows_before i j (inl h) f.broken))
      (λ h. ⊎_elim (λ m. absurd (f.rows_before a b (inl m) g.broken)) (λ m. omega arith) (below-or-past a i))
      (below-or-past i a)

  one-second-row : j ≡ b
  one-second-row =
      ⊎_elim (λ h. absurd (g.rows_before i j (inr (one-first-row, h)) f.broken))
      (λ h. ⊎_elim (λ m. absurd (f.rows_before a b (inr (sym one-first-row, m)) g.broken)) (λ m. omega arith) (below-or-past b j)) (below-or-past j b)

-- Where no dependency is found, no rows break one
no-dependency : (k : ℕ) (ds : List Dependency) (D : Database) → first_broken_from k ds D ≡ none → (l : ℕ) → l < length ds → first_pair_from (nth_dependency ds l) 0 D
    ≡ none
unfolding first_broken_from first_found numbered_from or_else
no-dependency k [] D e l m = absurd (omega arith)
no-dependency k (d ∷ ds) D e l m = go (first_pair_from d 0 D) refl l m (no-dependency (suc k) ds D)
  where
    go : (o : Option ((ℕ × Row ℕ) × (ℕ × Row ℕ))) → first_pair_from d 0 D ≡ o → (l : ℕ) → l < suc (length ds)
        → (first_broken_from (suc k) ds D ≡ none → (l : ℕ) → l < length ds → first_pair_from (nth_dependency ds l) 0 D ≡ none)
        → first_pair_from (nth_dependency (d ∷ ds) l) 0 D ≡ none
    go (some y) h l m later = absurd (let z : some ((k, d), y) ≡ none = sym (rw h) ∙ e in let x : ◌≡◌ {A = ℕ} 0 1 = cc in omega arith)
    go none h zero m later = h
    go none h (suc l) m later = later (sym (rw h) ∙ e) l (omega arith)

-- The answer is the first
answer-first : (ds : List Dependency) (D : Database) (k i j : ℕ) → violation_of (first_broken_from 0 ds D) ≡ Some (Functional k i j) → FirstBroken ds D k i j
answer-first ds D k i j e = go (first_broken_from 0 ds D) refl e
  where
    go : (o : Option ((ℕ × Dependency) × ((ℕ × Row ℕ) × (ℕ × Row ℕ)))) → first_broken_from 0 ds D ≡ o → violation_of o ≡ Some (Functional k i j)
        → FirstBroken ds D k i j
    go none h v = absurd (let z : ◌≡◌ {A = ℕ} 0 1 = cc in omega arith)
    go (some found) h v =
        let p : found.0.0 ≡ k = cc in
        let q : found.1.0.0 ≡ i = cc in
        let r : found.1.1.0 ≡ j = cc in
        subst (λ (x : ℕ). FirstBroken ds D x i j) p
        (subst (λ (x : ℕ). FirstBroken ds D found.0.0 x j) q
        (subst (λ (x : ℕ). FirstBroken ds D found.0.0 found.1.0.0 x) r (found_first ds D found h)))

-- And the first is the answer
first-answer : (ds : List Dependency) (D : Database) (k i j : ℕ) → FirstBroken ds D k i j → violation_of (first_broken_from 0 ds D) ≡ Some (Functional k i j)
first-answer ds D k i j f = go (first_broken_from 0 ds D) refl
  where
    go : (o : Option ((ℕ × Dependency) × ((ℕ × Row ℕ) × (ℕ × Row ℕ)))) → first_broken_from 0 ds D ≡ o → violation_of o ≡ Some (Functional k i j)
    go none h =
        let b = f.broken in
        absurd (not-broken (no-pair (nth_dependency ds k) 0 D (no-dependency 0 ds D h k f.held) i j b.order b.inside) b)
    go (some found) h =
        let g = found_first ds D found h in
        let p : found.0.0 ≡ k = one-dependency g f in
        let g' = subst (λ (x : ℕ). FirstBroken ds D x found.1.0.0 found.1.1.0) p g in
        λ t. Some (Functional (p t) (one-first-row g' f t) (one-second-row g' f t))

pub broken-means : BrokenMeans
broken-means ds D k i j = (answer-first ds D k i j, first-answer ds D k i j)

pub obeys-means : ObeysMeans
obeys-means ds D = (λ e. none-obeys 0 ds D (absent (first_broken_from 0 ds D) e), λ h. ap violation_of (obeys-none 0 ds D h))
  where
    absent : (o : Option ((ℕ × Dependency) × ((ℕ × Row ℕ) × (ℕ × Row ℕ)))) → violation_of o ≡ None → o ≡ none
    absent none e = refl
    absent (some found) e = absurd (let z : ◌≡◌ {A = ℕ} 0 1 = cc in omega arith)
