-- What the answer of a test means, in the words of `specs/Meaning`: 1. the first join dependency, 2. there is only one first, 3. the answer.
-- Assumes nothing.
use mathlib.Core.Path.{◌≡◌, refl, sym, ◌∙◌, ap, subst}
use mathlib.Core.Logic.{⊎_elim}
use mathlib.Core.List.Memᴰ
use mathlib.Core.List.{List, [], ◌∷◌}
use mathlib.Core.Option.{Option, none, some, or_else}
use Prim.Native.Nat.{ℕ, zero, suc, ◌+◌, ◌≤◌, ◌<◌}
use native.Mathlib.Omega.{arith}
use lib.ListN.{length, get_or}
use Rattle.lists.specs.Over.{pad}
use Rattle.lists.proofs.Positions.{get_or-in}
use Rattle.lists.proofs.Tests.{below-or-past}
use Rattle.theory.specs.Query.{Row}
use Rattle.theory.specs.Database.{Database, Dependency, JoinDependency, Sound}
use Rattle.theory.specs.Chase.{first_found}
use Rattle.theory.proofs.Lists.{option_cases, mem-cases}
use Rattle.joins.specs.Join.{ObeysJoin, ObeysJoins, JoinFits, JoinsFit}
use Rattle.words.specs.Testing.{numbered_from, first_broken_from}
use Rattle.words.specs.Broken.{violation_of}
use Rattle.words.proofs.Broken.{broken-means, obeys-means}
use Rattle.words.specs.declared.Violation.{Violation}
use Rattle.std.specs.Prelude.{Option as Maybe, None, Some}
use Rattle.words.specs.declared.Violation.TheVariants.{Functional, Join}
use Rattle.join_testing.specs.Unmet.{first_choice, first_unmet_from, joined_at, unmet_of, or_joined, violation_in}
use Rattle.join_testing.specs.Meaning.{nth_join, FirstUnmet, FewSets, ObeysMeans, BrokenFirst, JoinedMeans}
use Rattle.join_testing.proofs.Choosing.{found_first, none-breaks, one-first, unbroken-none, obeys-unbroken, unbroken-obeys}
use Rattle.join_testing.proofs.Choosing.{Inside, goes-inside}

-- ---- 1. the first join dependency

module _ (schema : List ℕ) (D : Database) (sound : Sound schema D) where
  -- What is found stands at position k + l, is the first choice for its join dependency, and those before have none
  pub record FoundAt (js : List JoinDependency) (k : ℕ) (found : (ℕ × JoinDependency) × List ℕ) : Type 0 where
    pub at : ℕ
    pub number : found.0.0 ≡ k + at
    pub held : at < length js
    pub choice : first_choice schema (nth_join js at) D ≡ some found.1
    pub before : (l : ℕ) → l < at → first_choice schema (nth_join js l) D ≡ none

  found_at : (k : ℕ) (js : List JoinDependency) (found : (ℕ × JoinDependency) × List ℕ) → first_unmet_from k schema js D ≡ some found → FoundAt js k found
  unfolding first_unmet_from first_found numbered_from or_else
  found_at k [] found e = absurd (let z : ◌≡◌ {A = ℕ} 0 1 = cc in omega arith)
  found_at k (j ∷ js) found e = go (first_choice schema j D) refl (found_at (suc k) js found)
    where
      go : (o : Option (List ℕ)) → first_choice schema j D ≡ o → (first_unmet_from (suc k) schema js D ≡ some found → FoundAt js (suc k) found)
          → FoundAt (j ∷ js) k found
      go (some ps) h later =
          let here : some ((k, j), ps) ≡ some found = sym (rw h) ∙ e in
          let is : ((k, j), ps) ≡ found = cc in
          subst (FoundAt (j ∷ js) k) is
          (record { at = 0; number = omega arith; held = omega arith; choice = h; before = λ l m. absurd (omega arith) })
      go none h later =
          let rest = later (sym (rw h) ∙ e) in
          record { at = suc rest.at; number = omega (arith, rest.number); held = omega (arith, rest.held); choice = rest.choice; before = earlier rest }
        where
          earlier : (rest : FoundAt js (suc k) found) (l : ℕ) → l < suc rest.at → first_choice schema (nth_join (j ∷ js) l) D ≡ none
          earlier rest zero m = h
          earlier rest (suc l) m = rest.before l (omega arith)

  -- Where none is found none has a choice
  none-at : (k : ℕ) (js : List JoinDependency) → first_unmet_from k schema js D ≡ none → (l : ℕ) → l < length js → first_choice schema (nth_join js l) D ≡ none
  unfolding first_unmet_from first_found numbered_from or_else
  none-at k [] e l m = absurd (omega arith)
  none-at k (j ∷ js) e l m = go (first_choice schema j D) refl l m (none-at (suc k) js)
    where
      go : (o : Option (List ℕ)) → first_choice schema j D ≡ o → (l : ℕ) → l < suc (length js)
          → (first_unmet_from (suc k) schema js D ≡ none → (l : ℕ) → l < length js → first_choice schema (nth_join js l) D ≡ none)
          → first_choice schema (nth_join (j ∷ js) l) D ≡ none
      go (some ps) h l m later = absurd (let z : some ((k, j), ps) ≡ none = sym (rw h) ∙ e in let y : ◌≡◌ {A = ℕ} 0 1 = cc in omega arith)
      go none h zero m later = h
      go none h (suc l) m later = later (sym (rw h) ∙ e) l (omega arith)

  -- and where none has a choice none is found
  at_none : (k : ℕ) (js : List JoinDependency) → ((l : ℕ) → l < length js → first_choice schema (nth_join js l) D ≡ none) → first_unmet_from k schema js D ≡ none
  unfolding first_unmet_from first_found numbered_from or_else
  at_none k [] kept = refl
  at_none k (j ∷ js) kept = rw (kept 0 (omega arith)) (at_none (suc k) js (λ l m. kept (suc l) (omega arith)))

  -- ---- 2. the first

  module _ (js : List JoinDependency) (fits : JoinsFit schema js) where
    fit : (k : ℕ) → k < length js → JoinFits schema (nth_join js k)
    fit k h = fits (nth_join js k) (get_or-in js k (record { relation = 0; sets = [] }) h)

    pub found-unmet : (found : (ℕ × JoinDependency) × List ℕ) → first_unmet_from 0 schema js D ≡ some found → FirstUnmet schema js D found.0.0 found.1
    found-unmet found e =
        let f = found_at 0 js found e in
        let k : f.at ≡ found.0.0 = omega (arith, f.number) in
        subst (λ (k : ℕ). FirstUnmet schema js D k found.1) k
        (record {
          held = f.held;
          first = found_first schema (nth_join js f.at) (fit f.at f.held) D sound found.1 f.choice;
          dependencies-before = λ l m qs b. none-breaks schema (nth_join js l) (fit l (omega (arith, m, f.held))) D sound (f.before l m) qs b;
        })

    one-dependency : (k l : ℕ) (ps qs : List ℕ) → FirstUnmet schema js D k ps → FirstUnmet schema js D l qs → k ≡ l
    one-dependency k l ps qs f g =
        ⊎_elim (λ h. absurd (g.dependencies-before k h ps f.first.breaks))
        (λ h. ⊎_elim (λ m. absurd (f.dependencies-before l m qs g.first.breaks)) (λ m. omega arith) (below-or-past l k)) (below-or-past k l)

    one-unmet : (k l : ℕ) (ps qs : List ℕ) → FirstUnmet schema js D k ps → FirstUnmet schema js D l qs → (k ≡ l) × (ps ≡ qs)
    one-unmet k l ps qs f g =
        let e = one-dependency k l ps qs f g in
        let g' = subst (λ (x : ℕ). FirstUnmet schema js D x qs) (sym e) g in
        (e, one-first schema (nth_join js k) (fit k f.held) D sound ps qs f.first g'.first)

    -- The first is what is found
    pub unmet-answer : (k : ℕ) (ps : List ℕ) → FirstUnmet schema js D k ps → unmet_of (first_unmet_from 0 schema js D) ≡ joined_at k ps
    unmet-answer k ps f =
        option_cases (first_unmet_from 0 schema js D)
        (λ found e.
        let same = one-unmet found.0.0 k found.1 ps (found-unmet found e) f in
        ap unmet_of e ∙ (λ i. joined_at (same.0 i) (same.1 i)))
        (λ e.
        absurd (none-breaks schema (nth_join js k) (fit k f.held) D sound (none-at 0 js e k f.held) ps f.first.breaks))

    obeys-none : ObeysJoins schema js D → first_unmet_from 0 schema js D ≡ none
    obeys-none obeys =
        at_none 0 js (λ l m.
        unbroken-none schema (nth_join js l) (fit l m) D sound
        (obeys-unbroken schema (nth_join js l) (fit l m) D sound (obeys (nth_join js l) (get_or-in js l (record { relation = 0; sets = [] }) m))))

-- A member of a list is at a position of it
none-obeys : (schema : List ℕ) (D : Database) (sound : Sound schema D) (k : ℕ) (js : List JoinDependency) → JoinsFit schema js
    → first_unmet_from k schema js D ≡ none → ObeysJoins schema js D
none-obeys schema D sound k [] fits e j at = absurd (Memᴰ.not-nil at)
none-obeys schema D sound k (i ∷ js) fits e j at =
    mem-cases at
    (λ here.
    let fit = fits i (Memᴰ.head refl) in
    subst (λ (x : JoinDependency). ObeysJoin schema x D) (sym here)
    (unbroken-obeys schema i fit D sound (none-breaks schema i fit D sound (none-at schema D sound k (i ∷ js) e 0 (omega arith)))))
    (none-obeys schema D sound (suc k) js (λ x m. fits x (Memᴰ.tail m)) (at_none schema D sound (suc k) js (λ l m. none-at schema D sound k (i ∷ js) e (suc l) (omega arith))) j)

-- ---- 3. the answer

-- What is found first decides
either-absent : (v w : Maybe Violation) → or_joined v w ≡ None → (v ≡ None) × (w ≡ None)
either-absent None w e = (refl, e)
either-absent (Some v) w e = absurd (let z : ◌≡◌ {A = ℕ} 0 1 = cc in omega arith)

unmet-absent : (o : Option ((ℕ × JoinDependency) × List ℕ)) → unmet_of o ≡ None → o ≡ none
unmet-absent none e = refl
unmet-absent (some found) e = absurd (let z : ◌≡◌ {A = ℕ} 0 1 = cc in omega arith)

-- A functional dependency is named only by the first, and a join dependency only by the second
first-names : (v : Maybe Violation) (o : Option ((ℕ × JoinDependency) × List ℕ)) (k i j : ℕ) → or_joined v (unmet_of o) ≡ Some (Functional k i j)
    → v ≡ Some (Functional k i j)
first-names None none k i j e = absurd (let z : ◌≡◌ {A = ℕ} 0 1 = cc in omega arith)
first-names None (some found) k i j e = absurd (let z : ◌≡◌ {A = ℕ} 0 1 = cc in omega arith)
first-names (Some v) o k i j e = e

second-names : (o : Option ((ℕ × Dependency) × ((ℕ × Row ℕ) × (ℕ × Row ℕ)))) (w : Maybe Violation) (k : ℕ) (rows : List ℕ)
    → or_joined (violation_of o) w ≡ Some (Join k rows) → (violation_of o ≡ None) × (w ≡ Some (Join k rows))
second-names none w k rows e = (refl, e)
second-names (some found) w k rows e = absurd (let z : ◌≡◌ {A = ℕ} 0 1 = cc in omega arith)

-- As many positions as sets
inside-length : (sets : List (List ℕ)) (n : ℕ) (ps : List ℕ) → Inside sets n ps → length ps ≡ length sets
inside-length [] n (p ∷ ps) h = elim h [ ]
inside-length (set ∷ sets) n [] h = elim h [ ]
inside-length [] n [] h = refl
inside-length (set ∷ sets) n (p ∷ ps) h = let e : length ps ≡ length sets = inside-length sets n ps h.1 in omega arith

-- At most four positions, 0 after them
four : (ps : List ℕ) → length ps ≤ 4 → pad 4 0 ps ≡ get_or ps 0 0 ∷ get_or ps 1 0 ∷ get_or ps 2 0 ∷ get_or ps 3 0 ∷ []
unfolding pad
four [] h = refl
four (a ∷ []) h = refl
four (a ∷ b ∷ []) h = refl
four (a ∷ b ∷ c ∷ []) h = refl
four (a ∷ b ∷ c ∷ d ∷ []) h = refl
four (a ∷ b ∷ c ∷ d ∷ e ∷ ps) h = absurd (omega arith)

pub few : (schema : List ℕ) (js : List JoinDependency) (D : Database) → FewSets js → (k : ℕ) (ps : List ℕ) → FirstUnmet schema js D k ps → length ps ≤ 4
few schema js D small k ps f =
    let b = f.first.breaks in
    let size : length ps ≡ length (nth_join js k).sets =
    inside-length (nth_join js k).sets (length D) ps (goes-inside D b.row (nth_join js k).sets ps b.chosen) in
    omega (arith, size, small (nth_join js k) (get_or-in js k (record { relation = 0; sets = [] }) f.held))

pub obeys-both-means : ObeysMeans
unfolding violation_in
obeys-both-means schema ds js D fits sound = (
  λ e.
      let both = either-absent (violation_of (first_broken_from 0 ds D)) (unmet_of (first_unmet_from 0 schema js D)) e in
      record {
        functional = (obeys-means ds D).0 both.0;
        joins = none-obeys schema D sound 0 js fits (unmet-absent (first_unmet_from 0 schema js D) both.1);
      },
  λ obeys.
      ap (λ (v : Maybe Violation). or_joined v (unmet_of (first_unmet_from 0 schema js D))) ((obeys-means ds D).1 obeys.functional)
      ∙ ap unmet_of (obeys-none schema D sound js fits obeys.joins),
)

pub broken-first : BrokenFirst
unfolding violation_in
broken-first schema ds js D k i j = (
  λ e. (broken-means ds D k i j).0 (first-names (violation_of (first_broken_from 0 ds D)) (first_unmet_from 0 schema js D) k i j e),
  λ f. ap (λ (v : Maybe Violation). or_joined v (unmet_of (first_unmet_from 0 schema js D))) ((broken-means ds D k i j).1 f),
)

pub joined-means : JoinedMeans
unfolding violation_in
joined-means schema ds js D k a b c d fits small sound = (
  λ e.
      let both = second-names (first_broken_from 0 ds D) (unmet_of (first_unmet_from 0 schema js D)) k (a ∷ b ∷ c ∷ d ∷ []) e in
      let n = named both.1 in ((obeys-means ds D).0 both.0, n.0, n.1, n.2),
  λ given.
      let f = given.3 in
      let is : get_or given.1 0 0 ∷ get_or given.1 1 0 ∷ get_or given.1 2 0 ∷ get_or given.1 3 0 ∷ [] ≡ a ∷ b ∷ c ∷ d ∷ [] =
      sym (four given.1 (few schema js D small k given.1 f)) ∙ given.2 in
      ap (λ (v : Maybe Violation). or_joined v (unmet_of (first_unmet_from 0 schema js D))) ((obeys-means ds D).1 given.0)
      ∙ unmet-answer schema D sound js fits k given.1 f
      ∙ ap (λ (l : List ℕ). Some (Join k l)) is,
)
  where
    named : unmet_of (first_unmet_from 0 schema js D) ≡ Some (Join k (a ∷ b ∷ c ∷ d ∷ []))
        → (ps : List ℕ) × (pad 4 0 ps ≡ a ∷ b ∷ c ∷ d ∷ []) × FirstUnmet schema js D k ps
    named e =
        option_cases (first_unmet_from 0 schema js D)
        (λ found is.
        let v : joined_at found.0.0 found.1 ≡ Some (Join k (a ∷ b ∷ c ∷ d ∷ [])) = ap unmet_of (sym is) ∙ e in
        let l : found.0.0 ≡ k = cc in
        let rows : get_or found.1 0 0 ∷ get_or found.1 1 0 ∷ get_or found.1 2 0 ∷ get_or found.1 3 0 ∷ [] ≡ a ∷ b ∷ c ∷ d ∷ [] = cc in
        let f = subst (λ (x : ℕ). FirstUnmet schema js D x found.1) l (found-unmet schema D sound js fits found is) in
        (found.1, four found.1 (few schema js D small k found.1 f) ∙ rows, f))
        (λ is. absurd (let v : None ≡ Some (Join k (a ∷ b ∷ c ∷ d ∷ [])) = ap unmet_of (sym is) ∙ e in let z : ◌≡◌ {A = ℕ} 0 1 = cc in omega arith))
