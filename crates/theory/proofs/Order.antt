-- The order of search: what `first_pair` and `first_found` find is the first. What the search finds at all, and what it tells when it finds nothing, is
-- in `Step`.
-- Assumes nothing.
use mathlib.Core.Path.{◌≡◌, refl, sym, ◌∙◌, ap, subst}
use mathlib.Core.Bool.{Bool, true, false}
use mathlib.Core.List.Memᴰ
use mathlib.Core.List.{List, [], ◌∷◌, ◌++◌, append-nil}
use mathlib.Core.Option.{Option, none, some, none-ne-some, some-injective}
use Rattle.theory.specs.Query.{◌∈◌}
use Rattle.theory.specs.Chase.{first_passing, first_pair, first_found}
use Rattle.theory.specs.OrderTheorems.{NoPair, FirstPair, FirstFound}
use Rattle.theory.proofs.Lists.{bool_cases, option_cases, mem-cases}
use Rattle.theory.proofs.Step.{first_passing-nil, first_passing-true, first_passing-false, first_passing-nothing}
use Rattle.theory.proofs.Step.{first_pair-nil, first_pair-some, first_pair-none, first_found-nil, first_found-some, first_found-none}

-- The element found passes, and none before it does
record FirstPassing {A : Type 0} (test : A → Bool) (xs : List A) (x : A) : Type 0 where
  before : List A
  after : List A
  places : xs ≡ before ++ x ∷ after
  passes : test x ≡ true
  none_before : (z : A) → z ∈ before → test z ≡ false

first_passing-first : {A : Type 0} (test : A → Bool) (xs : List A) (x : A) → first_passing test xs ≡ some x → FirstPassing test xs x
first_passing-first test [] x e = absurd (none-ne-some x (sym (first_passing-nil test) ∙ e))
first_passing-first test (y ∷ ys) x e =
    bool_cases
    (test y)
    (λ p.
    let same : y ≡ x = some-injective _ _ (sym (first_passing-true test y ys p) ∙ e) in
    record {
      before = [];
      after = ys;
      places = ap (λ z. z ∷ ys) same;
      passes = sym (ap test same) ∙ p;
      none_before = λ z at. absurd (Memᴰ.not-nil at);
    })
    (λ p.
    let rest = first_passing-first test ys x (sym (first_passing-false test y ys p) ∙ e) in
    record {
      before = y ∷ rest.before;
      after = rest.after;
      places = ap (λ l. y ∷ l) rest.places;
      passes = rest.passes;
      none_before = λ z at. mem-cases at (λ here. ap test here ∙ p) (rest.none_before z);
    })

pub first_pair-first : {A : Type 0} (test : A → A → Bool) (xs : List A) (x y : A) → first_pair test xs ≡ some (x, y) → FirstPair test xs x y
first_pair-first test [] x y e = absurd (none-ne-some (x, y) (sym (first_pair-nil test) ∙ e))
first_pair-first {A} test (w ∷ ws) x y e =
    option_cases
    (first_passing (test w) ws)
    (λ z f.
    let same : (w, z) ≡ (x, y) = some-injective _ _ (sym (first_pair-some test w z ws f) ∙ e) in
    subst (λ (p : A × A). FirstPair test (w ∷ ws) p.0 p.1) same
    (let rest = first_passing-first (test w) ws z f in
    record {
      before = [];
      between = rest.before;
      after = rest.after;
      places = ap (λ l. w ∷ l) rest.places;
      passes = rest.passes;
      none_before = tt;
      none_between = rest.none_before;
    }))
    (λ f.
    let rest = first_pair-first test ws x y (sym (first_pair-none test w ws f) ∙ e) in
    record {
      before = w ∷ rest.before;
      between = rest.between;
      after = rest.after;
      places = ap (λ l. w ∷ l) rest.places;
      passes = rest.passes;
      none_before = (λ z at. first_passing-nothing (test w) ws f z (subst (λ l. z ∈ l) (sym rest.places) at), rest.none_before);
      none_between = rest.none_between;
    })

pub first_pair-no-pair : {A : Type 0} (test : A → A → Bool) (xs : List A) → first_pair test xs ≡ none → NoPair test xs []
first_pair-no-pair test [] e = tt
first_pair-no-pair test (w ∷ ws) e =
    option_cases
    (first_passing (test w) ws)
    (λ z f. absurd (none-ne-some (w, z) (sym e ∙ first_pair-some test w z ws f)))
    (λ f. (
      λ z at. first_passing-nothing (test w) ws f z (subst (λ l. z ∈ l) (append-nil ws) at),
      first_pair-no-pair test ws (sym (first_pair-none test w ws f) ∙ e),
    ))

pub first_found-first : {D A : Type 0} (find : D → Option A) (ds : List D) (d : D) (x : A) → first_found find ds ≡ some (d, x) → FirstFound find ds d x
first_found-first find [] d x e = absurd (none-ne-some (d, x) (sym (first_found-nil find) ∙ e))
first_found-first {D} {A} find (c ∷ cs) d x e =
    option_cases
    (find c)
    (λ y f.
    let same : (c, y) ≡ (d, x) = some-injective _ _ (sym (first_found-some find c y cs f) ∙ e) in
    subst (λ (p : D × A). FirstFound find (c ∷ cs) p.0 p.1) same
    (record { before = []; after = cs; places = refl; found = f; none_before = λ b at. absurd (Memᴰ.not-nil at) }))
    (λ f.
    let rest = first_found-first find cs d x (sym (first_found-none find c cs f) ∙ e) in
    record {
      before = c ∷ rest.before;
      after = rest.after;
      places = ap (λ l. c ∷ l) rest.places;
      found = rest.found;
      none_before = λ b at. mem-cases at (λ here. ap find here ∙ f) (rest.none_before b);
    })
