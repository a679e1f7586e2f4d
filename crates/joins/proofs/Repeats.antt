-- Rows without repeats: `keep_first` keeps the earliest of what is the same, has the same elements where the test is equality, and is not longer.
-- Assumes nothing.
use mathlib.Core.Path.{◌≡◌, refl, sym, ◌∙◌, ap, subst}
use mathlib.Core.Logic.{◌⊎◌, inl, inr, ⊎_elim}
use mathlib.Core.Bool.{Bool, true, false, cond, true≢false}
use mathlib.Core.List.Memᴰ
use mathlib.Core.List.{List, [], ◌∷◌, ◌++◌}
use Prim.Native.Nat.{◌+◌, ◌≤◌}
use native.Mathlib.Omega.{arith}
use lib.ListN.{length, length-append}
use Rattle.theory.specs.Database.{JoinDependency}
use Rattle.theory.specs.Query.{Entry, Row, Query, ◌∈◌}
use Rattle.theory.specs.Chase.{first_passing}
use Rattle.theory.proofs.Lists.{option_cases, mem-cases}
use Rattle.theory.proofs.Step.{first_passing-found, first_passing-nothing}
use Rattle.minimization.specs.Checking.{same_row}
use Rattle.minimization.specs.Search.{is_some}
use Rattle.minimization.proofs.Checking.{same_row-eq, same_row-self}
use Rattle.joins.specs.JoinChase.{keep_first, without_repeats}

module _ {A : Type 0} (same : A → A → Bool) where
  -- The kept elements with one more, unless one that is the same is kept already
  abbrev keep_one : List A → A → List A
  keep_one kept x = cond (is_some (first_passing (same x) kept)) kept (kept ++ x ∷ [])

  -- By whether one is
  pub keep_one-cases : {C : Type 0} (kept : List A) (x : A) → ((y : A) → y ∈ kept → same x y ≡ true → keep_one kept x ≡ kept → C)
      → (((y : A) → y ∈ kept → same x y ≡ false) → keep_one kept x ≡ kept ++ x ∷ [] → C) → C
  keep_one-cases kept x there new =
      option_cases
      (first_passing (same x) kept)
      (λ y f.
      let found = first_passing-found (same x) y kept f in
      there y found.0 found.1 (ap (λ o. cond (is_some o) kept (kept ++ x ∷ [])) f))
      (λ f. new (first_passing-nothing (same x) kept f) (ap (λ o. cond (is_some o) kept (kept ++ x ∷ [])) f))

  -- What is kept after some elements is what is kept after the rest of them
  pub keep_first-append : (kept xs ys : List A) → keep_first same kept (xs ++ ys) ≡ keep_first same (keep_first same kept xs) ys
  unfolding keep_first
  keep_first-append kept [] ys = refl
  keep_first-append kept (x ∷ xs) ys = keep_first-append (keep_one kept x) xs ys

  -- One more element
  pub keep_first-snoc : (kept xs : List A) (x : A) → keep_first same kept (xs ++ x ∷ []) ≡ keep_one (keep_first same kept xs) x
  unfolding keep_first
  keep_first-snoc kept xs x = keep_first-append kept xs (x ∷ [])

  keep_one-stays : (kept : List A) (x y : A) → y ∈ kept → y ∈ keep_one kept x
  keep_one-stays kept x y at =
      keep_one-cases kept x (λ z there s e. subst (λ l. y ∈ l) (sym e) at) (λ new e. subst (λ l. y ∈ l) (sym e) (Memᴰ.append_left (x ∷ []) at))

  -- What is kept stays
  keep_first-stays : (kept rest : List A) (y : A) → y ∈ kept → y ∈ keep_first same kept rest
  unfolding keep_first
  keep_first-stays kept [] y at = at
  keep_first-stays kept (x ∷ xs) y at = keep_first-stays (keep_one kept x) xs y (keep_one-stays kept x y at)

  -- and nothing else comes in
  pub keep_first-of : (kept rest : List A) (y : A) → y ∈ keep_first same kept rest → (y ∈ kept) ⊎ (y ∈ rest)
  unfolding keep_first
  keep_first-of kept [] y at = inl at
  keep_first-of kept (x ∷ xs) y at =
      ⊎_elim
      (λ one. keep_one-cases kept x (λ z there s e. inl (subst (λ l. y ∈ l) e one))
      (λ new e. ⊎_elim inl (λ last. inr (mem-cases last (λ here. Memᴰ.head here) (λ none. absurd (Memᴰ.not-nil none))))
      (Memᴰ.append_cases kept (subst (λ l. y ∈ l) e one))))
      (λ later. inr (Memᴰ.tail later))
      (keep_first-of (keep_one kept x) xs y at)

  -- It is not longer
  pub keep_first-length : (kept rest : List A) → length (keep_first same kept rest) ≤ length kept + length rest
  unfolding keep_first
  keep_first-length kept [] = omega arith
  keep_first-length kept (x ∷ xs) =
      let rest = keep_first-length (keep_one kept x) xs in
      keep_one-cases kept x (λ z there s e. let l = ap length e in omega (arith, rest, l))
      (λ new e. let l = ap length e in omega (arith, rest, l, length-append kept (x ∷ [])))

  module _ (exact : (x y : A) → same x y ≡ true → x ≡ y) (self : (x : A) → same x x ≡ true) where
    keep_one-has : (kept : List A) (x : A) → x ∈ keep_one kept x
    keep_one-has kept x =
        keep_one-cases kept x (λ z there s e. subst (λ l. x ∈ l) (sym e) (Memᴰ.cast (exact x z s) there))
        (λ new e. subst (λ l. x ∈ l) (sym e) (Memᴰ.append_right kept (Memᴰ.head refl)))

    -- Each element is there
    pub keep_first-has : (kept rest : List A) (y : A) → y ∈ rest → y ∈ keep_first same kept rest
    unfolding keep_first
    keep_first-has kept [] y x' = elim x' [ ]
    keep_first-has kept (x ∷ xs) y (Memᴰ.head e) = keep_first-stays (keep_one kept x) xs y (Memᴰ.cast e (keep_one-has kept x))
    keep_first-has kept (x ∷ xs) y (Memᴰ.tail at) = keep_first-has (keep_one kept x) xs y at

    -- One that is the same is kept already exactly when the element itself is
    keep_one-there : (kept : List A) (x : A) → x ∈ kept → keep_one kept x ≡ kept
    keep_one-there kept x at = keep_one-cases kept x (λ z there s e. e) (λ new e. absurd (true≢false (sym (self x) ∙ new x at)))

    keep_one-new : (kept : List A) (x : A) → (x ∈ kept → ⊥) → keep_one kept x ≡ kept ++ x ∷ []
    keep_one-new kept x out = keep_one-cases kept x (λ z there s e. absurd (out (Memᴰ.cast (exact x z s) there))) (λ new e. e)

    pub snoc-there : (rows : List A) (r : A) → r ∈ rows → keep_first same [] (rows ++ r ∷ []) ≡ keep_first same [] rows
    snoc-there rows r at = keep_first-snoc [] rows r ∙ keep_one-there (keep_first same [] rows) r (keep_first-has [] rows r at)

    pub snoc_new : (rows : List A) (r : A) → (r ∈ rows → ⊥) → keep_first same [] (rows ++ r ∷ []) ≡ keep_first same [] rows ++ r ∷ []
    snoc_new rows r out =
        keep_first-snoc [] rows r
        ∙ keep_one-new (keep_first same [] rows) r
        (λ at. ⊎_elim (λ none. Memᴰ.not-nil none) out (keep_first-of [] rows r at))

    -- Nothing is left out the second time
    pub keep_first-twice : (rest : List A) → keep_first same [] (keep_first same [] rest) ≡ keep_first same [] rest
    unfolding keep_first
    keep_first-twice rest = go [] rest refl
      where
        go : (kept xs : List A) → keep_first same [] kept ≡ kept → keep_first same [] (keep_first same kept xs) ≡ keep_first same kept xs
        go kept [] e = e
        go kept (x ∷ xs) e =
            go (keep_one kept x) xs
            (keep_one-cases kept x (λ z there s is. ap (keep_first same []) is ∙ e ∙ sym is)
            (λ new is. ap (keep_first same []) is ∙ snoc_new kept x (λ at. true≢false (sym (self x) ∙ new x at)) ∙ ap (λ l. l ++ x ∷ []) e ∙ sym is))

-- ---- rows

-- A query without repeated rows has the rows of the query
pub repeats-into : (js : List JoinDependency) (q : Query) (r : Row Entry) → r ∈ (without_repeats js q).rows → r ∈ q.rows
unfolding without_repeats
repeats-into [] q r at = at
repeats-into (j ∷ js) q r at = ⊎_elim (λ none. absurd (Memᴰ.not-nil none)) (λ there. there) (keep_first-of same_row [] q.rows r at)

pub repeats-back : (js : List JoinDependency) (q : Query) (r : Row Entry) → r ∈ q.rows → r ∈ (without_repeats js q).rows
unfolding without_repeats
repeats-back [] q r at = at
repeats-back (j ∷ js) q r at = keep_first-has same_row same_row-eq same_row-self [] q.rows r at

pub repeats-head : (js : List JoinDependency) (q : Query) → (without_repeats js q).head ≡ q.head
unfolding without_repeats
repeats-head [] q = refl
repeats-head (j ∷ js) q = refl

pub repeats-length : (js : List JoinDependency) (q : Query) → length (without_repeats js q).rows ≤ length q.rows
unfolding without_repeats
repeats-length [] q = omega arith
repeats-length (j ∷ js) q = omega (arith, keep_first-length same_row [] q.rows)
