-- One step of the chase. In this order: the search, as equations at the head of a list (for loops that go by what is left);
-- what the search tells, whether it finds something or not; what a step found says of the query.
-- What a replacement keeps is in `Replacement`. Assumes nothing.
use mathlib.Core.Path.{◌≡◌, refl, sym, ◌∙◌, ap, fun_ext}
use mathlib.Core.Logic.{◌≢◌, ◌⊎◌, inl, inr, ⊎_elim}
use mathlib.Core.Bool.{Bool, true, false, not, ◌&&◌, true≢false}
use mathlib.Core.Option.{Option, none, some, none-ne-some, some-injective, map-eq-none_iff, map-eq-some_iff, or_else, map}
use mathlib.Core.List.Memᴰ
use mathlib.Core.List.{List, [], ◌∷◌}
use Prim.Native.Nat.{ℕ, ◌<◌}
use native.Mathlib.Omega.{arith}
use borrow.Author.Tests.{eqb-true, eq-eqb, not-true}
use native.Mathlib.Decide.{dec_lt}
use lib.Dec.{eqb}
use lib.ListN.{length, get_or, get_or-eq_default}
use Rattle.lists.proofs.Positions.{get_or-in}
use Rattle.theory.specs.Query.{Entry, constant, variable, Row, Query, same_entry, column, row_entries, FitsSchema, ◌∈◌}
use Rattle.theory.specs.Database.{Dependency, Agree}
use Rattle.theory.specs.Chase.{first_passing, first_pair, first_found, agree, breaks, first_broken, Resolution, clash, replace}
use Rattle.theory.specs.Chase.{survives, resolve, in_head, resolve_pair, step}
use Rattle.theory.specs.OrderTheorems.{Broken}
use Rattle.lists.proofs.Tests.{and_left, and_right}
use Rattle.theory.proofs.Lists.{bool_cases, mem-cases, option_cases}
use Rattle.theory.proofs.Entries.{same_entry-eq, eq-same_entry, same_entry-ne, ne-same_entry, entry-dec, constant-variable, column-row_entries, row-row_entries}

-- ---- the search, at the head of a list

pub first_passing-nil : {A : Type 0} (test : A → Bool) → first_passing test [] ≡ none
unfolding first_passing
first_passing-nil test = refl

pub first_passing-true : {A : Type 0} (test : A → Bool) (x : A) (xs : List A) → test x ≡ true → first_passing test (x ∷ xs) ≡ some x
unfolding first_passing
first_passing-true test x xs e = rw e

pub first_passing-false : {A : Type 0} (test : A → Bool) (x : A) (xs : List A) → test x ≡ false → first_passing test (x ∷ xs) ≡ first_passing test xs
unfolding first_passing
first_passing-false test x xs e = rw e

pub first_pair-nil : {A : Type 0} (test : A → A → Bool) → first_pair test [] ≡ none
unfolding first_pair
first_pair-nil test = refl

pub first_pair-some : {A : Type 0} (test : A → A → Bool) (x y : A) (xs : List A)
    → first_passing (test x) xs ≡ some y → first_pair test (x ∷ xs) ≡ some (x, y)
unfolding first_pair or_else
first_pair-some test x y xs e = rw e

pub first_pair-none : {A : Type 0} (test : A → A → Bool) (x : A) (xs : List A)
    → first_passing (test x) xs ≡ none → first_pair test (x ∷ xs) ≡ first_pair test xs
unfolding first_pair or_else
first_pair-none test x xs e = rw e

pub first_found-nil : {D A : Type 0} (find : D → Option A) → first_found find [] ≡ none
unfolding first_found
first_found-nil find = refl

pub first_found-some : {D A : Type 0} (find : D → Option A) (d : D) (x : A) (ds : List D)
    → find d ≡ some x → first_found find (d ∷ ds) ≡ some (d, x)
unfolding first_found or_else
first_found-some find d x ds e = rw e

pub first_found-none : {D A : Type 0} (find : D → Option A) (d : D) (ds : List D)
    → find d ≡ none → first_found find (d ∷ ds) ≡ first_found find ds
unfolding first_found or_else
first_found-none find d ds e = rw e

-- A loop inside a loop: what the inner search finds comes before what is left of the outer one
-- The search of `first_broken` under way, for three nested loops by what is left of each.
-- For dependency d the pairs of the rows rs are left; then come the dependencies ds with all rows
unfoldable pub broken_for : Dependency → List (Row Entry) → List Dependency → List (Row Entry) → Option (Dependency × (Row Entry × Row Entry))
broken_for d rs ds rows = or_else (map (λ p. (d, p)) (first_pair (breaks d) rs)) (first_broken ds rows)

-- For dependency d the pairs of row r with the rows ss are left, and those of the rows rs; then come the dependencies ds with all rows
unfoldable pub broken_with : Dependency → Row Entry → List (Row Entry) → List (Row Entry) → List Dependency → List (Row Entry)
    → Option (Dependency × (Row Entry × Row Entry))
broken_with d r ss rs ds rows =
    or_else (map (λ p. (d, p)) (or_else (map (λ s. (r, s)) (first_passing (breaks d r) ss)) (first_pair (breaks d) rs))) (first_broken ds rows)

pub first_broken-nil : (rows : List (Row Entry)) → first_broken [] rows ≡ none
unfolding first_broken first_found
first_broken-nil rows = refl

pub first_broken-cons : (d : Dependency) (ds : List Dependency) (rows : List (Row Entry)) → first_broken (d ∷ ds) rows ≡ broken_for d rows ds rows
unfolding first_broken first_found broken_for
first_broken-cons d ds rows = refl

pub broken_for-nil : (d : Dependency) (ds : List Dependency) (rows : List (Row Entry)) → broken_for d [] ds rows ≡ first_broken ds rows
unfolding broken_for first_pair or_else
broken_for-nil d ds rows = refl

pub broken_for-cons : (d : Dependency) (r : Row Entry) (rs : List (Row Entry)) (ds : List Dependency) (rows : List (Row Entry))
    → broken_for d (r ∷ rs) ds rows ≡ broken_with d r rs rs ds rows
unfolding broken_for broken_with first_pair
broken_for-cons d r rs ds rows = refl

pub broken_with-nil : (d : Dependency) (r : Row Entry) (rs : List (Row Entry)) (ds : List Dependency) (rows : List (Row Entry))
    → broken_with d r [] rs ds rows ≡ broken_for d rs ds rows
unfolding broken_for broken_with first_passing or_else
broken_with-nil d r rs ds rows = refl

pub broken_with-true : (d : Dependency) (r s : Row Entry) (ss rs : List (Row Entry)) (ds : List Dependency) (rows : List (Row Entry))
    → breaks d r s ≡ true → broken_with d r (s ∷ ss) rs ds rows ≡ some (d, (r, s))
unfolding broken_with first_passing or_else
broken_with-true d r s ss rs ds rows e = rw e

pub broken_with-false : (d : Dependency) (r s : Row Entry) (ss rs : List (Row Entry)) (ds : List Dependency) (rows : List (Row Entry))
    → breaks d r s ≡ false → broken_with d r (s ∷ ss) rs ds rows ≡ broken_with d r ss rs ds rows
unfolding broken_with first_passing
broken_with-false d r s ss rs ds rows e = rw e

-- ---- what the search tells

-- Tests that agree find the same
pub first_passing-same : {A : Type 0} (test other : A → Bool) → ((x : A) → test x ≡ other x) → (xs : List A) → first_passing test xs ≡ first_passing other xs
first_passing-same test other same xs = ap (λ t. first_passing t xs) (fun_ext same)

pub first_passing-found : {A : Type 0} (test : A → Bool) (x : A) (xs : List A) → first_passing test xs ≡ some x → (x ∈ xs) × (test x ≡ true)
unfolding first_passing
first_passing-found test x [] e = absurd (none-ne-some x e)
first_passing-found test x (y ∷ ys) e =
    bool_cases
    (test y)
    (λ p. let same : x ≡ y = sym (some-injective _ _ (rw p at e)) in (Memᴰ.head same, rw same p))
    (λ p. let later = first_passing-found test x ys (rw p at e) in (Memᴰ.tail later.0, later.1))

pub first_passing-nothing : {A : Type 0} (test : A → Bool) (xs : List A) → first_passing test xs ≡ none → (x : A) → x ∈ xs → test x ≡ false
unfolding first_passing
first_passing-nothing test [] e x at = absurd (Memᴰ.not-nil at)
first_passing-nothing test (y ∷ ys) e x at =
    bool_cases
    (test y)
    (λ p. absurd (none-ne-some y (sym (rw p at e))))
    (λ p. mem-cases at (λ same. rw same p) (λ at'. first_passing-nothing test ys (rw p at e) x at'))

pub first_pair-found : {A : Type 0} (test : A → A → Bool) (p : A × A) (xs : List A) → first_pair test xs ≡ some p
    → (p.0 ∈ xs) × (p.1 ∈ xs) × (test p.0 p.1 ≡ true)
first_pair-found test p [] e = absurd (none-ne-some p (sym (first_pair-nil test) ∙ e))
first_pair-found test p (x ∷ xs) e =
    option_cases
    (first_passing (test x) xs)
    (λ y f. let at = first_passing-found (test x) y xs f in
    let same : p ≡ (x, y) = some-injective _ _ (sym e ∙ first_pair-some test x y xs f) in
    (Memᴰ.head (ap (λ q. q.0) same), Memᴰ.tail (Memᴰ.cast (ap (λ q. q.1) same) at.0), ap (λ q. test q.0 q.1) same ∙ at.1))
    (λ f. let later = first_pair-found test p xs (sym (first_pair-none test x xs f) ∙ e) in
    (Memᴰ.tail later.0, Memᴰ.tail later.1, later.2))

-- Of two different positions one comes first, and the pair in that order fails the test
pub first_pair-nothing : {A : Type 0} (test : A → A → Bool) (xs : List A) → first_pair test xs ≡ none
    → (x y : A) → x ∈ xs → y ∈ xs → (x ≡ y) ⊎ ((test x y ≡ false) ⊎ (test y x ≡ false))
first_pair-nothing test [] e x y at at' = absurd (Memᴰ.not-nil at)
first_pair-nothing test (z ∷ xs) e x y at at' =
    option_cases
    (first_passing (test z) xs)
    (λ w f. absurd (none-ne-some (z, w) (sym e ∙ first_pair-some test z w xs f)))
    (λ f. let passed = first_passing-nothing (test z) xs f in
    mem-cases
    at
    (λ here. mem-cases at' (λ here'. inl (here ∙ sym here')) (λ later'. inr (inl (rw here (passed y later')))))
    (λ later.
    mem-cases
    at'
    (λ here'. inr (inr (rw here' (passed x later))))
    (λ later'. first_pair-nothing test xs (sym (first_pair-none test z xs f) ∙ e) x y later later')))

pub first_found-found : {D A : Type 0} (find : D → Option A) (found : D × A) (ds : List D) → first_found find ds ≡ some found
    → (found.0 ∈ ds) × (find found.0 ≡ some found.1)
first_found-found find found [] e = absurd (none-ne-some found (sym (first_found-nil find) ∙ e))
first_found-found {A} find found (d ∷ ds) e =
    option_cases
    (find d)
    (λ x f. let same : found ≡ (d, x) = some-injective _ _ (sym e ∙ first_found-some find d x ds f) in
    (Memᴰ.head (ap (λ q. q.0) same), ap (λ q. find q.0) same ∙ f ∙ ap {B = Option A} (λ q. some q.1) (sym same)))
    (λ f. let later = first_found-found find found ds (sym (first_found-none find d ds f) ∙ e) in (Memᴰ.tail later.0, later.1))

pub first_found-nothing : {D A : Type 0} (find : D → Option A) (ds : List D) → first_found find ds ≡ none → (d : D) → d ∈ ds → find d ≡ none
first_found-nothing find [] e d at = absurd (Memᴰ.not-nil at)
first_found-nothing find (c ∷ ds) e d at =
    option_cases
    (find c)
    (λ x f. absurd (none-ne-some (c, x) (sym e ∙ first_found-some find c x ds f)))
    (λ f. mem-cases at (λ here. rw here f) (λ later. first_found-nothing find ds (sym (first_found-none find c ds f) ∙ e) d later))

-- ---- a broken dependency

-- Whether two rows have the same entry in a column
abbrev same_column : ℕ → Row Entry → Row Entry → Bool
same_column c r s = same_entry (column (constant 0) r c) (column (constant 0) s c)

-- `agree` is agreement on all columns
pub agree-all : (columns : List ℕ) (r s : Row Entry) → agree columns r s ≡ true → Agree (constant 0) columns r s
unfolding agree
agree-all [] r s e c at = absurd (Memᴰ.not-nil at)
agree-all (k ∷ columns) r s e c at =
    mem-cases
    at
    (λ here. rw here (same_entry-eq (column (constant 0) r k) (column (constant 0) s k) (and_left (same_column k r s) (agree columns r s) e)))
    (λ later. agree-all columns r s (and_right (same_column k r s) (agree columns r s) e) c later)

pub all-agree : (columns : List ℕ) (r s : Row Entry) → Agree (constant 0) columns r s → agree columns r s ≡ true
unfolding agree
all-agree [] r s same = refl
all-agree (k ∷ columns) r s same =
    rw
    (eq-same_entry (column (constant 0) r k) (column (constant 0) s k) (same k (Memᴰ.head refl)))
    (all-agree columns r s (λ c at. same c (Memᴰ.tail at)))

-- `breaks` tests for a broken dependency
pub breaks-broken : (d : Dependency) (r s : Row Entry) → breaks d r s ≡ true → Broken d r s
unfolding breaks
breaks-broken d r s e =
    let first = eqb r.relation d.relation in
    let second = eqb s.relation d.relation in
    let left = agree d.left r s in
    let right = not (same_column d.right r s) in
    let three = and_left (first && second && left) right e in
    let two = and_left (first && second) left three in
    record {
      first-relation = eqb-true r.relation d.relation (and_left first second two);
      second-relation = eqb-true s.relation d.relation (and_right first second two);
      agree_left = agree-all d.left r s (and_right (first && second) left three);
      differ-right = same_entry-ne
          (column (constant 0) r d.right)
          (column (constant 0) s d.right)
          (not-true (same_column d.right r s) (and_right (first && second && left) right e));
    }

pub broken-breaks : (d : Dependency) (r s : Row Entry) → Broken d r s → breaks d r s ≡ true
unfolding breaks
broken-breaks d r s b =
    rw (
      eq-eqb r.relation d.relation b.first-relation,
      eq-eqb s.relation d.relation b.second-relation,
      all-agree d.left r s b.agree_left,
      ne-same_entry (column (constant 0) r d.right) (column (constant 0) s d.right) b.differ-right,
    )

pub passes-unbroken : (d : Dependency) (r s : Row Entry) → breaks d r s ≡ false → Broken d r s → ⊥
passes-unbroken d r s e b = true≢false (sym (broken-breaks d r s b) ∙ e)

-- What is found breaks a dependency of the list, and both rows are there
pub first_broken-found : (ds : List Dependency) (rows : List (Row Entry)) (found : Dependency × (Row Entry × Row Entry)) → first_broken ds rows ≡ some found
    → (found.0 ∈ ds) × (found.1.0 ∈ rows) × (found.1.1 ∈ rows) × Broken found.0 found.1.0 found.1.1
unfolding first_broken
first_broken-found ds rows found e =
    let which = first_found-found (λ d. first_pair (breaks d) rows) found ds e in
    let pair = first_pair-found (breaks found.0) found.1 rows which.1 in
    (which.0, pair.0, pair.1, breaks-broken found.0 found.1.0 found.1.1 pair.2)

-- Where nothing is found every dependency holds: two rows of its relation, in whichever order, that agree on the left columns agree on the right one
pub first_broken-nothing : (ds : List Dependency) (rows : List (Row Entry)) → first_broken ds rows ≡ none
    → (d : Dependency) → d ∈ ds → (r s : Row Entry) → r ∈ rows → s ∈ rows → r.relation ≡ d.relation → s.relation ≡ d.relation
    → Agree (constant 0) d.left r s → column (constant 0) r d.right ≡ column (constant 0) s d.right
unfolding first_broken
first_broken-nothing ds rows e d held r s at at' relation relation' same =
    ⊎_elim
    (λ equal. equal)
    (λ differ.
    ⊎_elim
    (λ equal. ap (λ t. column (constant 0) t d.right) equal)
    (⊎_elim
    (λ passed.
    absurd
    (passes-unbroken
    d
    r
    s
    passed
    (record { first-relation = relation; second-relation = relation'; agree_left = same; differ-right = differ })))
    (λ passed.
    absurd
    (passes-unbroken
    d
    s
    r
    passed
    (record {
      first-relation = relation';
      second-relation = relation;
      agree_left = λ c left. sym (same c left);
      differ-right = λ equal. differ (sym equal);
    }))))
    (first_pair-nothing (breaks d) rows (first_found-nothing (λ d'. first_pair (breaks d') rows) ds e d held) r s at at'))
    (entry-dec (column (constant 0) r d.right) (column (constant 0) s d.right))

-- No rows, nothing broken
pub first_broken-empty : (ds : List Dependency) → first_broken ds [] ≡ none
unfolding first_broken first_found first_pair or_else
first_broken-empty [] = refl
first_broken-empty (d ∷ ds) = first_broken-empty ds

-- ---- the step

-- The dependencies ask that entries x and y be equal: two rows of the relation of one of them agree on its left columns, and have x and y in its right one
pub record Forced (ds : List Dependency) (rows : List (Row Entry)) (x y : Entry) : Type 0 where
  pub dependency : Dependency
  pub first : Row Entry
  pub second : Row Entry
  pub held : dependency ∈ ds
  pub first-there : first ∈ rows
  pub second-there : second ∈ rows
  pub first-relation : first.relation ≡ dependency.relation
  pub second-relation : second.relation ≡ dependency.relation
  pub agree_left : Agree (constant 0) dependency.left first second
  pub first_entry : column (constant 0) first dependency.right ≡ x
  pub second-entry : column (constant 0) second dependency.right ≡ y

pub forced-swap : {ds : List Dependency} {rows : List (Row Entry)} {x y : Entry} → Forced ds rows x y → Forced ds rows y x
forced-swap f =
    record {
      dependency = f.dependency;
      first = f.second;
      second = f.first;
      held = f.held;
      first-there = f.second-there;
      second-there = f.first-there;
      first-relation = f.second-relation;
      second-relation = f.first-relation;
      agree_left = λ c at. sym (f.agree_left c at);
      first_entry = f.second-entry;
      second-entry = f.first_entry;
    }

-- A forced entry stands in the rows, or is the constant 0 that stands in for a missing column
pub forced-entry : {ds : List Dependency} {rows : List (Row Entry)} {x y : Entry} → Forced ds rows x y → (x ≡ constant 0) ⊎ (x ∈ row_entries rows)
forced-entry {rows} f =
    ⊎_elim
    (λ default. inl (sym f.first_entry ∙ default))
    (λ there. inr (Memᴰ.cast (sym f.first_entry) there))
    (column-row_entries rows f.first f.dependency.right f.first-there)

-- so a forced variable does
pub forced-variable : {ds : List Dependency} {rows : List (Row Entry)} {y : Entry} {v : ℕ} → Forced ds rows (variable v) y → variable v ∈ row_entries rows
forced-variable {v} f = ⊎_elim (λ default. absurd (constant-variable 0 v (sym default))) (λ there. there) (forced-entry f)

-- Of different entries that are forced to be equal the second stands in the rows, if these fit a schema: then both columns are there, or neither is
pub forced-there : {ds : List Dependency} {rows : List (Row Entry)} {x y : Entry} (widths : List ℕ)
    → ((r : Row Entry) → r ∈ rows → FitsSchema widths r) → Forced ds rows x y → x ≢ y → y ∈ row_entries rows
forced-there {rows} {x} {y} widths fit f other = go (dec_lt f.dependency.right (length f.second.values))
  where
    wide : length f.first.values ≡ length f.second.values
    wide =
        (fit f.first f.first-there).1 ∙ ap (λ k. get_or widths k 0) (f.first-relation ∙ sym f.second-relation)
        ∙ sym (fit f.second f.second-there).1

    go : Dec (f.dependency.right < length f.second.values) → y ∈ row_entries rows
    go (yes inside) =
        row-row_entries rows f.second y f.second-there
        (Memᴰ.cast (sym f.second-entry) (get_or-in f.second.values f.dependency.right (constant 0) inside))
    go (no outside) =
        absurd
        (other
        (sym f.first_entry ∙ get_or-eq_default f.first.values (constant 0) (omega (arith, wide))
        ∙ sym (get_or-eq_default f.second.values (constant 0) (omega arith)) ∙ f.second-entry))

pub clash-replace : (v : ℕ) (e : Entry) → clash ≡ replace v e → ⊥
clash-replace v e is = let z : ◌≡◌ {A = ℕ} 0 1 = cc in omega arith

pub replace-number : {v w : ℕ} {x y : Entry} → replace v x ≡ replace w y → v ≡ w
replace-number e = cc

pub replace-entry : {v w : ℕ} {x y : Entry} → replace v x ≡ replace w y → x ≡ y
replace-entry e = cc

-- A clash is of two constants
pub resolve-clash : (shown : ℕ → Bool) (x y : Entry) → resolve shown x y ≡ clash → (m : ℕ) × (n : ℕ) × (x ≡ constant m) × (y ≡ constant n)
unfolding resolve
resolve-clash shown (constant m) (constant n) e = (m, n, refl, refl)
resolve-clash shown (constant m) (variable w) e = let z : ◌≡◌ {A = ℕ} 0 1 = cc in absurd (omega arith)
resolve-clash shown (variable v) (constant n) e = let z : ◌≡◌ {A = ℕ} 0 1 = cc in absurd (omega arith)
resolve-clash shown (variable v) (variable w) e =
    bool_cases
    (survives shown v w)
    (λ p. absurd (clash-replace w (variable v) (sym (rw p at e))))
    (λ p. absurd (clash-replace v (variable w) (sym (rw p at e))))

-- A replacement is of one of the two entries by the other
pub resolve-replace : (shown : ℕ → Bool) (x y : Entry) (v : ℕ) (e : Entry) → resolve shown x y ≡ replace v e
    → ((x ≡ variable v) × (y ≡ e)) ⊎ ((x ≡ e) × (y ≡ variable v))
unfolding resolve
resolve-replace shown (constant m) (constant n) u e is = absurd (clash-replace u e is)
resolve-replace shown (constant m) (variable w) u e is = inr (replace-entry is, ap variable (replace-number is))
resolve-replace shown (variable v) (constant n) u e is = inl (ap variable (replace-number is), replace-entry is)
resolve-replace shown (variable v) (variable w) u e is =
    bool_cases
    (survives shown v w)
    (λ p. let is' = rw p at is in inr (replace-entry is', ap variable (replace-number is')))
    (λ p. let is' = rw p at is in inl (ap variable (replace-number is'), replace-entry is'))

pub step-rests : (ds : List Dependency) (q : Query) → first_broken ds q.rows ≡ none → step ds q ≡ none
unfolding step
step-rests ds q e = rw e

-- A step is made by what is found
pub step-found : (ds : List Dependency) (q : Query) (o : Resolution) → step ds q ≡ some o
    → (found : Dependency × (Row Entry × Row Entry)) × (first_broken ds q.rows ≡ some found) × (resolve_pair q found ≡ o)
unfolding step
step-found ds q o e = (map-eq-some_iff (resolve_pair q) (first_broken ds q.rows)).0 e

pub step-nothing : (ds : List Dependency) (q : Query) → step ds q ≡ none → first_broken ds q.rows ≡ none
unfolding step
step-nothing ds q e = (map-eq-none_iff (resolve_pair q) (first_broken ds q.rows)).0 e

-- The chase rests on a query without rows
pub step-never : (ds : List Dependency) (q : Query) → q.rows ≡ [] → step ds q ≡ none
step-never ds q e = step-rests ds q (ap (first_broken ds) e ∙ first_broken-empty ds)

-- The entries of the pair found are forced to be equal
pub found-forced : (ds : List Dependency) (rows : List (Row Entry)) (found : Dependency × (Row Entry × Row Entry)) (x y : Entry)
    → first_broken ds rows ≡ some found
    → column (constant 0) found.1.0 found.0.right ≡ x → column (constant 0) found.1.1 found.0.right ≡ y → Forced ds rows x y × (x ≢ y)
found-forced ds rows found x y e first second =
    let what = first_broken-found ds rows found e in
    let broken = what.3 in (
      record {
        dependency = found.0;
        first = found.1.0;
        second = found.1.1;
        held = what.0;
        first-there = what.1;
        second-there = what.2;
        first-relation = broken.first-relation;
        second-relation = broken.second-relation;
        agree_left = broken.agree_left;
        first_entry = first;
        second-entry = second;
      },
      λ same. broken.differ-right (first ∙ same ∙ sym second),
    )

-- A replacement is of a variable that is forced to be the entry, and is another
pub step-replace : (ds : List Dependency) (q : Query) (v : ℕ) (e : Entry) → step ds q ≡ some (replace v e)
    → Forced ds q.rows (variable v) e × (e ≢ variable v)
step-replace ds q v e is =
    let what = step-found ds q (replace v e) is in
    let found = what.0 in
    let x = column (constant 0) found.1.0 found.0.right in
    let y = column (constant 0) found.1.1 found.0.right in
    ⊎_elim
    (λ c. let f = found-forced ds q.rows found (variable v) e what.1 c.0 c.1 in (f.0, λ same. f.1 (sym same)))
    (λ c. let f = found-forced ds q.rows found e (variable v) what.1 c.0 c.1 in (forced-swap f.0, f.1))
    (resolve-replace (in_head q) x y v e what.2)

-- A clash is of two constants that are forced to be equal, and are not
pub step-clash : (ds : List Dependency) (q : Query) → step ds q ≡ some clash
    → (m : ℕ) × (n : ℕ) × Forced ds q.rows (constant m) (constant n) × (m ≢ n)
step-clash ds q is =
    let what = step-found ds q clash is in
    let found = what.0 in
    let x = column (constant 0) found.1.0 found.0.right in
    let y = column (constant 0) found.1.1 found.0.right in
    let c = resolve-clash (in_head q) x y what.2 in
    let f = found-forced ds q.rows found (constant c.0) (constant c.1) what.1 c.2 c.3 in
    (c.0, c.1, f.0, λ same. f.1 (ap constant same))
