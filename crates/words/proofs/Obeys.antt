-- A test finds no broken dependency exactly when the database obeys the dependencies, as the theory defines it. Assumes nothing.
use mathlib.Core.Path.{◌≡◌, refl, ap, sym, subst, ◌∙◌}
use mathlib.Core.Bool.{Bool, true, false, false≢true}
use mathlib.Core.List.Memᴰ
use mathlib.Core.List.{List, [], ◌∷◌}
use mathlib.Core.Option.{Option, none, some, or_else, map}
use Prim.Native.Nat.{ℕ, suc}
use native.Mathlib.Omega.{arith}
use lib.Dec.{eqb}
use borrow.Author.Tests.{eqb-true, eq-eqb}
use lib.ListN.{get_or-map}
use Rattle.theory.specs.Query.{Row, constant, column, map_row, same_entry, ◌∈◌}
use Rattle.theory.specs.Database.{Database, Dependency, Agree, ObeysOne, Obeys}
use Rattle.theory.specs.Chase.{first_passing, first_pair, first_found, agree, breaks}
use Rattle.words.specs.Testing.{numbered_from, breaks_rows, breaks_with, first_pair_from, first_broken_from}
use Rattle.lists.proofs.Tests.{and_left, and_right}

-- ---- two rows

-- two rows of constants have the same entry in a column when the rows have the same number there
pub same-constants : (r s : Row ℕ) (c : ℕ) → same_entry (column (constant 0) (map_row constant r) c) (column (constant 0) (map_row constant s) c) ≡ eqb
    (column 0 r c) (column 0 s c)
unfolding same_entry
same-constants r s c = rw (get_or-map constant r.values c 0, get_or-map constant s.values c 0)

pub agree-true : (cs : List ℕ) (r s : Row ℕ) → Agree 0 cs r s → agree cs (map_row constant r) (map_row constant s) ≡ true
unfolding agree
agree-true [] r s h = refl
agree-true (c ∷ cs) r s h =
    rw (same-constants r s c, eq-eqb (column 0 r c) (column 0 s c) (h c (Memᴰ.head refl))) (agree-true cs r s (λ b m. h b (Memᴰ.tail m)))

pub agree-all : (cs : List ℕ) (r s : Row ℕ) → agree cs (map_row constant r) (map_row constant s) ≡ true → Agree 0 cs r s
unfolding agree
agree-all [] r s h b m = absurd (Memᴰ.not-nil m)
agree-all (c ∷ cs) r s h b (Memᴰ.head e) =
    let first : eqb (column 0 r c) (column 0 s c) ≡ true = sym (same-constants r s c) ∙ and_left
    (same_entry (column (constant 0) (map_row constant r) c) (column (constant 0) (map_row constant s) c)) (agree cs (map_row constant r) (map_row constant s)) h in
    subst (λ (x : ℕ). column 0 r x ≡ column 0 s x) (sym e) (eqb-true (column 0 r c) (column 0 s c) first)
agree-all (c ∷ cs) r s h b (Memᴰ.tail m) =
    agree-all cs r s (and_right (same_entry (column (constant 0) (map_row constant r) c) (column (constant 0) (map_row constant s) c))
    (agree cs (map_row constant r) (map_row constant s)) h) b m

-- rows that do not break a dependency keep it
pub breaks-kept : (d : Dependency) (r s : Row ℕ) → breaks_rows d r s ≡ false → r.relation ≡ d.relation → s.relation ≡ d.relation → Agree 0 d.left r s
    → column 0 r d.right ≡ column 0 s d.right
unfolding breaks
breaks-kept d r s h p q a = go (eqb (column 0 r d.right) (column 0 s d.right)) refl
  where
    go : (b : Bool) → eqb (column 0 r d.right) (column 0 s d.right) ≡ b → column 0 r d.right ≡ column 0 s d.right
    go true e = eqb-true (column 0 r d.right) (column 0 s d.right) e
    go false e =
        let broken : breaks_rows d r s ≡ true =
        rw (eq-eqb r.relation d.relation p, eq-eqb s.relation d.relation q, agree-true d.left r s a, same-constants r s d.right, e) in
        absurd (false≢true (sym h ∙ broken))

-- rows that keep a dependency do not break it
pub kept-breaks : (d : Dependency) (r s : Row ℕ)
    → (r.relation ≡ d.relation → s.relation ≡ d.relation → Agree 0 d.left r s → column 0 r d.right ≡ column 0 s d.right) → breaks_rows d r s ≡ false
unfolding breaks
kept-breaks d r s keep = go (eqb r.relation d.relation) refl (eqb s.relation d.relation) refl
    (agree d.left (map_row constant r) (map_row constant s)) refl
  where
    go : (x : Bool) → eqb r.relation d.relation ≡ x → (y : Bool) → eqb s.relation d.relation ≡ y → (z : Bool) → agree d.left (map_row constant r)
        (map_row constant s) ≡ z
        → breaks_rows d r s ≡ false
    go false p y q z a = rw p
    go true p false q z a = rw (p, q)
    go true p true q false a = rw (p, q, a)
    go true p true q true a =
        rw (
          p,
          q,
          a,
          same-constants r s d.right,
          eq-eqb (column 0 r d.right) (column 0 s d.right)
              (keep (eqb-true r.relation d.relation p) (eqb-true s.relation d.relation q) (agree-all d.left r s a)),
        )

-- ---- all rows

-- nothing passes: each row fails
none_passes : (test : (ℕ × Row ℕ) → Bool) (n : ℕ) (D : Database) → ((m : ℕ) (s : Row ℕ) → s ∈ D → test (m, s) ≡ false) → first_passing test (numbered_from n D)
    ≡ none
unfolding first_passing numbered_from
none_passes test n [] h = refl
none_passes test n (s ∷ D) h = rw (h n s (Memᴰ.head refl)) (none_passes test (suc n) D (λ m u k. h m u (Memᴰ.tail k)))

each-fails : (d : Dependency) (r : Row ℕ) (n : ℕ) (D : Database) → first_passing (breaks_with d r) (numbered_from n D) ≡ none → (s : Row ℕ) → s ∈ D
    → breaks_rows d r s ≡ false
unfolding first_passing numbered_from
each-fails d r n [] h s m = absurd (Memᴰ.not-nil m)
each-fails d r n (u ∷ D) h s m = go (λ i k. each-fails d r (suc n) D i s k) (breaks_rows d r u) refl m
  where
    go : (first_passing (breaks_with d r) (numbered_from (suc n) D) ≡ none → s ∈ D → breaks_rows d r s ≡ false)
        → (b : Bool) → breaks_rows d r u ≡ b → s ∈ (u ∷ D) → breaks_rows d r s ≡ false
    go later true e k = absurd (let z : some (n, u) ≡ none = sym (rw e) ∙ h in let y : ◌≡◌ {A = ℕ} 0 1 = cc in omega arith)
    go later false e (Memᴰ.head i) = ap (breaks_rows d r) i ∙ e
    go later false e (Memᴰ.tail k) = later (sym (rw e) ∙ h) k

-- nothing is found, neither first nor later
or-none : {A B : Type 0} (f : A → B) (o : Option A) (later : Option B) → or_else (map f o) later ≡ none → (o ≡ none) × (later ≡ none)
unfolding or_else
or-none f none later h = (refl, h)
or-none f (some x) later h = absurd (let z : ◌≡◌ {A = ℕ} 0 1 = cc in omega arith)

none_or : {A B : Type 0} (f : A → B) (o : Option A) (later : Option B) → o ≡ none → later ≡ none → or_else (map f o) later ≡ none
unfolding or_else
none_or f none later p q = q
none_or f (some x) later p q = absurd (let z : ◌≡◌ {A = ℕ} 0 1 = cc in omega arith)

pairs-obey : (d : Dependency) (n : ℕ) (D : Database) → first_pair_from d n D ≡ none → ObeysOne d D
unfolding first_pair numbered_from
pairs-obey d n [] h r s mr ms p q a = absurd (Memᴰ.not-nil mr)
pairs-obey d n (t ∷ D) h r s mr ms p q a =
    let both = or-none (λ y. ((n, t), y)) (first_passing (breaks_with d t) (numbered_from (suc n) D)) (first_pair_from d (suc n) D) h in
    go (each-fails d t (suc n) D both.0) (λ x y. pairs-obey d (suc n) D both.1 r s x y p q a) mr ms
  where
    swap : column 0 s d.right ≡ column 0 r d.right → column 0 r d.right ≡ column 0 s d.right
    swap e = sym e

    go : ((u : Row ℕ) → u ∈ D → breaks_rows d t u ≡ false) → (r ∈ D → s ∈ D → column 0 r d.right ≡ column 0 s d.right) → r ∈ (t ∷ D) → s ∈ (t ∷ D)
        → column 0 r d.right ≡ column 0 s d.right
    go fails later (Memᴰ.head e) (Memᴰ.head f) = ap (λ (x : Row ℕ). column 0 x d.right) (e ∙ sym f)
    go fails later (Memᴰ.head e) (Memᴰ.tail m) =
        breaks-kept d r s (ap (λ (x : Row ℕ). breaks_rows d x s) e ∙ fails s m) p q a
    go fails later (Memᴰ.tail m) (Memᴰ.head f) =
        swap (breaks-kept d s r (ap (λ (x : Row ℕ). breaks_rows d x r) f ∙ fails r m) q p (λ c k. sym (a c k)))
    go fails later (Memᴰ.tail m) (Memᴰ.tail k) = later m k

obey-pairs : (d : Dependency) (n : ℕ) (D : Database) → ObeysOne d D → first_pair_from d n D ≡ none
unfolding first_pair numbered_from
obey-pairs d n [] h = refl
obey-pairs d n (t ∷ D) h =
    none_or (λ y. ((n, t), y)) (first_passing (breaks_with d t) (numbered_from (suc n) D)) (first_pair_from d (suc n) D)
    (none_passes (breaks_with d t) (suc n) D (λ m s k. kept-breaks d t s (λ p q a. h t s (Memᴰ.head refl) (Memᴰ.tail k) p q a)))
    (obey-pairs d (suc n) D (λ r s mr ms p q a. h r s (Memᴰ.tail mr) (Memᴰ.tail ms) p q a))

-- ---- all dependencies

-- no broken dependency is found: the database obeys them
pub none-obeys : (k : ℕ) (ds : List Dependency) (D : Database) → first_broken_from k ds D ≡ none → Obeys ds D
unfolding first_broken_from first_found numbered_from
none-obeys k [] D h d m = absurd (Memᴰ.not-nil m)
none-obeys k (e ∷ ds) D h d m =
    let both = or-none (λ x. ((k, e), x)) (first_pair_from e 0 D) (first_broken_from (suc k) ds D) h in
    go (pairs-obey e 0 D both.0) (none-obeys (suc k) ds D both.1) m
  where
    go : ObeysOne e D → Obeys ds D → d ∈ (e ∷ ds) → ObeysOne d D
    go first later (Memᴰ.head i) = subst (λ (x : Dependency). ObeysOne x D) (sym i) first
    go first later (Memᴰ.tail n) = later d n

-- the database obeys the dependencies: no broken one is found
pub obeys-none : (k : ℕ) (ds : List Dependency) (D : Database) → Obeys ds D → first_broken_from k ds D ≡ none
unfolding first_broken_from first_found numbered_from
obeys-none k [] D h = refl
obeys-none k (e ∷ ds) D h =
    none_or (λ x. ((k, e), x)) (first_pair_from e 0 D) (first_broken_from (suc k) ds D) (obey-pairs e 0 D (h e (Memᴰ.head refl)))
    (obeys-none (suc k) ds D (λ d m. h d (Memᴰ.tail m)))
