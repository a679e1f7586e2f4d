-- Leaders of groups, by positions: what passing one more row asks, and what is known once all rows are passed. Assumes nothing.
use mathlib.Core.Path.{◌≡◌, refl, ap, sym, subst, ◌∙◌}
use mathlib.Core.Bool.{Bool, true, false}
use mathlib.Core.List.{[], ◌∷◌}
use mathlib.Core.Option.{Option, none, or_else, map}
use Prim.Native.Nat.{ℕ, zero, suc, ◌+◌, ◌≤◌, ◌<◌}
use native.Mathlib.Omega.{arith}
use lib.Dec.{eqb, ltb}
use borrow.Author.Tests.{ltb-true, ltb-false, eqb-true, eqb-false}
use lib.ListN.{length, drop}
use Rattle.theory.specs.Query.{Row, column}
use Rattle.theory.specs.Database.{Database, Dependency}
use Rattle.theory.specs.Chase.{first_passing, first_pair}
use Rattle.words.specs.Testing.{numbered_from, breaks_with, first_pair_from}
use Rattle.words.proofs.Obeys.{kept-breaks}
use Rattle.grouping.specs.internal.Hash.{bucket_for, tag_of}
use Rattle.grouping.specs.internal.Groups.{PairKeeps, Apart, KeyBelow, Together, Led, Groups}
use Rattle.grouping.proofs.Hashes.{together-agree}
use Rattle.words.specs.Broken.{nth_row}

-- what holds of the pairs below n, and of n with each row before it, holds of the pairs below n + 1
pairs-more : (P : ℕ → ℕ → Type 0) (n : ℕ) → ((k j : ℕ) → k < j → j < n → P k j) → ((k : ℕ) → k < n → P k n)
    → (k j : ℕ) → k < j → j < n + 1 → P k j
pairs-more P n old new k j before below = go (eqb j n) refl
  where
    go : (b : Bool) → eqb j n ≡ b → P k j
    go true e =
        let here : j ≡ n = eqb-true j n e in
        subst (P k) (sym here) (new k (omega arith))
    go false e =
        let apart : j ≡ n → ⊥ = eqb-false j n e in
        old k j before (omega arith)

module _ (buckets : ℕ) (d : Dependency) (D : Database) where
  -- rows that are in one group with a third are in one group
  through : (r s t : Row ℕ) → Together buckets d r s → Together buckets d s t → Together buckets d r t
  through r s t p q = (p.0 ∙ q.0, p.1 ∙ q.1)

  back : (r s : Row ℕ) → Together buckets d r s → Together buckets d s r
  back r s p = (sym p.0, sym p.1)

  -- no row is passed
  pub groups-start : (least : ℕ) (number : ℕ → ℕ) → Groups buckets d D 0 least 0 number
  groups-start least number =
      record {
        passed = λ s h. absurd (omega arith);
        apart = λ s t h k. absurd (omega arith);
        led = λ k h. absurd (omega arith);
        kept = λ k j h i. absurd (omega arith);
      }

  module _ (n least count : ℕ) (number : ℕ → ℕ) (g : Groups buckets d D n least count number) where
    -- the row at n keeps the dependency with those before it
    more-kept : (low : ℕ) → low ≤ least → ((k : ℕ) → k < n → k < low → PairKeeps d (nth_row D k) (nth_row D n))
        → (k j : ℕ) → k < j → j < n + 1 → k < low → PairKeeps d (nth_row D k) (nth_row D j)
    more-kept low le keeps k j before below =
        pairs-more (λ (x y : ℕ). x < low → PairKeeps d (nth_row D x) (nth_row D y)) n (λ x y b l h. g.kept x y b l (omega arith)) keeps k j before below

    -- the row at n has a leader too
    more-led : (low : ℕ) → low ≤ least → (n < low → (nth_row D n).relation ≡ d.relation → Led buckets d D count number n)
        → (k : ℕ) → k < n + 1 → k < low → (nth_row D k).relation ≡ d.relation → Led buckets d D count number k
    more-led low le last k below h of = go (eqb k n) refl
      where
        go : (b : Bool) → eqb k n ≡ b → Led buckets d D count number k
        go true e =
            let here : k ≡ n = eqb-true k n e in
            subst (λ (m : ℕ). Led buckets d D count number m) (sym here)
            (last (omega arith) (subst (λ (m : ℕ). (nth_row D m).relation ≡ d.relation) here of))
        go false e =
            let apart : k ≡ n → ⊥ = eqb-false k n e in
            g.led k (omega arith) (omega arith) of

    -- two leaders of one group are one
    one-leader : (s t : ℕ) → s < count → t < count → Together buckets d (nth_row D (number s)) (nth_row D (number t)) → s ≡ t
    one-leader s t hs ht a = go (ltb s t) refl (ltb t s) refl
      where
        go : (x : Bool) → ltb s t ≡ x → (y : Bool) → ltb t s ≡ y → s ≡ t
        go true e y f = absurd (g.apart s t (ltb-true s t e) ht a)
        go false e true f = absurd (g.apart t s (ltb-true t s f) hs (back (nth_row D (number s)) (nth_row D (number t)) a))
        go false e false f =
            let p : t ≤ s = ltb-false s t e in
            let q : s ≤ t = ltb-false t s f in
            omega arith

    -- the row at n is of another relation
    pub groups-other : ((nth_row D n).relation ≡ d.relation → ⊥) → Groups buckets d D (n + 1) least count number
    groups-other other =
        record {
          passed = λ s h. let p : number s < n = g.passed s h in omega arith;
          apart = g.apart;
          led = more-led least (omega arith) (λ h of. absurd (other of));
          kept = more-kept least (omega arith) (λ k h i p q a. absurd (other q));
        }

    -- the row at n is in the group of leader t, and from `low` on it may differ from it
    pub groups-member : (low t : ℕ) → low ≤ least → t < count → Together buckets d (nth_row D (number t)) (nth_row D n)
        → (number t < low → column 0 (nth_row D (number t)) d.right ≡ column 0 (nth_row D n) d.right) → Groups buckets d D (n + 1) low count number
    groups-member low t le ht a same =
        record {
          passed = λ s h. let p : number s < n = g.passed s h in omega arith;
          apart = g.apart;
          led = more-led low le (λ h of. let p : number t < n = g.passed t ht in (t, ht, omega arith, a, same (omega arith)));
          kept = more-kept low le keeps;
        }
      where
        keeps : (k : ℕ) → k < n → k < low → PairKeeps d (nth_row D k) (nth_row D n)
        keeps k h i p q b =
            let l = g.led k h (omega arith) p in
            let s : ℕ = l.0 in
            let one : s ≡ t = one-leader s t l.1 ht
            (through (nth_row D (number s)) (nth_row D n) (nth_row D (number t))
            (through (nth_row D (number s)) (nth_row D k) (nth_row D n) l.3 (together-agree buckets d (nth_row D k) (nth_row D n) b))
            (back (nth_row D (number t)) (nth_row D n) a)) in
            let first : number t ≤ k = subst (λ (m : ℕ). number m ≤ k) one l.2 in
            sym l.4 ∙ ap (λ (m : ℕ). column 0 (nth_row D (number m)) d.right) one ∙ same (omega arith)

    -- no leader is in one group with the row at n: no row before it agrees with it
    absent-apart : ((s : ℕ) → s < count → Together buckets d (nth_row D (number s)) (nth_row D n) → ⊥)
        → (k : ℕ) → k < n → k < least → Apart d (nth_row D k) (nth_row D n)
    absent-apart absent k h i p q b =
        let l = g.led k h i p in
        absent l.0 l.1 (through (nth_row D (number l.0)) (nth_row D k) (nth_row D n) l.3 (together-agree buckets d (nth_row D k) (nth_row D n) b))

    absent-keeps : (low : ℕ) → low ≤ least → ((s : ℕ) → s < count → Together buckets d (nth_row D (number s)) (nth_row D n) → ⊥)
        → (k : ℕ) → k < n → k < low → PairKeeps d (nth_row D k) (nth_row D n)
    absent-keeps low le absent k h i p q b = absurd (absent-apart absent k h (omega arith) p q b)

    -- the left columns tell one more row apart: it is of another relation, or no leader is in one group with it and each row has one
    pub key-other : ((nth_row D n).relation ≡ d.relation → ⊥) → KeyBelow d D n → KeyBelow d D (n + 1)
    key-other other = λ old. pairs-more (λ (x y : ℕ). Apart d (nth_row D x) (nth_row D y)) n old (λ k h p q a. other q)

    pub key-new : n ≤ least → ((s : ℕ) → s < count → Together buckets d (nth_row D (number s)) (nth_row D n) → ⊥) → KeyBelow d D n → KeyBelow d D (n + 1)
    key-new low absent = λ old. pairs-more (λ (x y : ℕ). Apart d (nth_row D x) (nth_row D y)) n old (λ k h. absent-apart absent k h (omega arith))

    -- there is no room for the row at n, which would be a leader
    pub groups-full : (low : ℕ) → low ≤ least → low ≤ n → ((s : ℕ) → s < count → Together buckets d (nth_row D (number s)) (nth_row D n) → ⊥)
        → Groups buckets d D (n + 1) low count number
    groups-full low le full absent =
        record {
          passed = λ s h. let p : number s < n = g.passed s h in omega arith;
          apart = g.apart;
          led = more-led low le (λ h of. absurd (omega arith));
          kept = more-kept low le (absent-keeps low le absent);
        }

    -- the row at n is a new leader
    pub groups-new : (other : ℕ → ℕ) → ((s : ℕ) → s < count → other s ≡ number s) → other count ≡ n
        → ((s : ℕ) → s < count → Together buckets d (nth_row D (number s)) (nth_row D n) → ⊥) → Groups buckets d D (n + 1) least (count + 1) other
    groups-new other same new absent =
        record {
          passed = λ s h. passed' s h (eqb s count) refl;
          apart = λ s t h k a. apart' s t h k a (eqb t count) refl;
          led = λ k h i p. led' k h i p (eqb k n) refl;
          kept = more-kept least (omega arith) (absent-keeps least (omega arith) absent);
        }
      where
        at_count : (s : ℕ) → eqb s count ≡ true → other s ≡ n
        at_count s e = ap other (eqb-true s count e) ∙ new

        below : (s : ℕ) → s < count + 1 → eqb s count ≡ false → s < count
        below s h e = let apart : s ≡ count → ⊥ = eqb-false s count e in omega arith

        passed' : (s : ℕ) → s < count + 1 → (b : Bool) → eqb s count ≡ b → other s < n + 1
        passed' s h true e = let p : other s ≡ n = at_count s e in omega arith
        passed' s h false e =
            let l : s < count = below s h e in
            let p : other s ≡ number s = same s l in
            let q : number s < n = g.passed s l in
            omega arith

        apart' : (s t : ℕ) → s < t → t < count + 1 → Together buckets d (nth_row D (other s)) (nth_row D (other t)) → (b : Bool) → eqb t count ≡ b → ⊥
        apart' s t h k a true e =
            let here : t ≡ count = eqb-true t count e in
            let l : s < count = omega arith in
            absent s l
            (subst (λ (m : ℕ). Together buckets d (nth_row D (number s)) (nth_row D m)) (at_count t e)
            (subst (λ (m : ℕ). Together buckets d (nth_row D m) (nth_row D (other t))) (same s l) a))
        apart' s t h k a false e =
            let lt : t < count = below t k e in
            let ls : s < count = omega arith in
            g.apart s t h lt
            (subst (λ (m : ℕ). Together buckets d (nth_row D (number s)) (nth_row D m)) (same t lt)
            (subst (λ (m : ℕ). Together buckets d (nth_row D m) (nth_row D (other t))) (same s ls) a))

        led' : (k : ℕ) → k < n + 1 → k < least → (nth_row D k).relation ≡ d.relation → (b : Bool) → eqb k n ≡ b → Led buckets d D (count + 1) other k
        led' k h i p true e =
            let here : k ≡ n = eqb-true k n e in
            let it : other count ≡ k = new ∙ sym here in (
              count,
              omega arith,
              omega arith,
              (ap (λ (x : ℕ). bucket_for buckets d (nth_row D x)) it, ap (λ (x : ℕ). tag_of d (nth_row D x)) it),
              ap (λ (x : ℕ). column 0 (nth_row D x) d.right) it,
            )
        led' k h i p false e =
            let apart : k ≡ n → ⊥ = eqb-false k n e in
            let l = g.led k (omega arith) i p in
            let ls : l.0 < count = l.1 in
            let low : number l.0 ≤ k = l.2 in
            let it : number l.0 ≡ other l.0 = sym (same l.0 ls) in (
              l.0,
              omega arith,
              omega arith,
              subst (λ (x : ℕ). Together buckets d (nth_row D x) (nth_row D k)) it l.3,
              subst (λ (x : ℕ). column 0 (nth_row D x) d.right ≡ column 0 (nth_row D k) d.right) it l.4,
            )

-- ---- rows that are the first of no broken pair

-- nothing passes: each row fails
positions-fail : (test : (ℕ × Row ℕ) → Bool) (n : ℕ) (D : Database) → ((k : ℕ) → k < length D → (m : ℕ) → test (m, nth_row D k) ≡ false)
    → first_passing test (numbered_from n D) ≡ none
unfolding first_passing numbered_from
positions-fail test n [] h = refl
positions-fail test n (r ∷ D) h = rw (h 0 (omega arith) n) (positions-fail test (suc n) D (λ k l m. h (suc k) (omega arith) m))

-- the first m rows keep the dependency with every later row: the first broken pair is among the rows after them
pub pairs-skip : (d : Dependency) (n m : ℕ) (D : Database) → ((k j : ℕ) → k < j → j < length D → k < m → PairKeeps d (nth_row D k) (nth_row D j))
    → first_pair_from d n D ≡ first_pair_from d (n + m) (drop m D)
unfolding first_pair numbered_from or_else
pairs-skip d n zero D h = let e : n ≡ n + 0 = omega arith in ap (λ (x : ℕ). first_pair_from d x D) e
pairs-skip d n (suc m) [] h = refl
pairs-skip d n (suc m) (r ∷ D) h =
    let e : suc n + m ≡ n + suc m = omega arith in
    let fails : first_passing (breaks_with d r) (numbered_from (suc n) D) ≡ none =
    positions-fail (breaks_with d r) (suc n) D (λ k l x. kept-breaks d r (nth_row D k) (h 0 (suc k) (omega arith) (omega arith) (omega arith))) in
    ap (λ (o : Option (ℕ × Row ℕ)). or_else (map (λ y. ((n, r), y)) o) (first_pair_from d (suc n) D)) fails
    ∙ pairs-skip d (suc n) m D (λ k j l i b. h (suc k) (suc j) (omega arith) (omega arith) (omega arith))
    ∙ ap (λ (x : ℕ). first_pair_from d x (drop m D)) e
