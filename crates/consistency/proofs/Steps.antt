-- Why a state may become what it becomes: first choices below 24, then the state after a choice and what a failure after it says before it, then its rows one
-- by one, then a row compared with another. Assumes nothing.
use mathlib.Core.Path.{◌≡◌, refl, sym, ap, ◌∙◌, subst, subst⁻¹}
use mathlib.Core.Logic.{◌⊎◌, inl, inr}
use mathlib.Core.List.{List, [], ◌∷◌}
use Prim.Native.Nat.{ℕ, zero, suc, ◌+◌, ◌^◌, ◌<◌, ◌≤◌}
use native.Mathlib.Omega.{arith}
use native.Mathlib.Decide.{ℕ_discrete}
use lib.ListN.{get_or, set, length}
use lib.Seq.{get_or-set_same, get_or-set_other}
use lib.Bits.{bit_and, bit_or, bit_xor}
use Rattle.consistency.specs.internal.Solution.{Bit, together, Solution}
use Rattle.consistency.specs.internal.Consistent.{NoBit, Below, HasChosen, Refuted, Accounted, Settles}
use Rattle.consistency.specs.internal.Steps.{Marked, RowAfter, Apart}
use Rattle.consistency.specs.declared.State.{State}
use Rattle.consistency.proofs.Masks.{bit-and, bit_or_left, bit_or_right, bit-or-other, bit-one, bit-xor}

-- ---- choices below 24

pub below_set : (l : List ℕ) (r d : ℕ) → Below l → d < 24 → Below (set l r d)
below_set [] r d b h q = omega arith
below_set (x ∷ xs) zero d b h zero = h
below_set (x ∷ xs) zero d b h (suc q) = b (suc q)
below_set (x ∷ xs) (suc r) d b h zero = b zero
below_set (x ∷ xs) (suc r) d b h (suc q) = below_set xs r d (λ k. b (suc k)) h q

-- a member of a mask is no number that is none
pub apart : (m q r : ℕ) → Bit m q → NoBit m r → q ≡ r → ⊥
apart m q r b n e = let b' : Bit m r = subst (Bit m) e b in omega arith

-- ---- the state after the choice of candidate d for row r
module _ (rows : ℕ) (domain table : List ℕ) (s t : State) (r d : ℕ) (chosen_is : t.chosen ≡ set s.chosen r d)
    (placed-is : t.placed ≡ bit_or s.placed (2 ^ r)) (long : r < length s.chosen) (free : NoBit s.placed r) where
  chosen-same : get_or t.chosen r 0 ≡ d
  chosen-same = ap (λ (l : List ℕ). get_or l r 0) chosen_is ∙ get_or-set_same s.chosen r d 0 long

  chosen-other : (q : ℕ) → (q ≡ r → ⊥) → get_or t.chosen q 0 ≡ get_or s.chosen q 0
  chosen-other q n = ap (λ (l : List ℕ). get_or l q 0) chosen_is ∙ get_or-set_other s.chosen r q d 0 n

  placed-still : (q : ℕ) → Bit s.placed q → Bit t.placed q
  placed-still q b = subst⁻¹ (λ (m : ℕ). Bit m q) placed-is (bit_or_left s.placed (2 ^ r) q b)

  placed-now : Bit t.placed r
  placed-now = subst⁻¹ (λ (m : ℕ). Bit m r) placed-is (bit_or_right s.placed (2 ^ r) r (bit-one r))

  placed-before : (q : ℕ) → (q ≡ r → ⊥) → Bit t.placed q → Bit s.placed q
  placed-before q n b = bit-or-other s.placed r q n (subst (λ (m : ℕ). Bit m q) placed-is b)

  -- what agrees after the choice, at more rows, agreed before it
  agrees-before : (m n : ℕ) (f : ℕ → ℕ) → ((q : ℕ) → Bit m q → Bit n q) → HasChosen t.placed n t.chosen f → HasChosen s.placed m s.chosen f
  agrees-before m n f sub ag q p b =
      ag q (placed-still q p) (sub q b) ∙ chosen-other q (apart s.placed q r p free)

  -- what agrees before the choice, and has the choice if row r counts, agrees after it
  agrees_after : (m : ℕ) (f : ℕ → ℕ) → (Bit m r → f r ≡ d) → HasChosen s.placed m s.chosen f → HasChosen t.placed m t.chosen f
  agrees_after m f at ag q p b = go (ℕ_discrete q r)
    where
      go : Dec (q ≡ r) → f q ≡ get_or t.chosen q 0
      go (yes e) =
          subst⁻¹ (λ (x : ℕ). f x ≡ get_or t.chosen x 0) e (at (subst (Bit m) e b) ∙ sym chosen-same)
      go (no n) = ag q (placed-before q n p) b ∙ sym (chosen-other q n)

  pub sound-after : r < rows → ((q : ℕ) → q < rows → RowAfter table s t r d q) → Accounted rows domain table s → Accounted rows domain table t
  sound-after h each sound q k f sol ag = go (each q k).blamed
    where
      kept : ((m : ℕ) → Bit (get_or s.culprits q 0) m → Bit (get_or t.culprits q 0) m) → Bit (get_or s.current q 0) (f q)
      kept sub = sound q k f sol (agrees-before (get_or s.culprits q 0) (get_or t.culprits q 0) f sub ag)

      go : ((get_or t.current q 0 ≡ get_or s.current q 0) × (get_or t.culprits q 0 ≡ get_or s.culprits q 0))
          ⊎ (get_or t.culprits q 0 ≡ bit_or (get_or s.culprits q 0) (2 ^ r)) → Bit (get_or t.current q 0) (f q)
      go (inl e) = subst⁻¹ (λ (m : ℕ). Bit m (f q)) e.0 (kept (λ x b. subst⁻¹ (λ (m : ℕ). Bit m x) e.1 b))
      go (inr e) =
          let own : Bit (get_or t.culprits q 0) r = subst⁻¹ (λ (m : ℕ). Bit m r) e (bit_or_right (get_or s.culprits q 0) (2 ^ r) r (bit-one r)) in
          let chose : f r ≡ d = ag r placed-now own ∙ chosen-same in
          let goes : Bit (together table r d q) (f q) = subst (λ (x : ℕ). Bit (together table r x q) (f q)) chose (sol.joined r q h k) in
          let old : Bit (get_or s.current q 0) (f q) =
          kept (λ x b. subst⁻¹ (λ (m : ℕ). Bit m x) e (bit_or_left (get_or s.culprits q 0) (2 ^ r) x b)) in
          subst⁻¹ (λ (m : ℕ). Bit m (f q)) (each q k).candidates (bit-and (get_or s.current q 0) (together table r d q) (f q) old goes)

  -- ---- after a failure
  -- a failure that does not blame row r is one without it
  pub jump : (m : ℕ) → NoBit m r → Refuted rows domain table t.placed m t.chosen → Refuted rows domain table s.placed m s.chosen
  jump m no-r fails f sol ag = fails f sol (agrees_after m f (λ b. absurd (apart m r r b no-r refl)) ag)

  -- otherwise candidate d of row r is excluded by the placed rows to blame
  pub excludes : (m : ℕ) → Refuted rows domain table t.placed m t.chosen
      → (f : ℕ → ℕ) → Solution rows domain table f → HasChosen s.placed m s.chosen f → f r ≡ d → ⊥
  excludes m fails f sol ag e = fails f sol (agrees_after m f (λ b. e) ag)

-- the state with other candidates and culprits of row q
abbrev pub stored : State → ℕ → ℕ → ℕ → State
stored s q left b =
    record { chosen = s.chosen; placed = s.placed; current = set s.current q left; culprits = set s.culprits q b }

-- ---- the rows one by one
-- of the state t the first n rows are after the choice, and the others as they were
pub record Passed (table : List ℕ) (s t : State) (r d n : ℕ) : Type 0 where
  pub done : (k : ℕ) → k < n → RowAfter table s t r d k
  pub current : (k : ℕ) → n ≤ k → get_or t.current k 0 ≡ get_or s.current k 0
  pub culprits : (k : ℕ) → n ≤ k → get_or t.culprits k 0 ≡ get_or s.culprits k 0

row-same : (table : List ℕ) (s t u : State) (r d k : ℕ) → get_or u.current k 0 ≡ get_or t.current k 0
    → get_or u.culprits k 0 ≡ get_or t.culprits k 0 → RowAfter table s t r d k → RowAfter table s u r d k
row-same table s t u r d k e f row =
    record {
      candidates = e ∙ row.candidates;
      blamed =
          subst⁻¹ (λ (x : ℕ). Marked (get_or s.culprits k 0) (get_or s.current k 0) x r (get_or u.culprits k 0)) e
          (subst⁻¹ (λ (x : ℕ). Marked (get_or s.culprits k 0) (get_or s.current k 0) (get_or t.current k 0) r x) f row.blamed);
    }

one-row-more : (table : List ℕ) (s t : State) (r d n : ℕ) → ((k : ℕ) → k < n → RowAfter table s t r d k) → RowAfter table s t r d n
    → (k : ℕ) → k < n + 1 → RowAfter table s t r d k
one-row-more table s t r d n before at k h = go (ℕ_discrete k n)
  where
    go : Dec (k ≡ n) → RowAfter table s t r d k
    go (yes e) = subst⁻¹ (RowAfter table s t r d) e at
    go (no other) = before k (omega arith)

pub passed-none : (table : List ℕ) (s t : State) (r d : ℕ) → t.current ≡ s.current → t.culprits ≡ s.culprits → Passed table s t r d 0
passed-none table s t r d e f =
    record {
      done = λ k h. absurd (let h' : k < 0 = h in omega arith);
      current = λ k h. ap (λ (l : List ℕ). get_or l k 0) e;
      culprits = λ k h. ap (λ (l : List ℕ). get_or l k 0) f;
    }

-- a row that has lost nothing stays
pub passed-row : (table : List ℕ) (s t : State) (r d n : ℕ) → bit_and (get_or t.current n 0) (together table r d n) ≡ get_or t.current n 0
    → Passed table s t r d n → Passed table s t r d (n + 1)
passed-row table s t r d n same p =
    record {
      done = one-row-more table s t r d n p.done
          record {
            candidates = sym same ∙ ap (λ (x : ℕ). bit_and x (together table r d n)) (p.current n (omega arith));
            blamed = inl (p.current n (omega arith), p.culprits n (omega arith));
          };
      current = λ k h. p.current k (omega arith);
      culprits = λ k h. p.culprits k (omega arith);
    }

-- another row keeps what goes together with the choice, and blames row r
pub passed-narrowed : (table : List ℕ) (s t : State) (r d n b : ℕ) → n < length t.current → n < length t.culprits → b ≡ 2 ^ r
    → Passed table s t r d n
    → Passed table s (stored t n (bit_and (get_or t.current n 0) (together table r d n)) (bit_or (get_or t.culprits n 0) b)) r d (n + 1)
passed-narrowed table s t r d n b lc lb one p =
    record {
      done = one-row-more table s u r d n
          (λ k h. row-same table s t u r d k (current-other k (omega arith)) (culprits-other k (omega arith)) (p.done k h))
          record {
            candidates =
                get_or-set_same t.current n left 0 lc ∙ ap (λ (x : ℕ). bit_and x (together table r d n)) (p.current n (omega arith));
            blamed = inr
                (get_or-set_same t.culprits n both 0 lb ∙ ap (λ (x : ℕ). bit_or x b) (p.culprits n (omega arith))
                ∙ ap (bit_or (get_or s.culprits n 0)) one);
          };
      current = λ k h. current-other k (omega arith) ∙ p.current k (omega arith);
      culprits = λ k h. culprits-other k (omega arith) ∙ p.culprits k (omega arith);
    }
  where
    left : ℕ
    left = bit_and (get_or t.current n 0) (together table r d n)

    both : ℕ
    both = bit_or (get_or t.culprits n 0) b

    u : State
    u = stored t n left both

    current-other : (k : ℕ) → (k ≡ n → ⊥) → get_or u.current k 0 ≡ get_or t.current k 0
    current-other k other = get_or-set_other t.current n k left 0 other

    culprits-other : (k : ℕ) → (k ≡ n → ⊥) → get_or u.culprits k 0 ≡ get_or t.culprits k 0
    culprits-other k other = get_or-set_other t.culprits n k both 0 other

-- ---- a row compared with another
pub agrees-part : (placed a b : ℕ) (chosen : List ℕ) (f : ℕ → ℕ) → ((q : ℕ) → Bit a q → Bit b q) → HasChosen placed b chosen f → HasChosen placed a chosen f
agrees-part placed a b chosen f sub ag q p m = ag q p (sub q m)

-- row q may lose what goes together with no candidate of row p, if the culprits of row p become its own too
pub settles-revised : (rows : ℕ) (table : List ℕ) (s : State) (p q m : ℕ) → p < rows → q < rows → q < length s.current
    → q < length s.culprits → Apart table (get_or s.current p 0) p q m
    → Settles rows table s (stored s q (bit_xor (get_or s.current q 0) m) (bit_or (get_or s.culprits q 0) (get_or s.culprits p 0)))
settles-revised rows table s p q m hp hq lc lb none = record { chosen = refl; placed = refl; sound = after }
  where
    left : ℕ
    left = bit_xor (get_or s.current q 0) m

    both : ℕ
    both = bit_or (get_or s.culprits q 0) (get_or s.culprits p 0)

    after : (domain : List ℕ) → Accounted rows domain table s → Accounted rows domain table (stored s q left both)
    after domain sound k h f sol ag = go (ℕ_discrete k q)
      where
        go : Dec (k ≡ q) → Bit (get_or (set s.current q left) k 0) (f k)
        go (yes e) =
            let agree : HasChosen s.placed both s.chosen f =
            subst (λ (x : ℕ). HasChosen s.placed x s.chosen f)
            (ap (λ (x : ℕ). get_or (set s.culprits q both) x 0) e ∙ get_or-set_same s.culprits q both 0 lb) ag
            in
            let own : Bit (get_or s.current q 0) (f q) =
            sound q hq f sol
            (agrees-part s.placed (get_or s.culprits q 0) both s.chosen f
            (λ x b. bit_or_left (get_or s.culprits q 0) (get_or s.culprits p 0) x b) agree)
            in
            let other : Bit (get_or s.current p 0) (f p) =
            sound p hp f sol
            (agrees-part s.placed (get_or s.culprits p 0) both s.chosen f
            (λ x b. bit_or_right (get_or s.culprits q 0) (get_or s.culprits p 0) x b) agree)
            in
            let held : Bit m (f q) → ⊥ =
            λ b. none (f p) (f q) (sol.below p hp) (sol.below q hq) b other (sol.joined p q hp hq) (sol.joined q p hq hp)
            in
            subst⁻¹ (λ (x : ℕ). Bit (get_or (set s.current q left) x 0) (f x)) e
            (subst⁻¹ (λ (x : ℕ). Bit x (f q)) (get_or-set_same s.current q left 0 lc) (bit-xor (get_or s.current q 0) m (f q) own held))
        go (no n) =
            subst⁻¹ (λ (x : ℕ). Bit x (f k)) (get_or-set_other s.current q k left 0 n)
            (sound k h f sol
            (subst (λ (x : ℕ). HasChosen s.placed x s.chosen f) (get_or-set_other s.culprits q k both 0 n) ag))

-- a state settles itself
pub settles-same : (rows : ℕ) (table : List ℕ) (s : State) → Settles rows table s s
settles-same rows table s = record { chosen = refl; placed = refl; sound = λ domain sound. sound }

-- settling is transitive
pub settles-more : (rows : ℕ) (table : List ℕ) (s t u : State) → Settles rows table s t → Settles rows table t u → Settles rows table s u
settles-more rows table s t u first then =
    record {
      chosen = then.chosen ∙ first.chosen;
      placed = then.placed ∙ first.placed;
      sound =
          λ domain sound. then.sound domain (first.sound domain sound);
    }
