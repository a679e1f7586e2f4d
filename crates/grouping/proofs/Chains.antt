-- Laws of hash chains: what a place in a chain says of the nodes, and what a new node changes. Assumes nothing.
use mathlib.Core.Path.{◌≡◌, refl, ap, sym, ◌∙◌}
use mathlib.Core.Bool.{Bool, true, false, cond}
use mathlib.Core.List.{List}
use Prim.Native.Nat.{ℕ, zero, suc, ◌+◌, ◌<◌, ◌≤◌}
use native.Mathlib.Numerals.{add-one}
use native.Mathlib.Omega.{arith}
use lib.Dec.{eqb}
use borrow.Author.Tests.{eq-eqb, ne_eqb, eqb-true, eqb-false}
use lib.ListN.{length, get_or, set, length-set}
use lib.Seq.{get_or-set_same, get_or-set_other}
use Rattle.grouping.specs.internal.Chains.{last_below, Chained}

-- ---- the last node of a key

-- node n has the key
pub last-same : (key : ℕ → ℕ) (n b : ℕ) → key n ≡ b → last_below key (suc n) b ≡ suc n
unfolding last_below
last-same key n b h = rw (eq-eqb (key n) b h)

-- node n has another key
pub last-other : (key : ℕ → ℕ) (n b : ℕ) → (key n ≡ b → ⊥) → last_below key (suc n) b ≡ last_below key n b
unfolding last_below
last-other key n b h = rw (ne_eqb (key n) b h)

-- it is one of the nodes
pub last-le : (key : ℕ → ℕ) (n b : ℕ) → last_below key n b ≤ n
unfolding last_below
last-le key zero b = omega arith
last-le key (suc n) b = go (eqb (key n) b) refl (last-le key n b)
  where
    go : (t : Bool) → eqb (key n) b ≡ t → last_below key n b ≤ n → last_below key (suc n) b ≤ suc n
    go true e i = let l : last_below key (suc n) b ≡ suc n = last-same key n b (eqb-true (key n) b e) in omega arith
    go false e i = let l : last_below key (suc n) b ≡ last_below key n b = last-other key n b (eqb-false (key n) b e) in omega arith

-- no node from there on has the key
pub last_none : (key : ℕ → ℕ) (n b s : ℕ) → last_below key n b ≤ s → s < n → key s ≡ b → ⊥
last_none key zero b s low high same = absurd (omega arith)
last_none key (suc n) b s low high same = go (eqb (key n) b) refl (last_none key n b s)
  where
    go : (t : Bool) → eqb (key n) b ≡ t → (last_below key n b ≤ s → s < n → key s ≡ b → ⊥) → ⊥
    go true e i = let l : last_below key (suc n) b ≡ suc n = last-same key n b (eqb-true (key n) b e) in absurd (omega arith)
    go false e i =
        let other : key n ≡ b → ⊥ = eqb-false (key n) b e in
        let l : last_below key (suc n) b ≡ last_below key n b = last-other key n b other in
        let apart : s ≡ n → ⊥ = λ (h : s ≡ n). other (ap key (sym h) ∙ same) in
        i (omega arith) (omega arith) same

-- it has the key
pub last-key : (key : ℕ → ℕ) (n b s : ℕ) → last_below key n b ≡ suc s → key s ≡ b
unfolding last_below
last-key key zero b s h = absurd (omega arith)
last-key key (suc n) b s h = go (eqb (key n) b) refl (last-key key n b s)
  where
    go : (t : Bool) → eqb (key n) b ≡ t → (last_below key n b ≡ suc s → key s ≡ b) → key s ≡ b
    go true e i =
        let same : key n ≡ b = eqb-true (key n) b e in
        let l : last_below key (suc n) b ≡ suc n = last-same key n b same in
        let here : s ≡ n = omega arith in
        ap key here ∙ same
    go false e i = i (sym (last-other key n b (eqb-false (key n) b e)) ∙ h)

-- only the keys of the nodes below n matter
pub last-agree : (key other : ℕ → ℕ) (n b : ℕ) → ((s : ℕ) → s < n → key s ≡ other s) → last_below key n b ≡ last_below other n b
unfolding last_below
last-agree key other zero b h = refl
last-agree key other (suc n) b h =
    ap (λ (k : ℕ). cond (eqb k b) (suc n) (last_below key n b)) (h n (omega arith))
    ∙ ap (cond (eqb (other n) b) (suc n)) (last-agree key other n b (λ s l. h s (omega arith)))

-- ---- chains

module _ (key : ℕ → ℕ) (H : List ℕ) (link : ℕ → ℕ) where
  -- chains without a node
  pub chained-none : ((b : ℕ) → b < length H → get_or H b 0 ≡ 0) → Chained key H link 0
  unfolding last_below
  chained-none zeros = record { heads = zeros; links = λ s h. absurd (omega arith) }

  module _ (n : ℕ) (c : Chained key H link n) where
    -- only the keys of the nodes below n matter
    pub chained-agree : (other : ℕ → ℕ) → ((s : ℕ) → s < n → key s ≡ other s) → Chained other H link n
    chained-agree other agree =
        record {
          heads = λ b h. c.heads b h ∙ last-agree key other n b agree;
          links = λ s h. c.links s h ∙ last-agree key other s (key s) (λ t l. agree t (omega arith)) ∙ ap (last_below other s) (agree s h);
        }

    -- one more node
    pub chained_more : (b : ℕ) → b < length H → key n ≡ b → (more : ℕ → ℕ) → ((s : ℕ) → s < n → more s ≡ link s) → more n ≡ get_or H b 0
        → Chained key (set H b (n + 1)) more (n + 1)
    chained_more b hb same more old new =
        rw (add-one n)
        (record {
          heads = λ d h. head d (eqb d b) refl h;
          links = λ s h. tail s (eqb s n) refl h;
        })
      where
        head : (d : ℕ) (t : Bool) → eqb d b ≡ t → d < length (set H b (suc n)) → get_or (set H b (suc n)) d 0 ≡ last_below key (suc n) d
        head d true e h =
            let here : d ≡ b = eqb-true d b e in
            rw here (get_or-set_same H b (suc n) 0 hb ∙ sym (last-same key n b same))
        head d false e h =
            let apart : d ≡ b → ⊥ = eqb-false d b e in
            let size : length (set H b (suc n)) ≡ length H = length-set H b (suc n) in
            get_or-set_other H b d (suc n) 0 apart ∙ c.heads d (omega arith) ∙ sym (last-other key n d (λ k. apart (sym k ∙ same)))

        tail : (s : ℕ) (t : Bool) → eqb s n ≡ t → s < suc n → more s ≡ last_below key s (key s)
        tail s true e h =
            let here : s ≡ n = eqb-true s n e in
            rw here (new ∙ c.heads b hb ∙ ap (last_below key n) (sym same))
        tail s false e h =
            let apart : s ≡ n → ⊥ = eqb-false s n e in
            let low : s < n = omega arith in
            old s low ∙ c.links s low
