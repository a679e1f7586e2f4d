-- Where pairs are looked for: the pairs before the position that a number leads to do not have it. Assumes nothing.
use mathlib.Core.Path.{◌≡◌, refl, sym, ap, ◌∙◌}
use mathlib.Core.Bool.{true}
use mathlib.Core.List.{List, [], ◌∷◌, ◌++◌, map, append-nil}
use Prim.Native.Nat.{ℕ, zero, suc, ◌+◌, ◌<◌, ◌≤◌, ◌-◌, ◌%◌}
use native.Mathlib.Omega.{arith}
use native.Mathlib.Numerals.{add-one}
use lib.ListN.{length, get_or, take, drop, set, replicate, take-append-drop}
use lib.Seq.{take-append_seam, take-nil, take-suc, drop-cons, length-take-le, get_or-set_same, get_or-set_other}
use lib.Dec.{leb}
use borrow.Author.Tests.{eq-eqb, ne_eqb, leb-true, le-leb}
use Rattle.std.proofs.Common.{⊎_elim, drop_of_length-le}
use Rattle.lists.proofs.Tests.{and_left, and_right, and_both, same_or_other}
use Rattle.query.specs.declared.CodePair.{CodePair}
use Rattle.query.specs.View.{pair_of}
use Rattle.theory.specs.Codes.{read_code}
use Rattle.codes.specs.internal.Found.{led}

mod-small : (n : ℕ) → n % 256 < 256
mod-small n = omega arith

-- Each of some equal numbers is at most what one is
pub all-same : (n m most : ℕ) → m ≤ most → (r : ℕ) → get_or (replicate n m) r 0 ≤ most
all-same zero m most h r = omega arith
all-same (suc n) m most h zero = h
all-same (suc n) m most h (suc r) = all-same n m most h r

-- All of a list
pub take-whole : {A : Type 0} (n : ℕ) (xs : List A) → length xs ≤ n → take n xs ≡ xs
take-whole n xs h =
    sym (append-nil (take n xs)) ∙ ap (λ (l : List _). take n xs ++ l) (sym (drop_of_length-le xs h)) ∙ take-append-drop n xs

-- and a list with something after it
pub whole : {A : Type 0} (xs all rest : List A) → all ≡ xs ++ rest → take (length xs) all ≡ xs
whole xs all rest e = ap (take (length xs)) e ∙ take-append_seam xs rest

-- Those from a position on of the first of a list
pub part : {A : Type 0} (first count : ℕ) (xs : List A) → first ≤ count → take (count - first) (drop first xs) ≡ drop first (take count xs)
part zero count xs h = ap (λ (n : ℕ). take n xs) (omega arith)
part (suc first) zero xs h = absurd (omega arith)
part (suc first) (suc count) [] h = take-nil (suc count - suc first)
part (suc first) (suc count) (x ∷ xs) h = ap (λ (n : ℕ). take n (drop first xs)) (omega arith) ∙ part first count xs (omega arith)

-- ---- where a pair leads

-- No pair stands before the position that it leads to
led-at : (firsts : List ℕ) (i : ℕ) (ps : List CodePair) (k : ℕ) (z : CodePair) → led firsts i ps ≡ true → k < length ps
    → get_or firsts ((get_or ps k z).old % 256) 0 ≤ i + k
unfolding led
led-at firsts i [] k z e h = absurd (omega arith)
led-at firsts i (p ∷ ps) zero z e h =
    let here : get_or firsts (p.old % 256) 0 ≤ i = leb-true _ i (and_left (leb (get_or firsts (p.old % 256) 0) i) (led firsts (suc i) ps) e) in
    omega arith
led-at firsts i (p ∷ ps) (suc k) z e h =
    let later = led-at firsts (suc i) ps k z (and_right (leb (get_or firsts (p.old % 256) 0) i) (led firsts (suc i) ps) e) (omega arith) in
    omega (arith, later)

-- That holds too where positions are moved to the front
led-less : (firsts others : List ℕ) → ((r : ℕ) → get_or others r 0 ≤ get_or firsts r 0) → (i : ℕ) (ps : List CodePair) → led firsts i ps ≡ true
    → led others i ps ≡ true
unfolding led
led-less firsts others less i [] e = refl
led-less firsts others less i (p ∷ ps) e =
    let here : get_or firsts (p.old % 256) 0 ≤ i = leb-true _ i (and_left (leb (get_or firsts (p.old % 256) 0) i) (led firsts (suc i) ps) e) in
    and_both (leb (get_or others (p.old % 256) 0) i) (led others (suc i) ps) (le-leb _ i (omega (arith, less (p.old % 256))))
    (led-less firsts others less (suc i) ps (and_right (leb (get_or firsts (p.old % 256) 0) i) (led firsts (suc i) ps) e))

led-last : (firsts : List ℕ) (i : ℕ) (ps : List CodePair) (p : CodePair) → led firsts i ps ≡ true → get_or firsts (p.old % 256) 0 ≤ i + length ps
    → led firsts i (ps ++ p ∷ []) ≡ true
unfolding led
led-last firsts i [] p e h = and_both (leb (get_or firsts (p.old % 256) 0) i) true (le-leb _ i (omega arith)) refl
led-last firsts i (q ∷ ps) p e h =
    and_both (leb (get_or firsts (q.old % 256) 0) i) (led firsts (suc i) (ps ++ p ∷ []))
    (and_left (leb (get_or firsts (q.old % 256) 0) i) (led firsts (suc i) ps) e)
    (led-last firsts (suc i) ps p (and_right (leb (get_or firsts (q.old % 256) 0) i) (led firsts (suc i) ps) e) (omega arith))

-- ---- one pair more

module _ (firsts : List ℕ) (ps : List CodePair) (i m : ℕ) (z : CodePair) (h : i < length ps) (long : length firsts ≡ 256)
    (few : m ≤ get_or firsts ((get_or ps i z).old % 256) 0) (least : m ≤ i) where
  moved-less : (r : ℕ) → get_or (set firsts ((get_or ps i z).old % 256) m) r 0 ≤ get_or firsts r 0
  moved-less r =
      let k = (get_or ps i z).old % 256 in
      let inside : k < length firsts = omega (arith, mod-small (get_or ps i z).old) in
      ⊎_elim
      (λ (same : r ≡ k).
      let here : get_or (set firsts k m) r 0 ≡ m = ap (λ (j : ℕ). get_or (set firsts k m) j 0) same ∙ get_or-set_same firsts k m 0 inside in
      let there : get_or firsts r 0 ≡ get_or firsts k 0 = ap (λ (j : ℕ). get_or firsts j 0) same in
      omega arith)
      (λ other. let same = get_or-set_other firsts k r m 0 other in omega arith) (same_or_other r k)

  pub moved-within : (most : ℕ) → ((r : ℕ) → get_or firsts r 0 ≤ most) → (r : ℕ) → get_or (set firsts ((get_or ps i z).old % 256) m) r 0 ≤ most
  moved-within most within r = omega (arith, moved-less r, within r)

  pub moved-led : led firsts 0 (take i ps) ≡ true → led (set firsts ((get_or ps i z).old % 256) m) 0 (take (i + 1) ps) ≡ true
  moved-led e =
      let k = (get_or ps i z).old % 256 in
      let others = set firsts k m in
      let inside : k < length firsts = omega (arith, mod-small (get_or ps i z).old) in
      let count = length-take-le i ps (omega arith) in
      let here : get_or others k 0 ≡ m = get_or-set_same firsts k m 0 inside in
      ap (λ (n : ℕ). led others 0 (take n ps)) (add-one i) ∙ ap (led others 0) (take-suc ps i z h)
      ∙ led-last others 0 (take i ps) (get_or ps i z) (led-less firsts others moved-less 0 (take i ps) e) (omega arith)

-- ---- the pairs one after another

-- A number is looked for in the pairs from the first on
abbrev pub read_from : List CodePair → ℕ → ℕ → ℕ
read_from ps i n = read_code (map pair_of (drop i ps)) n

module _ (ps : List CodePair) (i n : ℕ) (z : CodePair) (h : i < length ps) where
  -- The pair at a position has it
  pub read-here : n ≡ (get_or ps i z).old → read_from ps i n ≡ (get_or ps i z).current
  unfolding read_code
  read-here e = ap (λ (l : List CodePair). read_code (map pair_of l) n) (drop-cons ps i z h) ∙ rw (eq-eqb n (get_or ps i z).old e) refl

  -- or it is looked for behind
  pub read-behind : (n ≡ (get_or ps i z).old → ⊥) → read_from ps i n ≡ read_from ps (i + 1) n
  unfolding read_code
  read-behind other =
      ap (λ (l : List CodePair). read_code (map pair_of l) n) (drop-cons ps i z h)
      ∙ rw (ne_eqb n (get_or ps i z).old other, add-one i) refl

-- Behind all pairs it stays
pub read-past : (ps : List CodePair) (i n : ℕ) → length ps ≤ i → read_from ps i n ≡ n
unfolding read_code
read-past ps i n h = ap (λ (l : List CodePair). read_code (map pair_of l) n) (drop_of_length-le ps h)

-- ---- from where

-- Pairs that do not have a number are passed over
skipped : (ps : List CodePair) (k n : ℕ) → ((i : ℕ) → i < k → (z : CodePair) → n ≡ (get_or ps i z).old → ⊥) → k ≤ length ps → read_from ps 0 n ≡ read_from ps k n
skipped ps zero n other h = refl
skipped ps (suc k) n other h =
    let z : CodePair = record { old = 0; current = 0 } in
    skipped ps k n (λ i lt. other i (omega arith)) (omega arith) ∙ read-behind ps k n z (omega arith) (other k (omega arith) z)
    ∙ ap (λ (m : ℕ). read_from ps m n) (add-one k)

-- A number is in no pair before the position that it leads to
pub read-first : (firsts : List ℕ) (ps : List CodePair) (n : ℕ) → led firsts 0 ps ≡ true → get_or firsts (n % 256) 0 ≤ length ps
    → read_code (map pair_of ps) n ≡ read_from ps (get_or firsts (n % 256) 0) n
read-first firsts ps n e h =
    skipped ps (get_or firsts (n % 256) 0) n
    (λ i lt z same.
    let within = led-at firsts 0 ps i z e (omega arith) in
    let moved : get_or firsts ((get_or ps i z).old % 256) 0 ≡ get_or firsts (n % 256) 0 = ap (λ (m : ℕ). get_or firsts (m % 256) 0) (sym same) in
    omega (arith, within, moved)) h
