-- Pairs of codes that may be held together: one more at the end, and what holds of them. Assumes nothing.
use mathlib.Core.Path.{◌≡◌, refl, sym, ap, ◌∙◌}
use mathlib.Core.Bool.{Bool, true, false, not, ◌&&◌}
use mathlib.Core.List.Memᴰ
use mathlib.Core.List.{List, [], ◌∷◌, ◌++◌, map}
use Prim.Native.Nat.{ℕ, ◌≤◌, ◌<◌}
use lib.Dec.{eqb, leb}
use native.Mathlib.Omega.{arith}
use borrow.Author.Tests.{leb-true, eqb-true, eq-eqb, ne_eqb, eqb-false, not-true}
use Rattle.lists.specs.Tests.{every}
use Rattle.lists.proofs.Tests.{and_left, and_right, and_both, every_append, every-weaken}
use Rattle.query.specs.declared.CodePair.{CodePair}
use Rattle.query.specs.View.{pair_of}
use Rattle.query.specs.Rule.{good_pair, apart, pair_fits, all_fit}
use Rattle.theory.specs.Query.{member, ◌∈◌}
use Rattle.theory.specs.Codes as codes
use Rattle.theory.specs.Codes.{read_code, old_codes, CurrentStay}

-- ---- one more

eqb-swap : (a b : ℕ) → eqb a b ≡ eqb b a
eqb-swap a b = by-test (eqb a b) refl where
  by-test : (t : Bool) → eqb a b ≡ t → eqb a b ≡ eqb b a
  by-test true e = e ∙ sym (eq-eqb b a (sym (eqb-true a b e)))
  by-test false e = e ∙ sym (ne_eqb b a (λ same. eqb-false a b e (sym same)))

-- It does not matter which of two pairs comes first
apart-swap : (p q : CodePair) → apart p q ≡ true → apart q p ≡ true
apart-swap p q e =
    let first = and_left (not (eqb p.old q.old)) (not (eqb p.old q.current)) (and_left (not (eqb p.old q.old) && not (eqb p.old q.current)) (not (eqb p.current q.old)) e) in
    let second = and_right (not (eqb p.old q.old)) (not (eqb p.old q.current)) (and_left (not (eqb p.old q.old) && not (eqb p.old q.current)) (not (eqb p.current q.old)) e) in
    let third = and_right (not (eqb p.old q.old) && not (eqb p.old q.current)) (not (eqb p.current q.old)) e in
    and_both (not (eqb q.old p.old) && not (eqb q.old p.current)) (not (eqb q.current p.old))
    (and_both (not (eqb q.old p.old)) (not (eqb q.old p.current)) (ap not (eqb-swap q.old p.old) ∙ first) (ap not (eqb-swap q.old p.current) ∙ third))
    (ap not (eqb-swap q.current p.old) ∙ second)

pub one-more-fits : (ps : List CodePair) (p : CodePair) → all_fit ps ≡ true → pair_fits ps p ≡ true → all_fit (ps ++ p ∷ []) ≡ true
unfolding all_fit pair_fits every
one-more-fits [] p all fits = and_both (good_pair p && true) true fits refl
one-more-fits (q ∷ ps) p all fits =
    let good = and_left (good_pair p) (apart p q && every (apart p) ps) fits in
    let others = and_right (good_pair p) (apart p q && every (apart p) ps) fits in
    let first = and_left (good_pair q && every (apart q) ps) (all_fit ps) all in
    and_both (good_pair q && every (apart q) (ps ++ p ∷ [])) (all_fit (ps ++ p ∷ []))
    (and_both (good_pair q) (every (apart q) (ps ++ p ∷ [])) (and_left (good_pair q) (every (apart q) ps) first)
    (every_append (apart q) ps (p ∷ []) (and_right (good_pair q) (every (apart q) ps) first)
    (and_both (apart q p) true (apart-swap p q (and_left (apart p q) (every (apart p) ps) others)) refl)))
    (one-more-fits ps p (and_right (good_pair q && every (apart q) ps) (all_fit ps) all)
    (and_both (good_pair p) (every (apart p) ps) good (and_right (apart p q) (every (apart p) ps) others)))

-- ---- what holds of them

-- Each is a pair of different codes
pub each-good : (ps : List CodePair) → all_fit ps ≡ true → every good_pair ps ≡ true
unfolding all_fit pair_fits every
each-good [] all = refl
each-good (p ∷ ps) all =
    and_both (good_pair p) (every good_pair ps) (and_left (good_pair p) (every (apart p) ps) (and_left (good_pair p && every (apart p) ps) (all_fit ps) all))
    (each-good ps (and_right (good_pair p && every (apart p) ps) (all_fit ps) all))

-- No current code is above the limit
pub current-limit : (ps : List CodePair) → all_fit ps ≡ true → every (λ p. leb p.current 2147483647) (map pair_of ps) ≡ true
unfolding all_fit pair_fits every
current-limit [] all = refl
current-limit (p ∷ ps) all =
    let good = and_left (good_pair p) (every (apart p) ps) (and_left (good_pair p && every (apart p) ps) (all_fit ps) all) in
    let codes = and_left (leb p.old 2147483647 && leb p.current 2147483647) (not (eqb p.old p.current)) good in
    and_both (leb p.current 2147483647) (every (λ p. leb p.current 2147483647) (map pair_of ps)) (and_right (leb p.old 2147483647) (leb p.current 2147483647) codes)
    (current-limit ps (and_right (good_pair p && every (apart p) ps) (all_fit ps) all))

-- nor any old one
pub old-limit : (ps : List CodePair) → all_fit ps ≡ true → (p : codes.CodePair) → p ∈ map pair_of ps → p.old < 2147483648
unfolding all_fit pair_fits every
old-limit [] all p x'' = elim x'' [ ]
old-limit (q ∷ ps) all p (Memᴰ.head e) =
    let good = and_left (good_pair q) (every (apart q) ps) (and_left (good_pair q && every (apart q) ps) (all_fit ps) all) in
    let two = and_left (leb q.old 2147483647 && leb q.current 2147483647) (not (eqb q.old q.current)) good in
    let least : q.old ≤ 2147483647 = leb-true q.old 2147483647 (and_left (leb q.old 2147483647) (leb q.current 2147483647) two) in
    let same : p.old ≡ q.old = ap (λ (c : codes.CodePair). c.old) e in
    omega arith
old-limit (q ∷ ps) all p (Memᴰ.tail at) = old-limit ps (and_right (good_pair q && every (apart q) ps) (all_fit ps) all) p at

-- A number that differs from the old code of each of some pairs is none of these
none-old : (n : ℕ) (ps : List CodePair) → every (λ p. not (eqb n p.old)) ps ≡ true → member n (old_codes (map pair_of ps)) ≡ false
unfolding member every
none-old n [] e = refl
none-old n (p ∷ ps) e =
    rw (not-true (eqb n p.old) (and_left (not (eqb n p.old)) (every (λ p. not (eqb n p.old)) ps) e))
    (none-old n ps (and_right (not (eqb n p.old)) (every (λ p. not (eqb n p.old)) ps) e))

-- A number that differs from the current code of each is the current code of none
none-current : (n : ℕ) (ps : List CodePair) → every (λ q. not (eqb n q.current)) ps ≡ true → (p : codes.CodePair) → p ∈ map pair_of ps
    → eqb p.current n ≡ false
unfolding every
none-current n [] e p x'' = elim x'' [ ]
none-current n (q ∷ ps) e p (Memᴰ.head is) =
    ap (λ (c : codes.CodePair). eqb c.current n) is ∙ eqb-swap q.current n
    ∙ not-true (eqb n q.current) (and_left (not (eqb n q.current)) (every (λ q. not (eqb n q.current)) ps) e)
none-current n (q ∷ ps) e p (Memᴰ.tail at) = none-current n ps (and_right (not (eqb n q.current)) (every (λ q. not (eqb n q.current)) ps) e) p at

-- or the old code of none
none-same : (n : ℕ) (ps : List CodePair) → every (λ q. not (eqb n q.old)) ps ≡ true → (p : codes.CodePair) → p ∈ map pair_of ps → eqb p.old n ≡ false
unfolding every
none-same n [] e p x'' = elim x'' [ ]
none-same n (q ∷ ps) e p (Memᴰ.head is) =
    ap (λ (c : codes.CodePair). eqb c.old n) is ∙ eqb-swap q.old n
    ∙ not-true (eqb n q.old) (and_left (not (eqb n q.old)) (every (λ q. not (eqb n q.old)) ps) e)
none-same n (q ∷ ps) e p (Memᴰ.tail at) = none-same n ps (and_right (not (eqb n q.old)) (every (λ q. not (eqb n q.old)) ps) e) p at

-- so no current code is an old one
pub current-stays : (ps : List CodePair) → all_fit ps ≡ true → CurrentStay (map pair_of ps)
unfolding all_fit pair_fits member
current-stays [] all p x'' = elim x'' [ ]
current-stays (q ∷ ps) all p (Memᴰ.head is) =
    let first = and_left (good_pair q && every (apart q) ps) (all_fit ps) all in
    let differ = and_right (leb q.old 2147483647 && leb q.current 2147483647) (not (eqb q.old q.current)) (and_left (good_pair q) (every (apart q) ps) first) in
    let others = every-weaken (apart q) (λ r. not (eqb q.current r.old)) (λ r. and_right (not (eqb q.old r.old) && not (eqb q.old r.current)) (not (eqb q.current r.old)))
    ps (and_right (good_pair q) (every (apart q) ps) first) in
    ap (λ (c : codes.CodePair). member c.current (old_codes (map pair_of (q ∷ ps)))) is
    ∙ rw (eqb-swap q.current q.old ∙ not-true (eqb q.old q.current) differ) (none-old q.current ps others)
current-stays (q ∷ ps) all p (Memᴰ.tail at) =
    let first = and_left (good_pair q && every (apart q) ps) (all_fit ps) all in
    let others = every-weaken (apart q) (λ r. not (eqb q.old r.current))
    (λ r e. and_right (not (eqb q.old r.old)) (not (eqb q.old r.current)) (and_left (not (eqb q.old r.old) && not (eqb q.old r.current)) (not (eqb q.current r.old)) e))
    ps (and_right (good_pair q) (every (apart q) ps) first) in
    rw (none-current q.old ps others p at) (current-stays ps (and_right (good_pair q && every (apart q) ps) (all_fit ps) all) p at)

-- ---- each counts

-- Of pairs that may be held together each old code is read as its current one
pub each-read : (ps : List CodePair) → all_fit ps ≡ true → (p : codes.CodePair) → p ∈ map pair_of ps → read_code (map pair_of ps) p.old ≡ p.current
unfolding all_fit pair_fits read_code
each-read [] all p x'' = elim x'' [ ]
each-read (q ∷ ps) all p (Memᴰ.head is) =
    let here : eqb p.old q.old ≡ true = eq-eqb p.old q.old (ap (λ (c : codes.CodePair). c.old) is) in
    rw here (sym (ap (λ (c : codes.CodePair). c.current) is))
each-read (q ∷ ps) all p (Memᴰ.tail at) =
    let first = and_left (good_pair q && every (apart q) ps) (all_fit ps) all in
    let others = every-weaken (apart q) (λ r. not (eqb q.old r.old))
    (λ r e. and_left (not (eqb q.old r.old)) (not (eqb q.old r.current)) (and_left (not (eqb q.old r.old) && not (eqb q.old r.current)) (not (eqb q.current r.old)) e))
    ps (and_right (good_pair q) (every (apart q) ps) first) in
    rw (none-same q.old ps others p at) (each-read ps (and_right (good_pair q && every (apart q) ps) (all_fit ps) all) p at)
