-- Laws of the search over codes: what is chosen, rows that need not be tried, and beginnings that lead nowhere. Assumes nothing.
use mathlib.Core.Path.{◌≡◌, refl, sym, ◌∙◌, ap, subst}
use mathlib.Core.Logic.{⊎_elim}
use mathlib.Core.Bool.{Bool, true, false, cond, ◌&&◌}
use Rattle.std.specs.List.{list_all, range_with_len}
use mathlib.Core.List.{List}
use Prim.Native.Nat.{ℕ, zero, suc, ◌+◌, ◌*◌, ◌-◌, ◌/◌, ◌%◌, ◌≤◌, ◌<◌}
use native.Mathlib.Decide.{ℕ_discrete}
use native.Mathlib.Omega.{arith}
use borrow.Author.Tests.{eq-eqb, ne_eqb, lt-ltb, le-ltb}
use lib.Dec.{eqb, ltb}
use lib.ListN.{length, take, drop, get_or, set, length-map, length-set}
use lib.Seq.{ext_get_or, get_or-set_same, get_or-set_other}
use Rattle.lists.specs.Tests.{every}
use Rattle.lists.specs.Numbers.{numbers_where}
use Rattle.lists.proofs.Tests.{below-or-past}
use Rattle.lists.proofs.Positions.{left-cons, left-none}
use Rattle.joins.proofs.Choices.{numbers-length, numbers-at}
use Rattle.theory.specs.Query.{member}
use Rattle.theory.proofs.Lists.{bool_cases}
use Rattle.query.specs.View.{columns_from, columns_of}
use Rattle.join_search.proofs.Turns.{member-here, member-later}
use Rattle.join_search.specs.internal.Search.{free, goes_at, choose}

-- ---- whether a column goes

module _ (codes chosen : List ℕ) (i c : ℕ) where
  pub goes-free : get_or chosen c 0 ≡ free → goes_at codes chosen i c ≡ true
  goes-free e = rw (eq-eqb _ _ e)

  pub goes_same : get_or chosen c 0 ≡ get_or codes (8 * i + c) 0 → goes_at codes chosen i c ≡ true
  goes_same e =
      bool_cases (eqb (get_or chosen c 0) free) (λ p. rw p) (λ p. rw (p, eq-eqb _ _ e))

-- ---- what is chosen, column by column

-- Column d with those of a set from row i
abbrev pick_at : List ℕ → ℕ → List ℕ → ℕ → ℕ → ℕ
pick_at codes mask chosen i d = cond (member d (columns_of mask)) (get_or codes (8 * i + d) 0) (get_or chosen d 0)

-- The columns before c are chosen, and what is left of the set tells which of the others are to be
pub record Choosing (codes : List ℕ) (mask : ℕ) (chosen : List ℕ) (i : ℕ) (next : List ℕ) (rest c : ℕ) : Type 0 where
  pub within : c ≤ 8
  pub long : length next ≡ 8
  pub columns : (d : ℕ) → d < 8 → get_or next d 0 ≡ cond (ltb d c) (pick_at codes mask chosen i d) (get_or chosen d 0)
  pub left : (d : ℕ) → c ≤ d → member d (columns_of mask) ≡ member d (columns_from c (8 - c) rest)

module _ (codes : List ℕ) (mask : ℕ) (chosen : List ℕ) (i : ℕ) where
  pub choosing-start : length chosen ≡ 8 → Choosing codes mask chosen i chosen mask 0
  choosing-start long = record {
    within = omega arith;
    long = long;
    columns = λ d h. rw (le-ltb d 0 (omega arith));
    left = λ d h. refl;
  }

  -- A column before c, and one that is not c, is as before
  column-on : (c d : ℕ) → (d ≡ c → ⊥) → cond (ltb d c) (pick_at codes mask chosen i d) (get_or chosen d 0)
      ≡ cond (ltb d (c + 1)) (pick_at codes mask chosen i d) (get_or chosen d 0)
  column-on c d other =
      ⊎_elim (λ h. rw (lt-ltb d c h, lt-ltb d (c + 1) (omega arith)))
      (λ h. let past : c + 1 ≤ d = omega (arith, other) in rw (le-ltb d c h, le-ltb d (c + 1) past))
      (below-or-past d c)

  module _ (next : List ℕ) (rest c : ℕ) (h : c < 8) (inv : Choosing codes mask chosen i next rest c) where
    -- Column c is one of the set
    pub choosing-takes : rest % 2 ≡ 1 → Choosing codes mask chosen i (set next c (get_or codes (8 * i + c) 0)) (rest / 2) (c + 1)
    choosing-takes bit = record {
      within = omega arith;
      long = length-set next c (get_or codes (8 * i + c) 0) ∙ inv.long;
      columns = λ d low. go d low (ℕ_discrete d c);
      left = λ d past. inv.left d (omega arith) ∙ member-later c rest h d (omega arith);
    }
      where
        here : member c (columns_of mask) ≡ true
        here = inv.left c (omega arith) ∙ member-here c rest h ∙ eq-eqb (rest % 2) 1 bit

        go : (d : ℕ) → d < 8 → Dec (d ≡ c)
            → get_or (set next c (get_or codes (8 * i + c) 0)) d 0 ≡ cond (ltb d (c + 1)) (pick_at codes mask chosen i d) (get_or chosen d 0)
        go d low (yes e) =
            subst (λ (d : ℕ). get_or (set next c (get_or codes (8 * i + c) 0)) d 0 ≡ cond (ltb d (c + 1)) (pick_at codes mask chosen i d) (get_or chosen d 0))
            (sym e) (get_or-set_same next c (get_or codes (8 * i + c) 0) 0 (omega (arith, inv.long)) ∙ rw (lt-ltb c (c + 1) (omega arith), here))
        go d low (no other) = get_or-set_other next c d (get_or codes (8 * i + c) 0) 0 other ∙ inv.columns d low ∙ column-on c d other

    -- or is not
    pub choosing-skips : (rest % 2 ≡ 1 → ⊥) → Choosing codes mask chosen i next (rest / 2) (c + 1)
    choosing-skips out = record {
      within = omega arith;
      long = inv.long;
      columns = λ d low. go d low (ℕ_discrete d c);
      left = λ d past. inv.left d (omega arith) ∙ member-later c rest h d (omega arith);
    }
      where
        here : member c (columns_of mask) ≡ false
        here = inv.left c (omega arith) ∙ member-here c rest h ∙ ne_eqb (rest % 2) 1 out

        go : (d : ℕ) → d < 8 → Dec (d ≡ c) → get_or next d 0 ≡ cond (ltb d (c + 1)) (pick_at codes mask chosen i d) (get_or chosen d 0)
        go d low (yes e) =
            subst (λ (d : ℕ). get_or next d 0 ≡ cond (ltb d (c + 1)) (pick_at codes mask chosen i d) (get_or chosen d 0)) (sym e)
            (inv.columns c h ∙ rw (le-ltb c c (omega arith), lt-ltb c (c + 1) (omega arith), here))
        go d low (no other) = inv.columns d low ∙ column-on c d other

  pub choose-length : length (choose codes mask chosen i) ≡ 8
  unfolding choose
  choose-length = length-map (numbers_where (λ c. true) 0 8) (pick_at codes mask chosen i) ∙ numbers-length 0 8

  pub choose-column : (c : ℕ) → c < 8 → get_or (choose codes mask chosen i) c 0 ≡ pick_at codes mask chosen i c
  unfolding choose
  choose-column c h = numbers-at (pick_at codes mask chosen i) 0 8 c 0 h ∙ ap (pick_at codes mask chosen i) (omega arith)

  pub choosing-end : (next : List ℕ) (rest c : ℕ) → 8 ≤ c → Choosing codes mask chosen i next rest c → next ≡ choose codes mask chosen i
  choosing-end next rest c past inv =
      ext_get_or 0 next (choose codes mask chosen i) (inv.long ∙ sym choose-length)
      (λ d low.
      let below : d < 8 = omega (arith, inv.long) in
      inv.columns d below ∙ ap (λ b. cond b (pick_at codes mask chosen i d) (get_or chosen d 0)) (lt-ltb d c (omega arith)) ∙ sym (choose-column d below))

-- ---- the sets in turn

-- A test of each of n sets from set k on, by their positions, and of the sets that are left after the first k
pub sets-all : (test : ℕ → Bool) (count : ℕ) (sets : List ℕ) (k n : ℕ) → n ≡ count - k → count ≤ length sets
    → list_all (λ m. test (get_or sets m 0)) (range_with_len k n) ≡ every test (drop k (take count sets))
unfolding every
sets-all test count sets k zero e long = rw (left-none count k sets (omega arith))
sets-all test count sets k (suc n) e long =
    rw (left-cons count k sets 0 (omega arith) long) (ap (λ t. test (get_or sets k 0) && t) (sets-all test count sets (k + 1) n (omega arith) long))
