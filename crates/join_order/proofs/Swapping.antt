-- A swap of two sets keeps them. Assumes nothing.
use mathlib.Core.Path.{◌≡◌, sym, ◌∙◌, ap, subst}
use mathlib.Core.List.{List}
use Prim.Native.Nat.{ℕ, ◌≤◌, ◌<◌}
use native.Mathlib.Decide.{ℕ_discrete}
use native.Mathlib.Omega.{arith}
use lib.ListN.{length, get_or, set, length-set}
use lib.Seq.{get_or-set_same, get_or-set_other}
use Rattle.std.specs.List as lists
use Rattle.std.proofs.lemmas.List.Edits.{swap_is}
use Rattle.query.specs.declared.JoinDependency.{JoinDependency}
use Rattle.join_order.specs.internal.Arranged.{Arranged}

module _ (xs : List ℕ) (i l : ℕ) (in-i : i < length xs) (in-l : l < length xs) where
  abbrev swap : List ℕ
  swap = set (set xs l (get_or xs i 0)) i (get_or xs l 0)

  at_i : get_or swap i 0 ≡ get_or xs l 0
  at_i = get_or-set_same (set xs l (get_or xs i 0)) i (get_or xs l 0) 0 (omega (arith, length-set xs l (get_or xs i 0)))

  at-l : get_or swap l 0 ≡ get_or xs i 0
  at-l = go (ℕ_discrete l i)
    where
      go : Dec (l ≡ i) → get_or swap l 0 ≡ get_or xs i 0
      go (yes e) = ap (λ (n : ℕ). get_or swap n 0) e ∙ at_i ∙ ap (λ (n : ℕ). get_or xs n 0) e
      go (no n) =
          get_or-set_other (set xs l (get_or xs i 0)) i l (get_or xs l 0) 0 (λ same. n (let e : l ≡ i = omega arith in e))
          ∙ get_or-set_same xs l (get_or xs i 0) 0 in-l

  at_other : (k : ℕ) → (k ≡ i → ⊥) → (k ≡ l → ⊥) → get_or swap k 0 ≡ get_or xs k 0
  at_other k n m =
      get_or-set_other (set xs l (get_or xs i 0)) i k (get_or xs l 0) 0 (λ same. n (let e : k ≡ i = omega arith in e))
      ∙ get_or-set_other xs l k (get_or xs i 0) 0 (λ same. m (let e : k ≡ l = omega arith in e))

  -- Where each is after a swap, which is where it was before
  swap-from : (first count k : ℕ) → first ≤ i → i < count → first ≤ l → l < count → first ≤ k → k < count
      → (m : ℕ) × (first ≤ m) × (m < count) × (get_or swap k 0 ≡ get_or xs m 0) × (get_or xs k 0 ≡ get_or swap m 0)
  swap-from first count k low-i high-i low-l high-l low high = go (ℕ_discrete k i) (ℕ_discrete k l)
    where
      go : Dec (k ≡ i) → Dec (k ≡ l) → (m : ℕ) × (first ≤ m) × (m < count) × (get_or swap k 0 ≡ get_or xs m 0) × (get_or xs k 0 ≡ get_or swap m 0)
      go (yes e) d = (l, low-l, high-l, ap (λ (n : ℕ). get_or swap n 0) e ∙ at_i, ap (λ (n : ℕ). get_or xs n 0) e ∙ sym at-l)
      go (no n) (yes e) = (i, low-i, high-i, ap (λ (n : ℕ). get_or swap n 0) e ∙ at-l, ap (λ (n : ℕ). get_or xs n 0) e ∙ sym at_i)
      go (no n) (no m) = (k, low, high, at_other k n m, sym (at_other k n m))

pub arranged_swap : (j r : JoinDependency) (first i l : ℕ) (ys : List ℕ) → Arranged j r first → first ≤ i → i < j.count → first ≤ l → l < j.count → j.count ≤ 4
    → ys ≡ lists.swap r.sets l i → Arranged j (record { relation = r.relation; count = r.count; sets = ys }) first
arranged_swap j r first i l ys a low-i high-i low-l high-l few e =
    let xs : List ℕ = r.sets in
    let size : length xs ≡ 4 = a.shaped in
    let in-i : i < length xs = omega arith in
    let in-l : l < length xs = omega arith in
    subst (λ (zs : List ℕ). Arranged j (record { relation = r.relation; count = r.count; sets = zs }) first) (swap_is xs l i 0 in-l in-i ∙ sym e)
    (record {
      relation = a.relation;
      count = a.count;
      shaped = length-set (set xs l (get_or xs i 0)) i (get_or xs l 0) ∙ length-set xs l (get_or xs i 0) ∙ size;
      stay = λ k h. at_other xs i l in-i in-l k (λ e. omega arith) (λ e. omega arith) ∙ a.stay k h;
      from =
          λ k low high.
          let s = swap-from xs i l in-i in-l first j.count k low-i high-i low-l high-l low high in
          let f = a.from s.0 s.1 s.2 in
          (f.0, f.1, f.2, s.3 ∙ f.3);
      back =
          λ k low high.
          let f = a.back k low high in
          let s = swap-from xs i l in-i in-l first j.count f.0 low-i high-i low-l high-l f.1 f.2 in
          (s.0, s.1, s.2, f.3 ∙ s.4);
      past = λ k h. at_other xs i l in-i in-l k (λ e. omega arith) (λ e. omega arith) ∙ a.past k h;
    })
