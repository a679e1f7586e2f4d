-- The directory at a position: the offset rule pair by pair, and where a pair's stretch lies.
use mathlib.Core.Path.{◌≡◌, refl, sym, ap, ◌∙◌}
use mathlib.Core.Bool.{true, false}
use mathlib.Core.List.{List, ◌∷◌}
use Prim.Native.Nat.{ℕ, zero, suc, ◌+◌, ◌*◌, ◌-◌, ◌≤◌, ◌<◌}
use native.Mathlib.Nat.{sub-zero}
use native.Mathlib.Omega.{arith}
use lib.Dec.{eqb}
use lib.ListN.{length, drop}
use lib.Seq.{drop-drop}
use borrow.Author.Tests.{eqb-true, eq-eqb, ne_eqb}
use Rattle.format.specs.Bytes.{number}
use Rattle.format.specs.File.{chained, stretch, stretches}
use Rattle.lists.proofs.Tests.{and-iff}

-- The rest of the table from pair k on
abbrev pub table_at : List ℕ → ℕ → List ℕ
table_at file k = drop (2 + 4 * k) file

table-next : (file : List ℕ) (k : ℕ) → drop 4 (table_at file k) ≡ table_at file (k + 1)
table-next file k = let e : 2 + 4 * k + 4 ≡ 2 + 4 * (k + 1) = omega arith in drop-drop 4 (2 + 4 * k) file ∙ ap (λ (n : ℕ). drop n file) e

pub table-size : (file : List ℕ) (k : ℕ) → drop 2 (table_at file k) ≡ drop (4 + 4 * k) file
table-size file k = let e : 2 + 4 * k + 2 ≡ 4 + 4 * k = omega arith in drop-drop 2 (2 + 4 * k) file ∙ ap (λ (n : ℕ). drop n file) e

module _ (file : List ℕ) (n due k : ℕ) (h : k < n) where
  -- the offset rule at pair k
  pub chained-turns : (size : ℕ) → number 2 (table_at file k) ≡ due → size ≡ number 2 (drop (4 + 4 * k) file)
      → chained (n - k) due (length file) (table_at file k) ≡ chained (n - (k + 1)) (due + size) (length file) (table_at file (k + 1))
  unfolding chained
  chained-turns size e s =
      let m : n - k ≡ suc (n - (k + 1)) = omega arith in
      let s' : number 2 (drop 2 (table_at file k)) ≡ size = ap (number 2) (table-size file k) ∙ sym s in
      rw (m, eq-eqb (number 2 (table_at file k)) due e, s', table-next file k)

  pub chained-breaks : (number 2 (table_at file k) ≡ due → ⊥) → chained (n - k) due (length file) (table_at file k) ≡ false
  unfolding chained
  chained-breaks e =
      let m : n - k ≡ suc (n - (k + 1)) = omega arith in
      rw (m, ne_eqb (number 2 (table_at file k)) due e)

  pub stretches-cons : stretches (n - k) file (table_at file k) ≡ stretch file (table_at file k) ∷ stretches (n - (k + 1)) file (table_at file (k + 1))
  unfolding stretches
  stretches-cons =
      let m : n - k ≡ suc (n - (k + 1)) = omega arith in
      rw (m, table-next file k)

pub chained-ends : (file : List ℕ) (n due k : ℕ) → n ≤ k → chained (n - k) due (length file) (table_at file k) ≡ eqb due (length file)
unfolding chained
chained-ends file n due k h = let m : n - k ≡ 0 = omega arith in rw m

-- ---- where a stretch lies

chained-fits : (n due end : ℕ) (table : List ℕ) → chained n due end table ≡ true → due ≤ end
unfolding chained
chained-fits zero due end table h = let e : due ≡ end = eqb-true due end h in omega arith
chained-fits (suc n) due end table h =
    let k : (eqb (number 2 table) due ≡ true) × (chained n (due + number 2 (drop 2 table)) end (drop 4 table) ≡ true) = simp and-iff at h in
    let f : due + number 2 (drop 2 table) ≤ end = chained-fits n (due + number 2 (drop 2 table)) end (drop 4 table) k.1 in
    omega arith

pair_fits : (n due end : ℕ) (table : List ℕ) (k : ℕ) → k < n → chained n due end table ≡ true
    → number 2 (drop (4 * k) table) + number 2 (drop 2 (drop (4 * k) table)) ≤ end
unfolding chained
pair_fits zero due end table k h c = absurd (omega arith)
pair_fits (suc n) due end table zero h c =
    let p : (eqb (number 2 table) due ≡ true) × (chained n (due + number 2 (drop 2 table)) end (drop 4 table) ≡ true) = simp and-iff at c in
    let e : number 2 table ≡ due = eqb-true (number 2 table) due p.0 in
    let f : due + number 2 (drop 2 table) ≤ end = chained-fits n (due + number 2 (drop 2 table)) end (drop 4 table) p.1 in
    rw e f
pair_fits (suc n) due end table (suc k) h c =
    let p : (eqb (number 2 table) due ≡ true) × (chained n (due + number 2 (drop 2 table)) end (drop 4 table) ≡ true) = simp and-iff at c in
    let m : 4 + 4 * k ≡ 4 * suc k = omega arith in
    let d : drop (4 * k) (drop 4 table) ≡ drop (4 * suc k) table = drop-drop (4 * k) 4 table ∙ ap (λ (j : ℕ). drop j table) m in
    rw (← d) (pair_fits n (due + number 2 (drop 2 table)) end (drop 4 table) k (native.Mathlib.Nat.le_of_suc-le-suc h) p.1)

-- the stretch of each pair lies within the file
pub stretch-fits : (file : List ℕ) (n due k : ℕ) → k < n → chained n due (length file) (drop 2 file) ≡ true
    → number 2 (table_at file k) + number 2 (drop (4 + 4 * k) file) ≤ length file
stretch-fits file n due k h c =
    let f = pair_fits n due (length file) (drop 2 file) k h c in
    let d : drop (4 * k) (drop 2 file) ≡ table_at file k = drop-drop (4 * k) 2 file in
    let f' : number 2 (table_at file k) + number 2 (drop 2 (table_at file k)) ≤ length file = rw d at f in
    rw table-size at f'

-- There are as many stretches as pairs
pub length-stretches : (n : ℕ) (file table : List ℕ) → length (stretches n file table) ≡ n
unfolding stretches
length-stretches zero file table = refl
length-stretches (suc n) file table = ap suc (length-stretches n file (drop 4 table))

-- A file of two parts or more: the first two, and the others
pub first_two : (file : List ℕ) (n : ℕ) → 2 ≤ n
    → stretches n file (drop 2 file) ≡ stretch file (table_at file 0) ∷ stretch file (table_at file 1) ∷ stretches (n - 2) file (drop 10 file)
first_two file n h =
    let e : stretches (n - 0) file (table_at file 0) ≡ stretch file (table_at file 0) ∷ stretches (n - 1) file (table_at file 1) =
    stretches-cons file n 0 0 (omega arith) in
    let f : stretches (n - 1) file (table_at file 1) ≡ stretch file (table_at file 1) ∷ stretches (n - 2) file (table_at file 2) =
    stretches-cons file n 0 1 (omega arith) in
    (rw sub-zero at e) ∙ ap {B = List (List ℕ)} (λ ps. stretch file (table_at file 0) ∷ ps) f
