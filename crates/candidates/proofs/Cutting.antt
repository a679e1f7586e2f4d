-- A table that is cut mask by mask: one mask, and more of them in a loop. P says which candidates are left.
-- Assumes nothing.
use mathlib.Core.Path.{◌≡◌, refl, subst⁻¹, subst₂, subst₃}
use mathlib.Core.Logic.{◌↔◌}
use mathlib.Core.List.{List}
use Prim.Native.Nat.{ℕ, ◌+◌, ◌*◌, ◌/◌, ◌%◌, ◌≤◌, ◌<◌}
use native.Mathlib.Nat.{le_trans, not-suc-le-zero}
use native.Mathlib.Decide.{ℕ_discrete}
use native.Mathlib.Omega.{arith}
use lib.Bits.{bit_and}
use lib.ListN.{get_or, set, length}
use lib.Seq.{get_or-set_same, get_or-set_other}
use Rattle.consistency.specs.internal.Solution.{Bit as Has, together as goes}
use Rattle.consistency.proofs.Masks.{bit-and, bit-and-left, bit-and-right}
use Rattle.candidates.specs.internal.Candidates.{candidates_of, IsTable}
use Rattle.candidates.specs.internal.Sharing.{Cut, Joins}
use Rattle.candidates.proofs.Masks.{all-marks}
use Rattle.candidates.proofs.Candidates.{few-candidates}

-- What may be left of a table
abbrev pub Left : Type 1
Left = ℕ → ℕ → ℕ → ℕ → Type 0

module _ (size count : ℕ) where
  -- Where P holds of each candidate, nothing is cut
  pub cut-none : (P : Left) (table : List ℕ)
      → ((r d q e : ℕ) → r ≤ size → d < candidates_of size count r → q ≤ size → e < candidates_of size count q → P r d q e) → Cut size count P table table
  cut-none P table all r d q e hr hd hq he = ((λ at. (at, all r d q e hr hd hq he)), (λ w. w.0))

  -- What is left said otherwise
  pub cut_as : (P Q : Left) (a b : List ℕ) → ((r d q e : ℕ) → P r d q e ↔ Q r d q e) → Cut size count P a b → Cut size count Q a b
  cut_as P Q a b same cut r d q e hr hd hq he =
      let x = cut r d q e hr hd hq he in
      let z = same r d q e in
      ((λ at. let m = x.0 at in (m.0, z.0 m.1)), (λ w. x.1 (w.0, z.1 w.1)))

  -- A table that is cut twice
  pub cut-twice : (P Q R : Left) (a b c : List ℕ)
      → ((r d q e : ℕ) → r ≤ size → d < candidates_of size count r → q ≤ size → e < candidates_of size count q → ((P r d q e × Q r d q e) ↔ R r d q e))
      → Cut size count P a b → Cut size count Q b c → Cut size count R a c
  cut-twice P Q R a b c both first second r d q e hr hd hq he =
      let x = first r d q e hr hd hq he in
      let y = second r d q e hr hd hq he in
      let z = both r d q e hr hd hq he in (
        (λ at. let m = y.0 at in let n = x.0 m.0 in (n.0, z.0 (n.1, m.1))),
        (λ w. let p = z.1 w.1 in y.1 (x.1 (w.0, p.0), p.1)),
      )

  -- ---- a loop over one of the numbers of a mask's place, `key`

  module _ (key : ℕ → ℕ → ℕ → ℕ) (P : Left) where
    pub cut-more : (n : ℕ) (a b c : List ℕ) → Cut size count (λ r d q e. key r d q < n → P r d q e) a b
        → Cut size count (λ r d q e. key r d q ≡ n → P r d q e) b c → Cut size count (λ r d q e. key r d q < n + 1 → P r d q e) a c
    cut-more n a b c =
        cut-twice (λ r d q e. key r d q < n → P r d q e) (λ r d q e. key r d q ≡ n → P r d q e) (λ r d q e. key r d q < n + 1 → P r d q e) a b c
        (λ r d q e hr hd hq he. (
          (λ w h. either r d q e w h (ℕ_discrete (key r d q) n)),
          (λ p. ((λ h. p (omega arith)), (λ same. p (omega arith)))),
        ))
      where
        either : (r d q e : ℕ) → ((key r d q < n → P r d q e) × (key r d q ≡ n → P r d q e)) → key r d q < n + 1 → Dec (key r d q ≡ n) → P r d q e
        either r d q e w h (yes same) = w.1 same
        either r d q e w h (no other) = w.0 (omega arith)

  -- ---- one mask

  module _ (few : size ≤ 12) (few' : count ≤ 24) (P : Left) (table : List ℕ) (long : length table ≡ 4056) (r d q mask : ℕ) (hr : r ≤ size)
      (hd : d < candidates_of size count r) (hq : q ≤ size) (is : (e : ℕ) → e < candidates_of size count q → (Has mask e ↔ P r d q e)) where
    abbrev pub place : ℕ
    place = (r * 24 + d) * 13 + q

    abbrev pub next : List ℕ
    next = set table place (bit_and (get_or table place 0) mask)

    pub cut-one : Cut size count (λ r' d' q' e. d' ≡ d → q' ≡ q → r' ≡ r → P r' d' q' e) table next
    cut-one r' d' q' e hr' hd' hq' he = go (ℕ_discrete ((r' * 24 + d') * 13 + q') place)
      where
        small : d < 24
        small = le_trans hd (few-candidates size count r few')

        Right : ℕ → ℕ → ℕ → Type 0
        Right x y z = Has (goes next x y z) e ↔ (Has (goes table x y z) e × (y ≡ d → z ≡ q → x ≡ r → P x y z e))

        here : e < candidates_of size count q → Right r d q
        here h =
            let below : d < 24 = small in
            subst⁻¹ (λ (m : ℕ). Has m e ↔ (Has (goes table r d q) e × (d ≡ d → q ≡ q → r ≡ r → P r d q e)))
            (get_or-set_same table place (bit_and (get_or table place 0) mask) 0 (omega arith)) (
              (λ at. (bit-and-left (goes table r d q) mask e at, (λ s t u. (is e h).0 (bit-and-right (goes table r d q) mask e at)))),
              (λ w. bit-and (goes table r d q) mask e w.0 ((is e h).1 (w.1 refl refl refl))),
            )

        go : Dec ((r' * 24 + d') * 13 + q' ≡ place) → Right r' d' q'
        go (yes same) =
            let below : d < 24 = small in
            let small' : d' < 24 = le_trans hd' (few-candidates size count r' few') in
            let row : r ≡ r' = omega arith in
            let candidate : d ≡ d' = omega arith in
            let other : q ≡ q' = omega arith in
            subst₃ Right row candidate other (here (subst⁻¹ (λ (x : ℕ). e < candidates_of size count x) other he))
        go (no n) =
            subst⁻¹ (λ (m : ℕ). Has m e ↔ (Has (goes table r' d' q') e × (d' ≡ d → q' ≡ q → r' ≡ r → P r' d' q' e)))
            (get_or-set_other table place ((r' * 24 + d') * 13 + q') (bit_and (get_or table place 0) mask) 0 n)
            ((λ at. (at, (λ s t u. absurd (n (omega arith))))), (λ w. w.0))

-- ---- the whole table

module _ (source target : List ℕ) (size count : ℕ) where
  -- What is left once the first k pairs of columns are passed
  abbrev pub Passed : ℕ → Left
  Passed k r d q e = (i j : ℕ) → i < 8 → j < 8 → 8 * i + j < k → Joins source target size i j r d q e

  pub passed-none : (table : List ℕ) → Cut size count (Passed 0) table table
  passed-none table = cut-none size count (Passed 0) table (λ r d q e hr hd hq he i j hi hj h. absurd (not-suc-le-zero h))

  pub passed-more : (k : ℕ) (a b c : List ℕ) → k < 64 → Cut size count (Passed k) a b → Cut size count (Joins source target size (k / 8) (k % 8)) b c
      → Cut size count (Passed (k + 1)) a c
  passed-more k a b c h =
      cut-twice size count (Passed k) (Joins source target size (k / 8) (k % 8)) (Passed (k + 1)) a b c
      (λ r d q e hr hd hq he. (
        (λ w i j hi hj l. either r d q e w i j hi hj l (ℕ_discrete (8 * i + j) k)),
        (λ p. ((λ i j hi hj l. p i j hi hj (omega arith)), p (k / 8) (k % 8) (omega arith) (omega arith) (omega arith))),
      ))
    where
      either : (r d q e : ℕ) → (Passed k r d q e × Joins source target size (k / 8) (k % 8) r d q e) → (i j : ℕ) → i < 8 → j < 8 → 8 * i + j < k + 1
          → Dec (8 * i + j ≡ k) → Joins source target size i j r d q e
      either r d q e w i j hi hj l (yes same) =
          let row : k / 8 ≡ i = omega arith in
          let column : k % 8 ≡ j = omega arith in
          subst₂ (λ (x y : ℕ). Joins source target size x y r d q e) row column w.1
      either r d q e w i j hi hj l (no other) = w.0 i j hi hj (omega arith)

  -- The table of all candidates, cut for each pair of columns
  pub passed-all : (k : ℕ) (start table : List ℕ) → 64 ≤ k → size ≤ 12 → count ≤ 24 → ((p : ℕ) → p < 4056 → get_or start p 0 ≡ 16777215)
      → Cut size count (Passed k) start table → IsTable source target size count table
  passed-all k start table past few few' full cut r d q hr hq hd e he =
      let x = cut r d q e hr hd hq he in (
        (λ at other i hi large j hj same. (x.0 at).1 i j hi hj (omega arith) (other, large, same)),
        (λ t. x.1 (all, (λ i j hi hj l shared. t shared.0 i hi shared.1 j hj shared.2))),
      )
    where
      all : Has (goes start r d q) e
      all =
          let small : d < 24 = le_trans hd (few-candidates size count r few') in
          subst⁻¹ (λ (m : ℕ). Has m e) (full ((r * 24 + d) * 13 + q) (omega arith))
          (((all-marks 24).1 e (le_trans he (few-candidates size count q few'))).1 tt)
