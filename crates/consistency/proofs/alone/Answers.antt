-- `consistency::alone` meets its contract. The loop's invariant: each candidate in the mask is alone. Assumes nothing.
use mathlib.Core.Path.{◌≡◌, subst, subst⁻¹}
use mathlib.Core.List.{List}
use native.Mathlib.Decide.{ℕ_discrete}
use native.Mathlib.Omega.{arith}
use Prim.Native.Nat.{ℕ, ◌*◌, ◌%◌, ◌^◌, ◌<◌, ◌≤◌}
use lib.Bits.{bit_and, bit_or}
use Rattle.std.specs.Int.{w32, trailing_zeros}
use Rattle.std.proofs.lemmas.Nat.{and_le_r}
use Rattle.consistency.specs.internal.Solution.{Bit, together}
use Rattle.consistency.specs.internal.Steps.{Apart}
use Rattle.consistency.proofs.Masks.{bit-and, bit-zero, first-bit, first-below, without, without_less, set-other}
use Rattle.consistency.proofs.alone.Goals as goal
use Rattle.consistency.proofs.alone.Goals.{then-table-q-eq0, else-table-q-eq0}

one-more : (table : List ℕ) (own p q m k : ℕ) → k < 24 → bit_and (together table q k p) own ≡ 0
    → Apart table own p q m → Apart table own p q (bit_or m (1 * 2 ^ k % 2 ^ 32))
one-more table own p q m k less none before d e h j b has forth back = go (ℕ_discrete e k)
  where
    go : Dec (e ≡ k) → ⊥
    go (yes same) =
        let goes : Bit (together table q k p) d = subst (λ (x : ℕ). Bit (together table q x p) d) same back in
        bit-zero d (subst (λ (x : ℕ). Bit x d) none (bit-and (together table q k p) own d goes has))
    go (no other) = before d e h j (set-other m k e less other b) has forth back

pub loop-rest-init : goal.loop-rest-init
loop-rest-init c =
    let small : bit_and c.args.asked 16777215 ≤ 16777215 = and_le_r c.args.asked 16777215 in
    (omega arith, λ d e h j b has forth back. bit-zero e b)

pub loop-rest-smaller : goal.loop-rest-smaller
loop-rest-smaller c =
    let n = c.loop-rest.rest in
    without_less n (trailing_zeros w32 n) (first-below n (omega arith) c.loop-rest.invariant.0) (first-bit n (omega arith) c.loop-rest.invariant.0)

pub bounds-table-q : goal.bounds-table-q
bounds-table-q c =
    let below : trailing_zeros w32 c.loop-rest.rest < 24 = first-below c.loop-rest.rest (omega arith) c.loop-rest.invariant.0 in
    omega arith

pub loop-rest-preserved : goal.loop-rest-preserved
loop-rest-preserved c =
    let args = c.args in
    let loop = c.loop-rest in
    let n = loop.rest in
    let k = trailing_zeros w32 n in
    let below : k < 24 = first-below n (omega arith) loop.invariant.0 in
    let less : without n k < n = without_less n k below (first-bit n (omega arith) loop.invariant.0) in (
      omega arith,
      elim c.if-table-q-eq0.branch [
        | then-table-q-eq0 w ↦
            subst⁻¹ (Apart args.table.now args.own args.p args.q) w.mask-is
            (one-more args.table.now args.own args.p args.q loop.mask k below w.if-table-q-eq0.true loop.invariant.1)
        | else-table-q-eq0 w ↦ subst⁻¹ (Apart args.table.now args.own args.p args.q) w.mask-is loop.invariant.1
      ],
    )
