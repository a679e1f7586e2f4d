-- `sought_of` takes two hashes of a row's left values, and its right value. Invariant: the hashes of what is left of the left set, begun with h and tag,
-- are the whole hashes.
-- Assumes nothing.
use mathlib.Core.Path.{◌≡◌, sym, ap, subst, ◌∙◌}
use mathlib.Core.Logic.{⊎_elim, inl, inr}
use Prim.Native.Nat.{ℕ, ◌-◌, ◌+◌, ◌*◌, ◌/◌, ◌%◌, ◌^◌, ◌<◌}
use native.Mathlib.Omega.{arith}
use Rattle.theory.specs.Query.{column}
use Rattle.query.specs.View.{columns_of}
use Rattle.words.specs.internal.Rows.{span_read}
use Rattle.grouping.specs.internal.Hash.{hash_from, spread}
use Rattle.grouping.specs.declared.Sought.{Sought}
use Rattle.codes.specs.internal.Codes.{codes_in}
use Rattle.words.proofs.Columns.{span-value}
use Rattle.grouping.proofs.Hashes.{mask-some, mask-half, Mixed, hash-start, hash-on, hash-low, hash-end}
use Rattle.grouping.proofs.sought_of.Goals as goal
use Rattle.grouping.proofs.sought_of.Goals.{In-loop-left, Joined-left-eq1}

abbrev made : ℕ → ℕ → ℕ → Sought
made b t r = record { bucket = b; tag = t; right = r }

same : {b b' t t' r r' : ℕ} → b ≡ b' → t ≡ t' → r ≡ r' → made b t r ≡ made b' t' r'
same {b} {b'} {t} {t'} {r} {r'} e f g = ap (λ (x : ℕ). made x t r) e ∙ ap (λ (x : ℕ). made b' x r) f ∙ ap (made b' t') g

-- A column of the left set is left
inside : (c : In-loop-left) → c.loop-left.c < c.args.width
inside c = let l = c.loop-left in
    omega (arith, mask-some (c.args.width - l.c) l.left l.invariant.1 c.loop-left-test.true)

-- What the passed column does to each hash
mixed-h : (c : Joined-left-eq1) → Mixed (codes_in c.args.codes.now) 1000003 c.args.width c.args.words.now
    c.args.a c.loop-left.c c.loop-left.left c.loop-left.h c.if-left-eq1.h
mixed-h c = let l = c.loop-left in
    ⊎_elim (λ w. inl (w.if-left-eq1.true, w.h-is ∙ ap (λ (x : ℕ). (l.h * 1000003 + x) % 4294967296) w.value-x.ensures)) (λ w. inr (w.if-left-eq1.false, w.h-is)) c.if-left-eq1.branch-raw

mixed-tag : (c : Joined-left-eq1) → Mixed (codes_in c.args.codes.now) 2654435761 c.args.width
    c.args.words.now c.args.a c.loop-left.c
    c.loop-left.left c.loop-left.tag c.if-left-eq1.tag
mixed-tag c = let l = c.loop-left in
    ⊎_elim (λ w. inl (w.if-left-eq1.true, w.tag-is ∙ ap (λ (x : ℕ). (l.tag * 2654435761 + x) % 4294967296) w.value-x.ensures)) (λ w. inr (w.if-left-eq1.false, w.tag-is)) c.if-left-eq1.branch-raw

pub loop-left-preserved : goal.loop-left-preserved
loop-left-preserved c = let a = c.args in
    let l = c.loop-left in
    let W = a.words.now in
    let C = codes_in a.codes.now in
    let low : l.c < a.width = inside (goal.at.loop-left-preserved c).In-loop-left in
    let less : a.width - l.c - 1 ≡ a.width - (l.c + 1) = omega arith in (
      omega arith,
      subst (λ (n : ℕ). l.left / 2 < 2 ^ n) less (mask-half (a.width - l.c) l.left (omega arith) l.invariant.1),
      hash-low C 1000003 a.width W a.a l.c l.left l.h c.if-left-eq1.h l.invariant.2 (mixed-h (goal.at.loop-left-preserved c).Joined-left-eq1),
      hash-low C 2654435761 a.width W a.a l.c l.left l.tag c.if-left-eq1.tag l.invariant.3 (mixed-tag (goal.at.loop-left-preserved c).Joined-left-eq1),
      l.invariant.4 ∙ hash-on C 1000003 a.width W a.a l.c l.left l.h c.if-left-eq1.h low c.requires.width_in_bounds
          (mixed-h (goal.at.loop-left-preserved c).Joined-left-eq1),
      l.invariant.5 ∙ hash-on C 2654435761 a.width W a.a l.c l.left l.tag c.if-left-eq1.tag low c.requires.width_in_bounds
          (mixed-tag (goal.at.loop-left-preserved c).Joined-left-eq1),
    )

pub returns-clause-value : goal.returns-clause-value
returns-clause-value c = let e = c in
    let l = e.loop-left in
    let s = e in
    let a = s.args in
    let W = a.words.now in
    let C = codes_in a.codes.now in
    let r = span_read C a.width W a.a in
    let done : l.left ≡ 0 = e.loop-left-test.false in
    let h : hash_from 1000003 (columns_of a.d.left) 0 r ≡ l.h =
    hash-start C 1000003 a.width W a.a a.d.left s.requires.width_bound.0 s.requires.width_bound.1 ∙ l.invariant.4
    ∙ hash-end C 1000003 a.width W a.a l.c l.left l.h done in
    let tag : hash_from 2654435761 (columns_of a.d.left) 0 r ≡ l.tag =
    hash-start C 2654435761 a.width W a.a a.d.left s.requires.width_bound.0 s.requires.width_bound.1 ∙ l.invariant.5
    ∙ hash-end C 2654435761 a.width W a.a l.c l.left l.tag done in
    let right : column 0 r a.d.right ≡ c.value.result =
    span-value C a.width W a.a a.d.right s.requires.width_bound.2 s.requires.width_in_bounds ∙ sym c.value.ensures in
    sym (same (ap (spread a.buckets) h) tag right)
