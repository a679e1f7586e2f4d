-- `bucket` mixes the values of the columns. Invariant: the number of what is left, begun with h, is the whole number.
-- Assumes nothing.
use mathlib.Core.Path.{◌≡◌, ap, sym, ◌∙◌}
use mathlib.Core.Bool.{false≢true}
use Prim.Native.Nat.{ℕ, ◌+◌, ◌*◌, ◌/◌, ◌%◌, ◌^◌, ◌<◌, ◌≤◌}
use native.Mathlib.Nat.{div-one, mod-lt, mul-lt-mul_of_pos_right, div-lt_iff_lt-mul}
use native.Mathlib.Omega.{arith}
use mir.Val.{Fits}
use mir.Syntax.{w32}
use lib.ListN.{length, take, get_or}
use Rattle.tables.specs.internal.Table.{mixed}
use Rattle.tables.proofs.Buckets.{shifted, mixed_at, mixed-start, mixed-take, mixed-skip, mixed-end}
use borrow.Author.Tests.{eqb-true, eq-eqb}
use borrow.Author.Rules.{rules}
use Rattle.join_lookup.proofs.bucket.Goals as goal
use Rattle.join_lookup.proofs.bucket.Goals.{After-loop-c, then-has_column, else-has_column}

pub loop-c-init : goal.loop-c-init
loop-c-init c = (omega arith, ap (λ (m : ℕ). mixed_at c.args.values c.args.width 0 m 0) (sym (div-one c.args.columns)))

pub overflow_add-h : goal.overflow_add-h
overflow_add-h c =
    let small : Fits w32 (get_or c.args.values c.loop-c.c 0) = search rules in
    omega (arith, small.fits)

pub loop-c-preserved : goal.loop-c-preserved
loop-c-preserved c =
    let a = c.args in
    let l = c.loop-c in
    let xs = a.values in
    let left : ℕ = a.columns / 2 ^ l.c in
    let size : length xs ≡ 8 = search rules in
    let wide : a.width ≤ length xs = omega (arith, c.requires.0) in
    let x : ℕ = get_or xs l.c 0 in
    let on : mixed_at xs a.width (l.c + 1) (left / 2) c.if-has_column.h ≡ mixed_at xs a.width (l.c + 1) (a.columns / 2 ^ (l.c + 1)) c.if-has_column.h =
    ap (λ (m : ℕ). mixed_at xs a.width (l.c + 1) m c.if-has_column.h) (shifted a.columns l.c) in
    elim c.if-has_column.branch [
      | then-has_column w ↦ let e : c.if-has_column.h ≡ (l.h * 2654435769 + x) % 4294967296 = w.h-is in (
        omega (arith, mod-lt (l.h * 2654435769 + x) {m = 4294967296} (omega arith)),
        l.invariant.1 ∙ mixed-take xs a.width l.c left l.h c.loop-c-test.true wide (eqb-true _ 1 (sym c.has_column.ensures ∙ w.if-has_column.true))
            ∙ ap (mixed_at xs a.width (l.c + 1) (left / 2)) (sym w.h-is) ∙ on,
      )
      | else-has_column w ↦ let e : c.if-has_column.h ≡ l.h = w.h-is in (
        omega arith,
        l.invariant.1 ∙ mixed-skip xs a.width l.c left l.h c.loop-c-test.true wide
            (λ bit. false≢true (sym w.if-has_column.false ∙ c.has_column.ensures ∙ eq-eqb _ 1 bit))
            ∙ ap (mixed_at xs a.width (l.c + 1) (left / 2)) (sym w.h-is) ∙ on,
      )
    ]

-- What is spread stays below the number of buckets
below : (c : After-loop-c) → (c.loop-c.h * 2654435769) % 4294967296 * c.args.buckets < c.args.buckets * 4294967296
below c =
    let n = c.args.buckets in
    let m = (c.loop-c.h * 2654435769) % 4294967296 in
    let low : m < 4294967296 = mod-lt (c.loop-c.h * 2654435769) {m = 4294967296} (omega arith) in
    let less : m * n < 4294967296 * n = mul-lt-mul_of_pos_right low c.requires.1 in
    omega arith

pub overflow_mul-result : goal.overflow_mul-result
overflow_mul-result c = omega (arith, below (goal.at.overflow_mul-result c).After-loop-c, c.requires.2)

pub returns : goal.returns
returns c = let s = c in
    let a = s.args in
    let l = c.loop-c in
    let e : mixed 0 a.columns (take a.width a.values) ≡ l.h =
    mixed-start a.values a.width a.columns ∙ l.invariant.1 ∙ mixed-end a.values a.width l.c (a.columns / 2 ^ l.c) l.h c.loop-c-test.false in (
      sym (ap (λ (x : ℕ). ((x * 2654435769) % 4294967296 * a.buckets) / 4294967296) e),
      (div-lt_iff_lt-mul {k = 4294967296} (omega arith)).1 (below (goal.at.returns c).After-loop-c),
    )
