-- `read_dependencies` meets its contract. Invariant: what has been read of the part. Assumes nothing.
use mathlib.Core.Path.{◌≡◌, sym, ap, ◌∙◌}
use mathlib.Core.List.{List}
use Prim.Native.Nat.{ℕ, ◌+◌, ◌≤◌, ◌<◌}
use native.Mathlib.Omega.{arith}
use borrow.Author.Rules.{rules}
use lib.Dec.{leb}
use lib.ListN.{length, set, take, drop, replicate, length-set}
use lib.Seq.{length-take-le}
use Rattle.lists.specs.Tests.{between}
use Rattle.query.specs.declared.Dependency.{Dependency}
use Rattle.query.specs.Rule.{blank_dependency, no_dependency}
use Rattle.format.specs.Format.{none, got, get_byte}
use Rattle.format.specs.Parts.{dependency, dependencies}
use Rattle.limits.specs.internal.Schema.{widths_in}
use Rattle.parsing.specs.internal.Read.{reading_of}
use Rattle.parsing.proofs.Counted.{no-low, byte-within, counting-lends, counting-turns-lent, counting-fails-front, counting-ends-front, no-count-front}
use Rattle.parsing.proofs.read_dependencies.Invariants.{At, slots}
use Rattle.parsing.proofs.read_dependencies.Goals as goal

module _ (schema part : List ℕ) where
  no-dependencies : get_byte (between 0 32) part ≡ none → none ≡ (dependencies schema).get part
  unfolding dependencies
  no-dependencies e =
      sym (no-count-front (λ n. leb n 32) 32 no_dependency blank_dependency (dependency schema) part (sym (no-low 32 part) ∙ e))

  begins : (n : ℕ) (front : List ℕ) → get_byte (between 0 32) part ≡ got n front
      → (n ≤ 32) × At schema part n (slots n (take n (replicate 32 no_dependency))) 0 front
  begins n front h =
      let e : get_byte (λ n. leb n 32) part ≡ got n front = sym (no-low 32 part) ∙ h in
      (byte-within 32 part n front e, counting-lends (λ n. leb n 32) 32 no_dependency blank_dependency (dependency schema) part n front e)

  module _ (n : ℕ) (lent : List Dependency) (i : ℕ) (left : List ℕ) (f : At schema part n (slots n lent) i left) where
    goes_on : i < n → i < length lent → (d : Dependency) (next : List ℕ) → (dependency schema).get left ≡ got d next
        → At schema part n (slots n (set lent i d)) (i + 1) next
    goes_on h l d next e =
        counting-turns-lent (λ n. leb n 32) 32 no_dependency blank_dependency (dependency schema) part lent (drop n (replicate 32 no_dependency)) f d next
        h l e

    fails : i < n → (dependency schema).get left ≡ none → none ≡ (dependencies schema).get part
    unfolding dependencies
    fails h e = sym (counting-fails-front (λ n. leb n 32) 32 no_dependency blank_dependency (dependency schema) part f h e)

    accepted : n ≤ i → got (n, slots n lent) left ≡ (dependencies schema).get part
    unfolding dependencies
    accepted l = sym (counting-ends-front (λ n. leb n 32) 32 no_dependency blank_dependency (dependency schema) part f l)

pub returns-in_err-held : goal.returns-in_err-held
returns-in_err-held c =
    ap reading_of c.from_residual.ensures
    ∙ no-dependencies (widths_in c.args.schema) c.args.part.now (sym c.read_byte.ensures ∙ ap reading_of c.in_err-held.was)

pub slice_bounds-dependencies-end : goal.slice_bounds-dependencies-end
slice_bounds-dependencies-end c = (begins (widths_in c.args.schema) c.args.part.now _ c.in_ok-held.front.now (sym c.read_byte.ensures ∙ ap reading_of c.in_ok-held.was)).0

pub slice_bounds-slot-items-end : goal.slice_bounds-slot-items-end
slice_bounds-slot-items-end c =
    let few : c.in_ok-held.held ≤ 32 =
    (begins (widths_in c.args.schema) c.args.part.now _ c.in_ok-held.front.now (sym c.read_byte.ensures ∙ ap reading_of c.in_ok-held.was)).0 in
    search rules

pub loop-slot-init : goal.loop-slot-init
loop-slot-init c =
    let n = c.in_ok-held.held in
    let (few, f) = begins (widths_in c.args.schema) c.args.part.now n c.in_ok-held.front.now (sym c.read_byte.ensures ∙ ap reading_of c.in_ok-held.was) in
    (few, length-take-le n (replicate 32 no_dependency) few, f)

pub returns-in_err-d : goal.returns-in_err-d
returns-in_err-d c =
    let inside : c.loop-slot.slot-index < length c.loop-slot.slot-items = rw c.loop-slot.auto.slot-items c.loop-slot-test.true in
    ap reading_of c.from_residual-in_err-d.ensures
    ∙ fails _ _ _ _ _ _ c.loop-slot.invariant.2 (omega (arith, c.loop-slot.invariant.1, inside))
    (sym c.read_dependency.ensures ∙ ap reading_of c.in_err-d.was)

pub loop-slot-preserved : goal.loop-slot-preserved
loop-slot-preserved c =
    let l = c.loop-slot in
    let inside : l.slot-index < length l.slot-items = rw l.auto.slot-items c.loop-slot-test.true in (
      l.invariant.0,
      length-set l.slot-items l.slot-index c.in_ok-d.d ∙ l.invariant.1,
      goes_on _ _ _ _ _ _ l.invariant.2 (omega (arith, l.invariant.1)) inside c.in_ok-d.d c.in_ok-d.after.now
          (sym c.read_dependency.ensures ∙ ap reading_of c.in_ok-d.was),
    )

pub returns : goal.returns
returns c =
    let l = c.loop-slot in
    let past : length l.slot-items ≤ l.slot-index = rw l.auto.slot-items c.loop-slot-test.false in
    accepted _ _ _ _ _ _ l.invariant.2 (omega (arith, l.invariant.1))
