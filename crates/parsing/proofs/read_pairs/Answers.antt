-- `read_pairs` meets its contract. Invariant: what has been read of the part. Assumes nothing.
use mathlib.Core.Path.{◌≡◌, sym, ap, ◌∙◌}
use mathlib.Core.List.{List}
use Prim.Native.Nat.{ℕ, ◌+◌, ◌≤◌, ◌<◌}
use native.Mathlib.Omega.{arith}
use borrow.Author.Rules.{rules}
use lib.ListN.{length, set, take, drop, replicate, length-set}
use lib.Seq.{length-take-le}
use Rattle.lists.specs.Tests.{between}
use Rattle.lists.proofs.Tests.{between-true}
use Rattle.query.specs.declared.CodePair.{CodePair}
use Rattle.query.specs.Rule.{blank_pair, no_pair}
use Rattle.format.specs.Format.{none, got, get_byte}
use Rattle.format.specs.Parts.{code_pair, code_pairs}
use Rattle.parsing.specs.internal.Read.{reading_of}
use Rattle.parsing.proofs.Counted.{byte-read, counting-lends, counting-turns-lent, counting-fails-front, counting-ends-front, no-count-front}
use Rattle.parsing.proofs.read_pairs.Invariants.{At, slots}
use Rattle.parsing.proofs.read_pairs.Goals as goal

module _ (part : List ℕ) where
  no-pairs : get_byte (between 1 16) part ≡ none → none ≡ code_pairs.get part
  unfolding code_pairs
  no-pairs e =
      sym (no-count-front (between 1 16) 16 no_pair blank_pair code_pair part e)

  begins : (n : ℕ) (front : List ℕ) → get_byte (between 1 16) part ≡ got n front
      → (n ≤ 16) × At part n (slots n (take n (replicate 16 no_pair))) 0 front
  begins n front e =
      ((between-true 1 16 n (byte-read (between 1 16) part n front e)).1, counting-lends (between 1 16) 16 no_pair blank_pair code_pair part n front e)

  module _ (n : ℕ) (lent : List CodePair) (i : ℕ) (left : List ℕ) (f : At part n (slots n lent) i left) where
    goes_on : i < n → i < length lent → (d : CodePair) (next : List ℕ) → code_pair.get left ≡ got d next
        → At part n (slots n (set lent i d)) (i + 1) next
    goes_on h l d next e =
        counting-turns-lent (between 1 16) 16 no_pair blank_pair code_pair part lent (drop n (replicate 16 no_pair)) f d next
        h l e

    fails : i < n → code_pair.get left ≡ none → none ≡ code_pairs.get part
    unfolding code_pairs
    fails h e = sym (counting-fails-front (between 1 16) 16 no_pair blank_pair code_pair part f h e)

    accepted : n ≤ i → got (n, slots n lent) left ≡ code_pairs.get part
    unfolding code_pairs
    accepted l = sym (counting-ends-front (between 1 16) 16 no_pair blank_pair code_pair part f l)

pub returns-in_err-coded : goal.returns-in_err-coded
returns-in_err-coded c =
    ap reading_of c.from_residual.ensures
    ∙ no-pairs c.args.part.now (sym c.read_byte.ensures ∙ ap reading_of c.in_err-coded.was)

pub slice_bounds-codes-end : goal.slice_bounds-codes-end
slice_bounds-codes-end c = (begins c.args.part.now _ c.in_ok-coded.front.now (sym c.read_byte.ensures ∙ ap reading_of c.in_ok-coded.was)).0

pub slice_bounds-slot-items-end : goal.slice_bounds-slot-items-end
slice_bounds-slot-items-end c =
    let few : c.in_ok-coded.coded ≤ 16 =
    (begins c.args.part.now _ c.in_ok-coded.front.now (sym c.read_byte.ensures ∙ ap reading_of c.in_ok-coded.was)).0 in
    search rules

pub loop-slot-init : goal.loop-slot-init
loop-slot-init c =
    let n = c.in_ok-coded.coded in
    let (few, f) = begins c.args.part.now n c.in_ok-coded.front.now (sym c.read_byte.ensures ∙ ap reading_of c.in_ok-coded.was) in
    (few, length-take-le n (replicate 16 no_pair) few, f)

pub returns-in_err-p : goal.returns-in_err-p
returns-in_err-p c =
    let inside : c.loop-slot.slot-index < length c.loop-slot.slot-items = rw c.loop-slot.auto.slot-items c.loop-slot-test.true in
    ap reading_of c.from_residual-in_err-p.ensures
    ∙ fails _ _ _ _ _ c.loop-slot.invariant.2 (omega (arith, c.loop-slot.invariant.1, inside))
    (sym c.read_pair.ensures ∙ ap reading_of c.in_err-p.was)

pub loop-slot-preserved : goal.loop-slot-preserved
loop-slot-preserved c =
    let l = c.loop-slot in
    let inside : l.slot-index < length l.slot-items = rw l.auto.slot-items c.loop-slot-test.true in (
      l.invariant.0,
      length-set l.slot-items l.slot-index c.in_ok-p.p ∙ l.invariant.1,
      goes_on _ _ _ _ _ l.invariant.2 (omega (arith, l.invariant.1)) inside c.in_ok-p.p c.in_ok-p.after.now
          (sym c.read_pair.ensures ∙ ap reading_of c.in_ok-p.was),
    )

pub returns : goal.returns
returns c =
    let l = c.loop-slot in
    let past : length l.slot-items ≤ l.slot-index = rw l.auto.slot-items c.loop-slot-test.false in
    accepted _ _ _ _ _ l.invariant.2 (omega (arith, l.invariant.1))
