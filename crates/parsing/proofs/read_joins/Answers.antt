-- `parsing::read_joins` meets its contract. Invariant: what has been read of the bytes. Assumes nothing.
use mathlib.Core.Path.{◌≡◌, refl, sym, ap, ◌∙◌}
use mathlib.Core.List.{List, [], ◌∷◌}
use Prim.Native.Nat.{ℕ, ◌+◌, ◌≤◌, ◌<◌}
use native.Mathlib.Omega.{arith}
use lib.ListN.{length, set, take, drop, replicate, length-set}
use lib.Seq.{length-take-le}
use borrow.Author.Rules.{rules}
use borrow.Author.Tests.{eqb-true, eqb-false}
use Rattle.refusals.specs.Refusals.{bad_join}
use Rattle.lists.specs.Tests.{between}
use Rattle.lists.proofs.Tests.{between-true}
use Rattle.query.specs.declared.JoinDependency.{JoinDependency}
use Rattle.query.specs.Rule.{no_join}
use Rattle.format.specs.Format.{none, got, get_byte}
use Rattle.format.specs.Parts.{join, unused_join, joins}
use Rattle.format.specs.File.{complete, read_joins}
use Rattle.std.proofs.Common.{None, Some}
use Rattle.limits.specs.internal.Schema.{widths_in}
use Rattle.parsing.specs.internal.Read.{value_given, reading_of}
use Rattle.parsing.proofs.Counted.{byte-read, no-count, counting-lends, counting-turns-lent, counting-fails, counting-ends, counting-long}
use Rattle.parsing.proofs.read_joins.Invariants.{At, slots}
use Rattle.parsing.proofs.read_joins.Goals as goal
use Rattle.parsing.proofs.read_joins.Goals.{Else-is_empty}

no_bytes : (schema part : List ℕ) → length part ≡ 0 → Some (0, replicate 4 no_join) ≡ value_given (read_joins schema part)
unfolding read_joins
no_bytes schema [] e = refl
no_bytes schema (b ∷ part) e = absurd (omega arith)

-- Bytes are to be those of join dependencies
some_bytes : (schema part : List ℕ) → (length part ≡ 0 → ⊥) → read_joins schema part ≡ complete bad_join ((joins schema).get part)
unfolding read_joins
some_bytes schema [] e = absurd (e refl)
some_bytes schema (b ∷ part) e = refl

module _ (schema part : List ℕ) (some : length part ≡ 0 → ⊥) where
  begins : (n : ℕ) (front : List ℕ) → get_byte (between 1 4) part ≡ got n front → (n ≤ 4) × At schema part n (slots n (take n (replicate 4 no_join))) 0 front
  begins n front e =
      ((between-true 1 4 n (byte-read (between 1 4) part n front e)).1, counting-lends (between 1 4) 4 no_join unused_join (join schema) part n front e)

  no-joins-read : get_byte (between 1 4) part ≡ none → None ≡ value_given (read_joins schema part)
  unfolding joins
  no-joins-read e =
      sym (ap value_given (some_bytes schema part some ∙ no-count (between 1 4) 4 no_join unused_join (join schema) part bad_join e))

  module _ (n : ℕ) (lent : List JoinDependency) (i : ℕ) (left : List ℕ) (f : At schema part n (slots n lent) i left) where
    goes_on : i < n → i < length lent → (j : JoinDependency) (next : List ℕ) → (join schema).get left ≡ got j next
        → At schema part n (slots n (set lent i j)) (i + 1) next
    goes_on h l j next e =
        counting-turns-lent (between 1 4) 4 no_join unused_join (join schema) part lent (drop n (replicate 4 no_join)) f j next h l e

    fails : i < n → (join schema).get left ≡ none → None ≡ value_given (read_joins schema part)
    unfolding joins
    fails h e =
        sym (ap value_given (some_bytes schema part some ∙ counting-fails (between 1 4) 4 no_join unused_join (join schema) part f bad_join h e))

    too_long : n ≤ i → (length left ≡ 0 → ⊥) → None ≡ value_given (read_joins schema part)
    unfolding joins
    too_long l t =
        sym (ap value_given (some_bytes schema part some ∙ counting-long (between 1 4) 4 no_join unused_join (join schema) part f bad_join l t))

    accepted : n ≤ i → length left ≡ 0 → Some (n, slots n lent) ≡ value_given (read_joins schema part)
    unfolding joins
    accepted l t =
        sym (ap value_given (some_bytes schema part some ∙ counting-ends (between 1 4) 4 no_join unused_join (join schema) part f bad_join l t))

-- There are bytes
some_left : (c : Else-is_empty) → length c.args.part.now ≡ 0 → ⊥
some_left c = eqb-false _ _ (sym c.is_empty.ensures ∙ c.if-is_empty.false)

pub returns-then-is_empty : goal.returns-then-is_empty
returns-then-is_empty c = no_bytes (widths_in c.args.schema) c.args.part.now (eqb-true _ _ (sym c.is_empty.ensures ∙ c.if-is_empty.true))

pub returns-in_err-joined : goal.returns-in_err-joined
returns-in_err-joined c =
    c.from_residual.ensures
    ∙ no-joins-read (widths_in c.args.schema) c.args.part.now (some_left (goal.at.returns-in_err-joined c).Else-is_empty)
    (sym c.read_byte.ensures ∙ ap reading_of c.in_err-joined.was)

pub slice_bounds-joins-end : goal.slice_bounds-joins-end
slice_bounds-joins-end c = (between-true 1 4 _ (byte-read (between 1 4) _ _ _ (sym c.read_byte.ensures ∙ ap reading_of c.in_ok-joined.was))).1

pub slice_bounds-slot-items-end : goal.slice_bounds-slot-items-end
slice_bounds-slot-items-end c =
    let few : c.in_ok-joined.joined ≤ 4 =
    (between-true 1 4 _ (byte-read (between 1 4) _ _ _ (sym c.read_byte.ensures ∙ ap reading_of c.in_ok-joined.was))).1
    in
    search rules

pub loop-slot-init : goal.loop-slot-init
loop-slot-init c =
    let n = c.in_ok-joined.joined in
    let (few, f) =
    begins (widths_in c.args.schema) c.args.part.now (some_left (goal.at.loop-slot-init c).Else-is_empty) n c.in_ok-joined.front.now
    (sym c.read_byte.ensures ∙ ap reading_of c.in_ok-joined.was)
    in
    (few, length-take-le n (replicate 4 no_join) few, f)

pub returns-in_err-j : goal.returns-in_err-j
returns-in_err-j c =
    let l = c.loop-slot in
    let inside : l.slot-index < length l.slot-items = rw l.auto.slot-items c.loop-slot-test.true in
    c.from_residual-in_err-j.ensures
    ∙ fails (widths_in c.args.schema) c.args.part.now (some_left (goal.at.returns-in_err-j c).Else-is_empty) _ _ _ _ l.invariant.2
    (omega (arith, l.invariant.1, inside)) (sym c.read_join.ensures ∙ ap reading_of c.in_err-j.was)

pub loop-slot-preserved : goal.loop-slot-preserved
loop-slot-preserved c =
    let l = c.loop-slot in
    let inside : l.slot-index < length l.slot-items = rw l.auto.slot-items c.loop-slot-test.true in (
      l.invariant.0,
      length-set l.slot-items l.slot-index c.in_ok-j.j ∙ l.invariant.1,
      goes_on (widths_in c.args.schema) c.args.part.now (some_left (goal.at.loop-slot-preserved c).Else-is_empty) _ _ _ _ l.invariant.2
          (omega (arith, l.invariant.1)) inside c.in_ok-j.j c.in_ok-j.after.now (sym c.read_join.ensures ∙ ap reading_of c.in_ok-j.was),
    )

pub returns-then-not-is_empty : goal.returns-then-not-is_empty
returns-then-not-is_empty c =
    let l = c.loop-slot in
    let past : length l.slot-items ≤ l.slot-index = rw l.auto.slot-items c.loop-slot-test.false in
    too_long (widths_in c.args.schema) c.args.part.now (some_left (goal.at.returns-then-not-is_empty c).Else-is_empty) _ _ _ _ l.invariant.2
    (omega (arith, l.invariant.1)) (eqb-false _ _ (sym c.is_empty-2.ensures ∙ c.if-not-is_empty.true))

pub returns : goal.returns
returns c =
    let l = c.loop-slot in
    let past : length l.slot-items ≤ l.slot-index = rw l.auto.slot-items c.loop-slot-test.false in
    accepted (widths_in c.args.schema) c.args.part.now (some_left (goal.at.returns c).Else-is_empty) _ _ _ _ l.invariant.2
    (omega (arith, l.invariant.1)) (eqb-true _ _ (sym c.is_empty-2.ensures ∙ c.if-not-is_empty.false))
