-- `shared` goes through the sets. Assumes nothing.
use mathlib.Core.Path.{◌≡◌, ap, subst, ◌∙◌}
use mathlib.Core.Logic.{⊎_elim}
use mathlib.Core.List.{List}
use Prim.Native.Nat.{ℕ, ◌<◌}
use native.Mathlib.Omega.{arith}
use borrow.Author.Rules.{rules}
use lib.ListN.{length, take, get_or}
use lib.Seq.{get_or-take, length-take-le}
use Rattle.lists.proofs.Tests.{below-or-past}
use Rattle.theory.specs.Query.{◌∈◌}
use Rattle.join_lookup.proofs.Bits.{BitOf, column-bit, bit-column, and-bit}
use Rattle.join_testing.proofs.Sets.{in-sets}
use Rattle.join_parts.proofs.shared.Goals as goal

pub loop-set-preserved : goal.loop-set-preserved
loop-set-preserved c k h d bit =
    let l = c.loop-set in
    let j = c.args.j in
    let size : length (take j.count j.sets) ≡ j.count = length-take-le j.count j.sets (omega (arith, c.requires.0, c.requires.1)) in
    let here : get_or (take j.count j.sets) l.set-index 0 ≡ get_or j.sets l.set-index 0 =
    get_or-take j.count j.sets l.set-index 0 (omega (arith, size, c.loop-set-test.true)) in
    let both = and-bit l.columns (get_or (take j.count j.sets) l.set-index 0) d bit in
    ⊎_elim (λ less. l.invariant k less d both.0)
    (λ past.
    let e : l.set-index ≡ k = omega arith in
    subst (λ (n : ℕ). BitOf n d) (here ∙ ap (λ (n : ℕ). get_or j.sets n 0) e) both.1) (below-or-past k l.set-index)

pub returns : goal.returns
returns c set at d there =
    let l = c.loop-set in
    let j = c.args.j in
    let size : length (take j.count j.sets) ≡ j.count = length-take-le j.count j.sets (omega (arith, c.requires.0, c.requires.1)) in
    let low : l.columns < 256 = search (rules, l.auto.columns-fits) in
    let place = in-sets j c.requires.1 c.requires.0 0 set at in
    subst (λ (s : List ℕ). d ∈ s) place.3
    (bit-column (get_or j.sets place.0 0) d (c.requires.2 place.0)
    (l.invariant place.0 (omega (arith, size, place.2, c.loop-set-test.false)) d (column-bit l.columns d low there)))
