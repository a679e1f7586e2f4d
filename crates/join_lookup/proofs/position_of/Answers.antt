-- `position_of` walks to where the row begins. Assumes nothing.
use mathlib.Core.Path.{◌≡◌, sym, ap, ◌∙◌}
use mathlib.Core.Logic.{⊎_elim}
use mathlib.Core.List.{List}
use Prim.Native.Nat.{ℕ, suc, ◌+◌, ◌≤◌, ◌<◌}
use native.Mathlib.Numerals.{add-one}
use native.Mathlib.Omega.{arith}
use lib.ListN.{get_or}
use Rattle.lists.proofs.Tests.{below-or-past}
use Rattle.words.specs.declared.Position.{Position}
use Rattle.words.specs.declared.Rows.{Rows}
use Rattle.words.specs.internal.Rows.{Next}
use Rattle.words.proofs.Walking.{stepped, ended}
use Rattle.join_lookup.specs.internal.Starts.{start_of}
use Rattle.join_lookup.proofs.Starting.{start-less, start-le}
use Rattle.join_lookup.proofs.position_of.Goals as goal

-- Row n begins before row p: the next one does not begin after it
next-le : (schema words : List ℕ) (n p : ℕ) → start_of schema words n < start_of schema words p → start_of schema words (suc n) ≤ start_of schema words p
next-le schema words n p less =
    ⊎_elim
    (λ low. ⊎_elim (λ l. let i = start-less schema words (suc n) p l in omega arith)
    (λ l. let e : suc n ≡ p = omega arith in let same : start_of schema words (suc n) ≡ start_of schema words p = ap (start_of schema words) e in omega arith)
    (below-or-past (suc n) p))
    (λ past. ⊎_elim (λ l. let i = start-less schema words p n l in absurd (omega arith))
    (λ l. let e : p ≡ n = omega arith in let same : start_of schema words p ≡ start_of schema words n = ap (start_of schema words) e in absurd (omega arith))
    (below-or-past p n)) (below-or-past n p)

-- Where the next row begins
next-at : (schema words : List ℕ) (n at after : ℕ) → at ≡ start_of schema words n → Next schema words at after → after ≡ start_of schema words (n + 1)
unfolding start_of
next-at schema words n at after e next =
    next.place ∙ ap (λ (m : ℕ). m + 1 + get_or schema (get_or words m 0) 0) e ∙ ap (start_of schema words) (sym (add-one n))

pub loop-row-init : goal.loop-row-init
unfolding start_of
loop-row-init c =
    let it = c.into_iter-row-iterator.ensures.into_iter_gives in
    let e = c.each_row-row-items.ensures in
    let place : c.into_iter-row-iterator.result.place ≡ record { at = 0; number = 0 } = ap (λ (r : Rows). r.place) it ∙ e.2 in
    let at : c.into_iter-row-iterator.result.place.at ≡ 0 = ap (λ (p : Position). p.at) place in
    let number : c.into_iter-row-iterator.result.place.number ≡ 0 = ap (λ (p : Position). p.number) place in (
      ap (λ (r : Rows). r.schema.now) it ∙ e.0,
      ap (λ (r : Rows). r.words.now) it ∙ e.1,
      at ∙ ap (start_of c.args.schema.now c.args.words.now) (sym number),
      omega arith,
      sym number,
    )

pub loop-row-preserved : goal.loop-row-preserved
loop-row-preserved c =
    let a = c.args in
    let l = c.loop-row in
    let S = a.schema.now in
    let W = a.words.now in
    let p = l.row-iterator.place in
    let q = c.next.new.self.place in
    let step = stepped l.invariant.0 l.invariant.1 c.in-Some.ensures.steps in
    let same : c.in-Some.row.at ≡ p.at = ap (λ (x : Position). x.at) step.row in
    let at : q.at ≡ start_of S W (p.number + 1) = next-at S W p.number p.at q.at l.invariant.2 step.next in
    let less : start_of S W p.number < start_of S W c.requires.by_index.0 =
    omega (arith, c.requires.by_index.1, l.invariant.2, l.invariant.3, c.if-row-at.false) in
    let le = next-le S W p.number c.requires.by_index.0 less in
    let at' : q.at ≡ start_of S W (Prim.Native.Nat.suc p.number) = at ∙ ap (start_of S W) (add-one p.number) in (
      step.schema-same,
      step.words-same,
      at ∙ ap (start_of S W) (sym step.number),
      omega (arith, le, at', c.requires.by_index.1),
      ap (λ (x : Position). x.number + 1) step.row ∙ sym step.number,
    )

pub returns : goal.returns
returns c =
    let a = c.args in
    let l = c.loop-row in
    let end = ended l.invariant.0 l.invariant.1 c.in-None.ensures.steps in
    let le = start-le a.schema.now a.words.now c.requires.words_value c.requires.by_index.0 c.requires.by_index.2 in
    let here : a.at ≡ l.row-iterator.place.at = omega (arith, end, le, l.invariant.3, c.requires.by_index.1) in
    here ∙ l.invariant.2 ∙ ap (start_of a.schema.now a.words.now) (sym l.invariant.4)
