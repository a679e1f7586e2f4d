-- `chain` walks over the rows. Assumes nothing.
use mathlib.Core.Path.{◌≡◌, refl, sym, ap, subst, ◌∙◌}
use Prim.Native.Nat.{ℕ, suc, ◌+◌, ◌<◌}
use native.Mathlib.Numerals.{add-one}
use native.Mathlib.Omega.{arith}
use lib.ListN.{length, get_or}
use Rattle.words.specs.declared.Position.{Position}
use Rattle.words.specs.declared.Rows.{Rows}
use Rattle.words.proofs.Walking.{stepped, ended}
use Rattle.join_lookup.specs.internal.Starts.{start_of, row_count}
use Rattle.join_lookup.proofs.Starting.{start-next, inside-start, outside-start}
use Rattle.join_parts.specs.internal.Parts.{Chained}
use Rattle.join_parts.proofs.Chaining.{chained-none}
use Rattle.join_parts.proofs.chain.Goals as goal
use Rattle.codes.specs.internal.Codes.{codes_in}
use Rattle.join_parts.proofs.chain.Goals.{In-Some}

-- The row at which the walk stands is there
low : (c : In-Some) → c.loop-row.row-iterator.place.number < row_count c.args.schema.now c.args.words.now
low c =
    let l = c.loop-row in
    let step = stepped l.invariant.0 l.invariant.1 c.in-Some.ensures.steps in
    inside-start c.args.schema.now c.args.words.now c.requires.words_value.0 l.row-iterator.place.number l.invariant.3
    (omega (arith, l.invariant.2, step.inside))

-- and is given
begins : (c : In-Some) → c.in-Some.row.at ≡ start_of c.args.schema.now c.args.words.now c.loop-row.row-iterator.place.number
begins c =
    let l = c.loop-row in
    let step = stepped l.invariant.0 l.invariant.1 c.in-Some.ensures.steps in
    ap (λ (p : Position). p.at) step.row ∙ l.invariant.2

pub loop-row-init : goal.loop-row-init
unfolding start_of
loop-row-init c =
    let it = c.into_iter-row-iterator.ensures.into_iter_gives in
    let e = c.each_row-row-items.ensures in
    let place : c.into_iter-row-iterator.result.place ≡ record { at = 0; number = 0 } = ap (λ (r : Rows). r.place) it ∙ e.2 in
    let at : c.into_iter-row-iterator.result.place.at ≡ 0 = ap (λ (p : Position). p.at) place in
    let number : c.into_iter-row-iterator.result.place.number ≡ 0 = ap (λ (p : Position). p.number) place in
    let size : length c.fill.new.self ≡ length c.args.heads.now = c.fill.ensures.len in
    let empty : (b : ℕ) → b < c.args.x.index.buckets → get_or c.fill.new.self b 0 ≡ 0 = λ b h. c.fill.ensures.clones b 0 (omega (arith, c.requires.room.0)) refl in (
      ap (λ (r : Rows). r.schema.now) it ∙ e.0,
      ap (λ (r : Rows). r.words.now) it ∙ e.1,
      at ∙ ap (start_of c.args.schema.now c.args.words.now) (sym number),
      omega (arith, number),
      size,
      refl,
      subst (λ (n : ℕ). Chained (codes_in c.args.codes.now) c.args.schema.now c.args.words.now c.args.x n c.fill.new.self c.args.links.now) (sym number)
          (chained-none (codes_in c.args.codes.now) c.args.schema.now c.args.words.now c.args.x c.fill.new.self c.args.links.now empty),
    )

pub link_row-requires-clause-by_index : goal.link_row-requires-clause-by_index
link_row-requires-clause-by_index c =
    let i = (goal.at.link_row-requires-clause-by_index c).In-Some in
    (c.loop-row.row-iterator.place.number, (begins i, low i))

pub loop-row-preserved : goal.loop-row-preserved
loop-row-preserved c =
    let i = (goal.at.loop-row-preserved c).In-Some in
    let a = c.args in
    let l = c.loop-row in
    let S = a.schema.now in
    let W = a.words.now in
    let p = l.row-iterator.place in
    let q = c.next.new.self.place in
    let step = stepped l.invariant.0 l.invariant.1 c.in-Some.ensures.steps in
    let number : q.number ≡ suc p.number = step.number ∙ add-one p.number in
    let next : q.at ≡ start_of S W (suc p.number) =
    step.next.place ∙ ap (λ (m : ℕ). m + 1 + get_or S (get_or W m 0) 0) l.invariant.2 ∙ sym (start-next S W c.requires.words_value.0 p.number (low i)).place in (
      step.schema-same,
      step.words-same,
      next ∙ ap (start_of S W) (sym number),
      omega (arith, number, low i),
      c.link_row.ensures.heads_len_unchanged ∙ l.invariant.4,
      c.link_row.ensures.links_len_unchanged ∙ l.invariant.5,
      subst (λ (n : ℕ). Chained (codes_in a.codes.now) S W a.x n c.link_row.new.heads c.link_row.new.links) (sym number)
          (c.link_row.ensures.by_index_2 p.number (begins i, low i) l.invariant.6),
    )

pub returns-clause-chained : goal.returns-clause-chained
returns-clause-chained c =
    let l = c.loop-row in
    let end = ended l.invariant.0 l.invariant.1 c.in-None.ensures.steps in
    let all : l.row-iterator.place.number ≡ row_count c.args.schema.now c.args.words.now =
    outside-start c.args.schema.now c.args.words.now c.requires.words_value.0 l.row-iterator.place.number l.invariant.3 (omega (arith, l.invariant.2, end)) in
    subst (λ (n : ℕ). Chained (codes_in c.args.codes.now) c.args.schema.now c.args.words.now c.args.x n l.heads l.links) all l.invariant.6
