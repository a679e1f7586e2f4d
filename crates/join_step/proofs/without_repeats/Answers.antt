-- `join_step::without_repeats` meets its contract. The loop's invariant: what is kept is the tableau with its first i rows only, and of those no repeated ones.
-- Assumes nothing.
use mathlib.Core.Path.{◌≡◌, refl, sym, ◌∙◌, ap}
use mathlib.Core.List.{List}
use Prim.Native.Nat.{ℕ, ◌*◌}
use native.Mathlib.Omega.{arith}
use lib.ListN.{take, drop, get_or}
use lib.Seq.{get_or-take}
use borrow.Author.Rules.{rules}
use Rattle.query.specs.Types.{Tableau}
use Rattle.join_search.specs.internal.Search.{is_first}
use Rattle.join_step.specs.internal.Step.{with_row, distinct_to}
use Rattle.join_step.proofs.Rows.{distinct-size, distinct-keeps, distinct-drops}
use Rattle.join_step.proofs.without_repeats.Goals as goal
use Rattle.join_step.proofs.without_repeats.Goals.{then-is_first, else-is_first}

pub loop-i-init : goal.loop-i-init
unfolding distinct_to
loop-i-init c =
    (search rules, c.codes_of-codes.ensures, refl)

pub with_row-kept-requires : goal.with_row-kept-requires
with_row-kept-requires c =
    let s = c in
    let l = c.loop-i in
    let small = distinct-size s.args.t l.i in
    let same : l.kept.size ≡ (distinct_to s.args.t l.i).size = ap (λ (k : Tableau). k.size) l.invariant.2 in
    omega (arith, small, same, c.loop-i-test.true, s.requires)

pub loop-i-preserved : goal.loop-i-preserved
loop-i-preserved c =
    let s = c in
    let t = s.args.t in
    let l = c.loop-i in
    let row = take 8 (drop (8 * l.i) t.cells) in
    let at : get_or (take t.size t.relations) l.i 0 ≡ get_or t.relations l.i 0 = get_or-take t.size t.relations l.i 0 (omega arith) in
    let first = c.is_first.ensures ∙ ap (λ (r : ℕ). is_first c.codes_of-codes.result t.relations r 255 l.i) at
    ∙ ap (λ (n : List ℕ). is_first n t.relations (get_or t.relations l.i 0) 255 l.i) l.invariant.1 in (
      search rules,
      l.invariant.1,
      elim c.if-is_first.branch [
        | then-is_first w ↦
            w.kept-is ∙ w.with_row-kept.ensures ∙ ap (λ (n : ℕ). with_row l.kept n w.row_at.result) at
            ∙ ap (λ (k : Tableau). with_row k (get_or t.relations l.i 0) w.row_at.result) l.invariant.2
            ∙ ap (with_row (distinct_to t l.i) (get_or t.relations l.i 0)) w.row_at.ensures
            ∙ sym (distinct-keeps t l.i (sym first ∙ w.if-is_first.true))
        | else-is_first w ↦ w.kept-is ∙ l.invariant.2 ∙ sym (distinct-drops t l.i (sym first ∙ w.if-is_first.false))
      ],
    )

pub returns : goal.returns
returns c =
    let t = c.args.t in
    let l = c.loop-i in
    let whole_is : l.i ≡ t.size = omega (arith, l.invariant.0, c.loop-i-test.false) in
    l.invariant.2 ∙ ap (distinct_to t) whole_is
