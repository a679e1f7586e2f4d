-- `assign_row` gives the variables of a row their images. The invariant: those of the columns passed have them.
-- Assumes nothing.
use borrow.Author.Rules.{rules}
use mathlib.Core.Path.{◌≡◌, sym, ap, ◌∙◌, subst}
use Prim.Native.Nat.{ℕ, ◌+◌, ◌<◌}
use lib.ListN.{length, length-set}
use Rattle.mapping.specs.internal.Lines.{RowAssigned}
use Rattle.query.proofs.Codes.{code-constant}
use Rattle.mapping.proofs.Images.{row-start, row-skip, row-store, variable-small}
use Rattle.mapping.proofs.assign.assign_row.Goals as goal
use Rattle.mapping.proofs.assign.assign_row.Goals.{in-Constant, in-Variable}

pub loop-i-init : goal.loop-i-init
loop-i-init c = (search rules, search rules, row-start c.args.images c.args.source.now c.args.target.now c.args.row c.args.image)

pub offset_bounds-out-v : goal.offset_bounds-out-v
offset_bounds-out-v c =
    let s = c in
    let place : s.args.row + s.loop-i.i < 104 = search rules in
    let small = variable-small _ _ (s.requires.2 (s.args.row + s.loop-i.i) place) (sym s.from-own.ensures ∙ c.in-Variable.is) in
    let low = small.0 in
    search rules

pub bounds-out-v : goal.bounds-out-v
bounds-out-v c =
    let s = c in
    let place : s.args.row + s.loop-i.i < 104 = search rules in
    let small = variable-small _ _ (s.requires.2 (s.args.row + s.loop-i.i) place) (sym s.from-own.ensures ∙ c.in-Variable.is) in
    small.0

pub loop-i-preserved : goal.loop-i-preserved
loop-i-preserved c =
    let s = c in
    let args = s.args in
    let l = c.loop-i in
    let i = l.i in
    let place : args.row + i < 104 = search rules in
    let Next = RowAssigned args.images args.source.now args.target.now args.row args.image (i + 1) in (
      search rules,
      elim c.match-own.branch [
        | in-Constant w ↦ ap length w.out-is ∙ l.invariant.1
        | in-Variable w ↦ ap length w.out-is ∙ simp length-set l.invariant.1
      ],
      elim c.match-own.branch [
        | in-Constant w ↦
            subst Next (sym w.out-is)
            (row-skip args.images args.source.now args.target.now args.row args.image i l.out l.invariant.2
            (code-constant _ _ (sym c.from-own.ensures ∙ w.in-Constant.is)))
        | in-Variable w ↦
            let small = variable-small _ _ (s.requires.2 (args.row + i) place) (sym c.from-own.ensures ∙ w.in-Variable.is) in
            subst Next (sym w.out-is)
            (row-store args.images args.source.now args.target.now args.row args.image i l.out l.invariant.2 w.in-Variable.v small.0 l.invariant.1
            small.1)
      ],
    )

pub returns : goal.returns
returns c =
    let args = c.args in
    let done : c.loop-i.i ≡ 8 = search rules in
    subst (λ (n : ℕ). RowAssigned args.images args.source.now args.target.now args.row args.image n c.loop-i.out) done c.loop-i.invariant.2
