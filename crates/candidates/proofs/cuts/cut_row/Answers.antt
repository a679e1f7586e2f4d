-- `cut_row` cuts the masks for the candidates of a row.
-- Assumes nothing.
use borrow.Author.Rules.{rules}
use mathlib.Core.Path.{◌≡◌, sym, ap, ◌∙◌, subst, subst₂}
use mathlib.Core.Bool.{false≢true}
use mathlib.Core.List.{List}
use Prim.Native.Nat.{ℕ, ◌+◌, ◌≤◌}
use native.Mathlib.Omega.{arith}
use lib.ListN.{get_or}
use Rattle.std.specs.Option.{ForSome}
use Rattle.std.specs.Prelude.{Option}
use Rattle.query.proofs.Codes.{code-variable}
use Rattle.candidates.specs.internal.Candidates.{row_start}
use Rattle.candidates.specs.internal.Sharing.{Alike, Cut, Shares, Meets, Joins}
use Rattle.candidates.proofs.Cutting.{cut-none, cut_as, cut-more}
use Rattle.candidates.proofs.cuts.cut_row.Goals as goal
use Rattle.candidates.proofs.cuts.cut_row.Goals.{then-other_has, else-other_has}

pub loop-q-preserved : goal.loop-q-preserved
loop-q-preserved c =
    let a = c.args in
    let l = c.loop-q in
    let source = a.source.now in
    let Share : ℕ → ℕ → Type 0 = Shares source a.size a.i a.j in
    let Join : ℕ → ℕ → ℕ → ℕ → Type 0 = Joins source a.target.now a.size a.i a.j in
    let Here : ℕ → ℕ → ℕ → ℕ → Type 0 = λ r d q e. q ≡ l.q → r ≡ a.r → Join r d q e in
    let code : get_or source (c.row_at.result + a.i) 0 ≡ get_or source (row_start a.size a.r + a.i) 0 =
    ap (λ (x : ℕ). get_or source (x + a.i) 0) c.row_at.ensures.0
    in
    let large : 2147483648 ≤ get_or source (row_start a.size a.r + a.i) 0 = subst (λ (x : ℕ). 2147483648 ≤ x) code (code-variable _ _ (sym c.from.ensures ∙ c.in-Variable.is)).0 in
    let same : get_or a.codes.now l.q 0 ≡ get_or source (row_start a.size l.q + a.j) 0 = c.requires.column l.q (search rules) in
    let step : Cut a.size a.count Here l.table c.if-other_has.table =
    elim c.if-other_has.branch [
      | then-other_has w ↦
          let has = c.other_has.ensures.0 w.if-other_has.true in
          let shared : Share a.r l.q = (has.0, large, sym same ∙ has.1 ∙ code) in
          subst (Cut a.size a.count Here l.table) (sym w.table-is)
          (cut_as a.size a.count (λ r d q e. q ≡ l.q → r ≡ a.r → Meets a.target.now a.size a.i a.j r d q e) Here l.table _
          (λ r d q e. ((λ p s t shared. p s t), (λ p s t. p s t (subst₂ Share (sym t) (sym s) shared)))) w.cut_pair.ensures)
      | else-other_has w ↦
          subst (Cut a.size a.count Here l.table) (sym w.table-is)
          (cut-none a.size a.count Here l.table
          (λ r d q e hr hd hq he s t shared.
          let here : Share a.r l.q = subst₂ Share t s shared in
          absurd (false≢true (sym w.if-other_has.false ∙ c.other_has.ensures.1 (here.0, same ∙ here.2 ∙ sym code)))))
    ]
    in
    let Made : Option (List ℕ) → Type 0 = λ masks. ForSome masks (Alike a.target.now a.count a.i a.j) in
    let made : Made c.if-other_has.masks =
    elim c.if-other_has.branch [
      | then-other_has w ↦ subst Made (sym w.masks-is) w.make_masks.ensures
      | else-other_has w ↦ subst Made (sym w.masks-is) l.invariant.2
    ]
    in (
      search rules,
      cut-more a.size a.count (λ r d q. q) (λ r d q e. r ≡ a.r → Join r d q e) l.q a.table.now l.table c.if-other_has.table l.invariant.1 step,
      made,
    )

pub returns-clause-cut : goal.returns-clause-cut
returns-clause-cut c r d q e hr hd hq he =
    let past : c.args.size + 1 ≤ c.loop-q.q = c.loop-q-test.false in
    let cut = c.loop-q.invariant.1 r d q e hr hd hq he in
    ((λ at. let m = cut.0 at in (m.0, m.1 (omega arith))), (λ w. cut.1 (w.0, (λ h. w.1))))
